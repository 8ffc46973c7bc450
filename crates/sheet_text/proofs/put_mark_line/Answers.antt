use native.Mathlib.Omega.{arith}
use Rattle.text.proofs.Laws.{puts_then}
use Rattle.sheet_text.specs.SheetText.{mark_line}
use Rattle.sheet_text.proofs.put_mark_line.Goals as goal

pub returns : goal.returns
unfolding mark_line
returns c = (puts_then (puts_then (puts_then c.put_text-one.ensures c.put_text-two.ensures) c.put_verdict-three.ensures.0) c.put_text.ensures, omega arith)
