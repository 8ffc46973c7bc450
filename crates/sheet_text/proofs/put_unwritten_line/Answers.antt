use native.Mathlib.Omega.{arith}
use Rattle.text.proofs.Laws.{puts_then}
use Rattle.sheet_text.specs.SheetText.{unwritten_line}
use Rattle.sheet_text.proofs.put_unwritten_line.Goals as goal

pub returns : goal.returns
unfolding unwritten_line
returns c = (puts_then c.put_text-one.ensures c.put_text.ensures, omega arith)
