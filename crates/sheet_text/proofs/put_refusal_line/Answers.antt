use native.Mathlib.Omega.{arith}
use Rattle.text.proofs.Laws.{puts_then}
use Rattle.sheet_text.specs.SheetText.{refusal_line}
use Rattle.sheet_text.proofs.put_refusal_line.Goals as goal

pub returns : goal.returns
unfolding refusal_line
returns c = (puts_then c.put_refusal-one.ensures.0 c.put_text.ensures, omega arith)
