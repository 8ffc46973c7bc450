use native.Mathlib.Omega.{arith}
use Rattle.text.proofs.Laws.{puts_then}
use Rattle.sheet_text.specs.SheetText.{count_text}
use Rattle.sheet_text.proofs.put_count.Goals as goal

pub returns : goal.returns
unfolding count_text
returns c = (puts_then (puts_then (puts_then c.put_number-one.ensures.0 c.put_text-two.ensures) c.put_number-three.ensures.0) c.put_text.ensures, omega arith)
