use native.Mathlib.Omega.{arith}
use Rattle.text.proofs.Laws.{puts_then}
use Rattle.sheet_text.specs.SheetText.{written_line}
use Rattle.sheet_text.proofs.put_written_line.Goals as goal

pub returns : goal.returns
unfolding written_line
returns c = (puts_then (puts_then (puts_then (puts_then (puts_then c.put_text-one.ensures c.put_text-two.ensures) c.put_number-three.ensures.0) c.put_text-four.ensures) c.put_number-five.ensures.0) c.put_text.ensures, omega arith)
