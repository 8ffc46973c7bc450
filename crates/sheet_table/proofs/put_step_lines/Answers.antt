use native.Mathlib.Omega.{arith}
use Rattle.text.proofs.Laws.{puts_then}
use Rattle.sheet_table.specs.SheetTable.{step_lines}
use Rattle.sheet_table.proofs.put_step_lines.Goals as goal

pub returns : goal.returns
unfolding step_lines
returns c = (puts_then (puts_then (puts_then c.put_text-one.ensures c.put_text-two.ensures) c.put_labelled-three.ensures.0) c.put_labelled.ensures.0, omega arith)
