use mathlib.Core.Bool.{and-true}
use Rattle.sheet_table.specs.SheetTable.{has_step}
use Rattle.sheet_table.proofs.has_step.Goals as goal

pub returns : goal.returns
unfolding has_step
returns c = rw (← c.steps_in-most.ensures, ← c.steps_in-there.ensures) (simp and-true)
