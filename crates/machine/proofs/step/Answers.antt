use Rattle.answer.proofs.Numbers.{some_number}
use Rattle.machine.proofs.Runs.{one_step, refused_one}
use Rattle.machine.proofs.step.Goals as goal

pub returns-in-Ok : goal.returns-in-Ok
returns-in-Ok c = let e = one_step _ _ _ _ c.run-end.ensures.1 in rw c.in-Ok.is at e

pub returns-in-Err : goal.returns-in-Err
returns-in-Err c = refused_one _ _ _ _ _ (rw c.in-Err.is at c.run-end.ensures.1) (some_number _)
