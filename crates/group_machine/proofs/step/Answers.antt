use Rattle.group_machine.proofs.Held.{one_step}
use Rattle.group_machine.proofs.step.Goals as goal

pub returns : goal.returns
returns c = (c.run-end.ensures.1, one_step _ _ _ _ _ _ c.run-end.ensures.2)
