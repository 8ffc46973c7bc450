use Rattle.group_machine.specs.Held.{Fixeds}
use Rattle.group_machine.proofs.fixeds.Given as goal

abbrev pub invariant-loop-i : goal.invariant-loop-i
invariant-loop-i l = Fixeds l.i l.warps l.ws
