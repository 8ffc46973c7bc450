use Rattle.group_machine.specs.Held.{Apart}
use Rattle.group_machine.proofs.apart.Given as goal

abbrev pub invariant-loop-i : goal.invariant-loop-i
invariant-loop-i l = Apart l.i l.warps l.ws
