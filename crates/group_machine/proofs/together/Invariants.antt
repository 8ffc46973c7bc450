use Rattle.group_machine.proofs.Taking.{Together}
use Rattle.group_machine.proofs.together.Given as goal

abbrev pub invariant-loop-i : goal.invariant-loop-i
invariant-loop-i l = Together l.i l.ws l.warps
