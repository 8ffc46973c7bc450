use Rattle.group_launch.proofs.Laws.{Fixing}
use Rattle.group_launch.proofs.fixeds.Given as goal

abbrev pub invariant-loop-i : goal.invariant-loop-i
invariant-loop-i l = Fixing l.i l.ws l.cards
