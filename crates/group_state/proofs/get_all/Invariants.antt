use Rattle.group_state.specs.Got.{Got}
use Rattle.group_state.proofs.get_all.Given as goal

abbrev pub invariant-loop-i : goal.invariant-loop-i
invariant-loop-i l = Got l.i l.state l.ws
