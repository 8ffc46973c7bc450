use mathlib.Core.Path.{◌≡◌}
use lib.ListN.{length}
use Rattle.group_state.specs.Got.{put_at}
use Rattle.group_state.proofs.Joined.{Putting}
use Rattle.group_state.proofs.put_all.Given as goal

abbrev pub invariant-loop-i : goal.invariant-loop-i
invariant-loop-i l = (length l.state ≡ length l.initial.state) × Putting l.initial.state l.turn (put_at l.ws) l.i l.state
