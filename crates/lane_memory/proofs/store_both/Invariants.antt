use mathlib.Core.Path.{◌≡◌}
use Rattle.lanes.specs.Mask.{bit}
use Rattle.lanes.specs.Rows.{at}
use Rattle.memory.specs.Memories.{contents, memories}
use Rattle.memory.specs.LaneAccess.{store_lanes}
use Rattle.lane_memory.proofs.store_both.Given as goal

abbrev pub invariant-loop-l : goal.invariant-loop-l
invariant-loop-l l = contents l.d l.local ≡ store_lanes l.l (bit l.mask) l.k (at l.o) (at l.x) (memories l.base l.near (contents l.initial.d l.initial.local))
