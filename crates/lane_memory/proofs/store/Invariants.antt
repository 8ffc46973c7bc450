use mathlib.Core.Path.{◌≡◌}
use mathlib.Core.List.{List}
use Prim.Native.Nat.{ℕ}
use Rattle.lanes.specs.Mask.{bit}
use Rattle.lanes.specs.Rows.{at}
use Rattle.memory.specs.Memories.{contents, memories}
use Rattle.memory.specs.LaneAccess.{store_lanes}
use Rattle.lane_memory.proofs.store.Given as goal

abbrev pub invariant-loop-l : goal.invariant-loop-l
invariant-loop-l l = (near : ℕ) (e : List ℕ) → contents l.d e ≡ store_lanes l.l (bit l.mask) l.k (at l.o) (at l.x) (memories l.base near (contents l.initial.d e))
