-- A corner, computed: lanes with the words 5 and 6 agree where only one of the two is active.
use mathlib.Core.Path.{◌≡◌, refl}
use mathlib.Core.Bool.{true}
use Prim.Native.Nat.{◌+◌}
use Rattle.lanes.specs.Mask.{bit_at, bit}
use Rattle.lanes.specs.Lanes.{each_lane, all_below, uniform_of}

alone : uniform_of 2 (bit 1) (λ l. 5 + l.0) ≡ true
unfolding each_lane all_below bit_at
alone = refl
