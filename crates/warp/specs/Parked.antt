-- In how many open splits a lane is parked, and what it is for a mask to be cut in two.
use Rattle.std.specs.Prelude.{ℕ, zero, suc, ◌+◌, ◌<◌, ◌≡◌, List, get_or}
use Rattle.lanes.specs.declared.Lane.{Lane}
use Rattle.lanes.specs.Mask.{bit_at}
use Rattle.warp.specs.declared.Split.{Split}
use Rattle.warp.specs.Warp.{zero_split}
use Rattle.warp.specs.WellFormed.{parked_of}

-- in how many of the first d splits lane l is parked
unfoldable pub parked_in : Lane → List Split → ℕ → ℕ
parked_in l ss zero = 0
parked_in l ss (suc d) = bit_at l.0 (parked_of (get_or ss d zero_split)) + parked_in l ss d

-- m is cut in two: neither part is empty, and each lane of m is in one of them alone
pub record CutInTwo (m a b : ℕ) : Type 0 where
  pub one : 0 < a
  pub other : 0 < b
  pub lanes : (l : Lane) → bit_at l.0 m ≡ bit_at l.0 a + bit_at l.0 b
