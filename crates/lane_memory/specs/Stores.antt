-- What a store by the lanes of a mask answers and leaves.
use Rattle.std.specs.Prelude.{◌≡◌, Bool, not, cond, List, [], ◌∷◌, ℕ, eqb}
use Rattle.answer.specs.Rows.{Row, ◌⇒◌, first}
use Rattle.isa.specs.declared.StoreOp.{StoreOp}
use Rattle.lanes.specs.declared.Lane.{Lane}
use Rattle.lanes.specs.Mask.{bit}
use Rattle.memory.specs.Memory.{width_of}
use Rattle.memory.specs.Memories.{Contents, Memories, inside_one}
use Rattle.memory.specs.LaneAccess.{all_inside, all_agree, store_lanes}

-- a lane is in neither memory, or two clash
abbrev pub store_rows : ℕ → ℕ → StoreOp → (Lane → ℕ) → (Lane → ℕ) → Memories → List (Row Bool)
store_rows n mask k at xs m = 9 ⇒ not (all_inside n (bit mask) (inside_one m (width_of k)) at) ∷ 15 ⇒ not (all_agree n (bit mask) k at xs) ∷ []

-- c is the number, and `after` the bytes of the memories m then
pub record Stored (c n mask : ℕ) (k : StoreOp) (at xs : Lane → ℕ) (m : Memories) (after : Contents) : Type 0 where
  pub code : c ≡ first (store_rows n mask k at xs m)
  pub bytes : after ≡ cond (eqb c 0) (store_lanes n (bit mask) k at xs m) m.bytes
