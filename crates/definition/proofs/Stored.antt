-- What a store leaves where none of its tests holds: each byte of its access is the word's, of each active lane's access that lane's.
use Prim.Native.Nat.{ℕ, ◌+◌, ◌<◌}
use mathlib.Core.Path.{◌≡◌, refl, sym}
use mathlib.Core.Bool.{true}
use mathlib.Core.List.{[], ◌∷◌}
use lib.ListN.{get_or}
use Rattle.answer.specs.Rows.{◌⇒◌, first}
use Rattle.answer.proofs.Rows.{passed}
use Rattle.isa.specs.declared.Instr.TheVariants as I
use Rattle.isa.specs.declared.Space.{Space}
use Rattle.isa.specs.declared.StoreOp.{StoreOp}
use Rattle.isa.specs.declared.XReg.{XReg}
use Rattle.isa.specs.declared.VReg.{VReg}
use Rattle.lanes.specs.declared.Lane.{Lane}
use Rattle.lanes.specs.Lanes.{lane_of}
use Rattle.memory.specs.Bytes.{le_bytes}
use Rattle.memory.specs.Memory.{width_of, index_in}
use Rattle.memory.specs.Memories.{Region, bytes_at, memory_at, inside_one, region_of}
use Rattle.memory.specs.LaneAccess.{all_inside, all_agree}
use Rattle.memory.proofs.Access.{inside_true, inside_at, bytes_at_lem}
use Rattle.memory.proofs.Laws.{to_at, lanes_stored}
use Rattle.definition.specs.State.{State, fixed_of, active, x_of, memory_of, scalar_at, lane_at}
use Rattle.definition.specs.Refuse.{some_crosses, some_outside, some_clash, refusals_of}
use Rattle.definition.specs.Exec.{effect, effect_of}

module _ (m : State) where
  module _ (k : StoreOp) (x y : XReg) (n : ℕ) (h : first (refusals_of (I.Store k x y n) m) ≡ 0) where
    pub scalar_inside : inside_one (memory_of m) (width_of k) (scalar_at x n m) ≡ true
    unfolding refusals_of
    scalar_inside = passed [] [] 9 (inside_one (memory_of m) (width_of k) (scalar_at x n m)) refl h

    pub scalar_stored : (r : Region) → region_of (memory_of m) (width_of k) (scalar_at x n m) ≡ r → (j : ℕ) → j < width_of k
        → get_or (bytes_at r (effect (effect_of (I.Store k x y n) m) m).bytes) (index_in (memory_at r (memory_of m)) (scalar_at x n m) + j) 0 ≡ get_or (le_bytes (width_of k) (x_of y m)) j 0
    unfolding effect_of
    scalar_stored r q =
        let w : ℕ = width_of k in
        let a : ℕ = scalar_at x n m in
        to_at k a (x_of y m) (memory_of m) r q (rw (← bytes_at_lem (memory_of m) r) (inside_true (memory_at r (memory_of m)) w a (inside_at (memory_of m) w a scalar_inside r q)).1)

  module _ (s : Space) (k : StoreOp) (x y : VReg) (n : ℕ) (h : first (refusals_of (I.VStore s k x y n) m) ≡ 0) where
    abbrev at : Lane → ℕ
    at = lane_at s x n m

    pub lanes_inside : all_inside (fixed_of m).numt (active m) (inside_one (memory_of m) (width_of k)) at ≡ true
    unfolding refusals_of
    lanes_inside =
        passed (14 ⇒ some_crosses s (width_of k) x n m ∷ []) (15 ⇒ some_clash k at y m ∷ []) 9 (all_inside (fixed_of m).numt (active m) (inside_one (memory_of m) (width_of k)) at) refl h

    pub lanes_agree : all_agree (fixed_of m).numt (active m) k at (lane_of m.vector y) ≡ true
    unfolding refusals_of
    lanes_agree = passed (14 ⇒ some_crosses s (width_of k) x n m ∷ 9 ⇒ some_outside (width_of k) at m ∷ []) [] 15 (all_agree (fixed_of m).numt (active m) k at (lane_of m.vector y)) refl h

    pub lane_stored : (l : Lane) → l.0 < (fixed_of m).numt → active m l ≡ true → (r : Region) → region_of (memory_of m) (width_of k) (at l) ≡ r → (j : ℕ) → j < width_of k
        → get_or (bytes_at r (effect (effect_of (I.VStore s k x y n) m) m).bytes) (index_in (memory_at r (memory_of m)) (at l) + j) 0 ≡ get_or (le_bytes (width_of k) (lane_of m.vector y l)) j 0
    unfolding effect_of
    lane_stored = lanes_stored (fixed_of m).numt (active m) k at (lane_of m.vector y) (memory_of m) (sym lanes_inside) (sym lanes_agree)
