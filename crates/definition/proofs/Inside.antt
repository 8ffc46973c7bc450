-- Where no test of a store holds, the bytes that it overwrites lie inside one of the memories.
use Prim.Native.Nat.{ℕ, ◌+◌, ◌≤◌, ◌<◌}
use mathlib.Core.Path.{◌≡◌, refl, sym}
use mathlib.Core.Bool.{Bool, true}
use mathlib.Core.List.{List, [], ◌∷◌}
use lib.ListN.{length}
use Rattle.answer.specs.Rows.{◌⇒◌, first}
use Rattle.answer.proofs.Rows.{passed}
use Rattle.isa.specs.declared.Instr.{Instr}
use Rattle.isa.specs.declared.Instr.TheVariants as I
use Rattle.memory.specs.Memory.{width_of, index_in}
use Rattle.memory.specs.Memories.{Region, bytes_at, memory_at, inside_one, region_of}
use Rattle.lanes.specs.declared.Lane.{Lane}
use Rattle.memory.specs.LaneAccess.{all_inside}
use Rattle.memory.proofs.Access.{inside_true, all_inside_at, inside_at, bytes_at_lem}
use Rattle.definition.specs.State.{State, fixed_of, active, memory_of, scalar_at, lane_at, instr_at}
use Rattle.definition.specs.Refuse.{some_crosses, some_clash, refusals_of}
use Rattle.definition.specs.Step.{step_of}
use Rattle.definition.proofs.Target.{Target, nothing, scalar, split, lanes, bytes, target_of}
use Rattle.definition.proofs.Sound.{step_clear}

abbrev pub Lies : State → Target → Type 0
Lies m nothing = Unit {0}
Lies m (scalar r) = Unit {0}
Lies m (split j) = Unit {0}
Lies m (lanes on r) = Unit {0}
Lies m (bytes n on e width at) = (l : Lane) → l.0 < n → on l ≡ true → (r : Region) → region_of e width (at l) ≡ r → index_in (memory_at r e) (at l) + width ≤ length (bytes_at r m.bytes)

module _ (m : State) where
  abbrev fits : ℕ → ℕ → Bool
  fits w a = inside_one (memory_of m) w a

  abbrev all_fit : ℕ → (Lane → ℕ) → Bool
  all_fit w at = all_inside (fixed_of m).numt (active m) (inside_one (memory_of m) w) at

  one : (w a : ℕ) → fits w a ≡ true → (r : Region) → region_of (memory_of m) w a ≡ r → index_in (memory_at r (memory_of m)) a + w ≤ length (bytes_at r m.bytes)
  one w a t r q = rw (← bytes_at_lem (memory_of m) r) (inside_true (memory_at r (memory_of m)) w a (inside_at (memory_of m) w a t r q)).1

  each : (w : ℕ) (at : Lane → ℕ) → all_fit w at ≡ true → (l : Lane) → l.0 < (fixed_of m).numt → active m l ≡ true → (r : Region) → region_of (memory_of m) w (at l) ≡ r → index_in (memory_at r (memory_of m)) (at l) + w ≤ length (bytes_at r m.bytes)
  each w at e l b t = one w (at l) (all_inside_at (fixed_of m).numt (active m) (inside_one (memory_of m) w) at (sym e) l b t)

  pub lies : (i : Instr) → first (refusals_of i m) ≡ 0 → Lies m (target_of i m)
  unfolding target_of refusals_of
  lies I.Refused h = tt
  lies (I.Lui r n) h = tt
  lies (I.Auipc r n) h = tt
  lies (I.Jal r n) h = tt
  lies (I.Jalr r a n) h = tt
  lies (I.Branch c a b n) h = tt
  lies (I.Load k r a n) h = tt
  lies (I.Store k a b n) h = λ l c t. one (width_of k) (scalar_at a n m) (passed [] [] 9 (fits (width_of k) (scalar_at a n m)) refl h)
  lies (I.OpImm o r a n) h = tt
  lies (I.OpReg o r a b) h = tt
  lies (I.Fence r a n) h = tt
  lies (I.Csr o r a n) h = tt
  lies (I.CsrImm o r i n) h = tt
  lies (I.Vector o a) h = tt
  lies (I.VMove r s) h = tt
  lies (I.VMerge r b s) h = tt
  lies (I.VMoveXS r b) h = tt
  lies (I.VMoveSX r a) h = tt
  lies (I.Vid t r) h = tt
  lies (I.VBranch c a b n) h = tt
  lies I.Join h = tt
  lies (I.SetRpc r a n) h = tt
  lies I.EndPrg h = tt
  lies (I.Barrier n) h = tt
  lies (I.VLoad s k r a n) h = tt
  lies (I.RegExt n) h = tt
  lies (I.RegExtI n) h = tt
  lies (I.VStore s k a b n) h = each (width_of k) (lane_at s a n m) (passed (14 ⇒ some_crosses s (width_of k) a n m ∷ []) (15 ⇒ some_clash k (lane_at s a n m) b m ∷ []) 9 (all_fit (width_of k) (lane_at s a n m)) refl h)

-- A taken step overwrites bytes of the memories alone.
pub step_inside : (k : List ℕ) (m : State) → (step_of k m).code ≡ 0 → Lies m (target_of (instr_at k m) m)
step_inside k m z = lies m (instr_at k m) (step_clear k m z).rest
