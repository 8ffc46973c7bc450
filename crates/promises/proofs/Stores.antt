-- What a store leaves in each byte: the scalar store's byte, or that of every active lane whose access has it.
use Prim.Native.Nat.{ℕ, zero, suc, ◌+◌, ◌-◌, ◌<◌}
use mathlib.Core.Path.{◌≡◌, refl, sym, ap, ◌∙◌, subst}
use mathlib.Core.Bool.{Bool, true, false, ◌&&◌, true≢false}
use mathlib.Core.Logic.{⊎_elim}
use native.Mathlib.Nat.{lt_of_lt_of_le, le-suc, le_refl}
use native.Mathlib.Omega.{arith}
use lib.Dec.{ltb}
use lib.ListN.{length, get_or}
use borrow.Author.Tests.{ltb-true, lt-ltb}
use Rattle.answer.specs.Rows.{first}
use Rattle.answer.proofs.Rows.{both}
use Rattle.isa.specs.declared.Instr.{Instr}
use Rattle.isa.specs.declared.Instr.TheVariants as I
use Rattle.isa.specs.declared.Space.{Space}
use Rattle.isa.specs.declared.StoreOp.{StoreOp}
use Rattle.isa.specs.declared.XReg.{XReg}
use Rattle.isa.specs.declared.VReg.{VReg}
use Rattle.lanes.specs.declared.Lane.{Lane}
use Rattle.lanes.specs.Mask.{lane as nth}
use Rattle.lanes.specs.Lanes.{lane_of}
use Rattle.lanes.proofs.Laws.{newest}
use Rattle.memory.specs.Memory.{Memory, width_of, inside_of, has_of, Has, index_in, byte_at}
use Rattle.memory.specs.Memories.{Region, Data, Local, Memories, bytes_at, memory_at, overlap_of, inside_one, region_of}
use Rattle.memory.proofs.Access.{inside_true, inside_address, all_inside_at, inside_region, inside_at, bytes_at_lem, one_region}
use Rattle.memory.proofs.Agree.{has_true, true_has}
use Rattle.memory.proofs.Laws.{to_unwritten, lanes_unwritten}
use Rattle.definition.specs.State.{State, fixed_of, active, x_of, memory_of, scalar_at, lane_at}
use Rattle.definition.specs.Refuse.{refusals_of}
use Rattle.definition.specs.Exec.{effect, effect_of}
use Rattle.definition.proofs.Stored.{scalar_inside, scalar_stored, lanes_inside, lane_stored}
use Rattle.promises.specs.Lanes.{is_active, address_in, Touches, scalar, lane}
use Rattle.promises.specs.Written.{Becomes, stays, by_scalar, by_lanes}

-- ---- active lanes

pub active_of : (m : State) (l : Lane) → l.0 < (fixed_of m).numt → active m l ≡ true → is_active m l ≡ true
active_of m l h t = rw (lt-ltb l.0 (fixed_of m).numt h, t)

pub active_below : (m : State) (l : Lane) → is_active m l ≡ true → (l.0 < (fixed_of m).numt) × (active m l ≡ true)
active_below m l e =
    let p = both (ltb l.0 (fixed_of m).numt) (active m l) e in
    (ltb-true l.0 (fixed_of m).numt p.0, p.1)

-- ---- a lane that a test picks, or none
data Picked (p : Lane → Bool) (n : ℕ) : Type 0 where
  none : ((l : Lane) → l.0 < n → p l ≡ false) → Picked p n
  one : (l : Lane) → l.0 < n → p l ≡ true → Picked p n

picked : (p : Lane → Bool) (n : ℕ) → Picked p n
picked p zero = none (λ l h. absurd (omega arith))
picked p (suc n) = turn (p (nth n)) refl (picked p n)
  where
    turn : (t : Bool) → p (nth n) ≡ t → Picked p n → Picked p (suc n)
    turn true e x = one (nth n) (le_refl (suc n)) e
    turn false e (none f) = none (λ l h. ⊎_elim (λ q. ap p q ∙ e) (f l) (newest h))
    turn false e (one l b t) = one l (lt_of_lt_of_le b (le-suc n)) t

-- ---- what a store touches

-- a byte that is not touched stays
pub becomes_stays : (m : State) (a old new : ℕ) (i : Instr) → Becomes m a old new i → (Touches m a i → ⊥) → new ≡ old
becomes_stays m a old new i (stays t e) o = e
becomes_stays m a old new i (by_scalar k x y n h e) o = absurd (o (scalar k x y n h))
becomes_stays m a old new i (by_lanes s k x y n l t h e) o = absurd (o (lane s k x y n l t h))

untouched : (m : State) (a : ℕ) (k : StoreOp) (x y : XReg) (n : ℕ) → (Has (width_of k) (scalar_at x n m) a → ⊥) → Touches m a (I.Store k x y n) → ⊥
untouched m a k x y n o (scalar k1 x1 y1 n1 h) = o h

untouched_lanes : (m : State) (a : ℕ) (s : Space) (k : StoreOp) (x y : VReg) (n : ℕ) → ((l : Lane) → is_active m l ≡ true → Has (width_of k) (lane_at s x n m l) a → ⊥)
    → Touches m a (I.VStore s k x y n) → ⊥
untouched_lanes m a s k x y n o (lane s1 k1 x1 y1 n1 l t h) = o l t h

-- ---- each byte after a store

-- the memories don't overlap
abbrev pub Apart : State → Type 0
Apart m = overlap_of (memory_at Data (memory_of m)) (memory_at Local (memory_of m)) ≡ false

-- byte j of the memory r
module _ (m : State) (apart : Apart m) (r : Region) (j : ℕ) (below : j < length (bytes_at r m.bytes)) where
  abbrev E : Memories
  E = memory_of m

  abbrev M : Memory
  M = memory_at r E

  abbrev A : ℕ
  A = address_in r j m

  -- an access that has its address is one to this memory
  pub here : (w a : ℕ) → inside_one E w a ≡ true → Has w a A → region_of E w a ≡ r
  here w a e h =
      let z = inside_true (memory_at (region_of E w a) E) w a (inside_region E w a e) in
      let n : length M.bytes ≡ length (bytes_at r m.bytes) = ap length (bytes_at_lem E r) in
      one_region E apart A (region_of E w a) r (omega (arith, z.0, h.0), omega (arith, z.0, z.1, h.1)) (omega arith, omega (arith, n, below))

  -- byte j is the one at its address of an access that lies inside
  pub place : (w a : ℕ) → inside_of M w a ≡ true → Has w a A → index_in M a + (A - a) ≡ j
  place w a e h = let z = inside_true M w a e in omega (arith, h.0)

  -- what the instruction leaves there
  abbrev After : Instr → Type 0
  After i = Becomes m A (get_or (bytes_at r m.bytes) j 0) (get_or (bytes_at r (effect (effect_of i m) m).bytes) j 0) i

  pub scalar_becomes : (k : StoreOp) (x y : XReg) (n : ℕ) → first (refusals_of (I.Store k x y n) m) ≡ 0 → After (I.Store k x y n)
  unfolding effect_of
  scalar_becomes k x y n e = by (has_of w a A) refl
    where
      w : ℕ
      w = width_of k

      a : ℕ
      a = scalar_at x n m

      fits : inside_one E w a ≡ true
      fits = scalar_inside m k x y n e

      by : (t : Bool) → has_of w a A ≡ t → After (I.Store k x y n)
      by true t =
          let h = has_true w a A t in
          let q = here w a fits h in
          by_scalar k x y n h
          (subst (λ (i : ℕ). get_or (bytes_at r (effect (effect_of (I.Store k x y n) m) m).bytes) i 0 ≡ byte_at k a (x_of y m) A) (place w a (inside_at E w a fits r q) h)
          (scalar_stored m k x y n e r q (A - a) (omega (arith, h.0, h.1))))
      by false t =
          let no : Has w a A → ⊥ = λ h. true≢false (sym (true_has w a A h) ∙ t) in
          stays (untouched m A k x y n no) (to_unwritten k a (x_of y m) E r j (λ g p q. no (inside_address M w a (inside_at E w a fits r g) j p q)))

  pub lanes_become : (s : Space) (k : StoreOp) (x y : VReg) (n : ℕ) → first (refusals_of (I.VStore s k x y n) m) ≡ 0 → After (I.VStore s k x y n)
  unfolding effect_of
  lanes_become s k x y n e = by (picked picks N)
    where
      N : ℕ
      N = (fixed_of m).numt

      w : ℕ
      w = width_of k

      at : Lane → ℕ
      at = lane_at s x n m

      picks : Lane → Bool
      picks l = active m l && has_of w (at l) A

      fits : (l : Lane) → l.0 < N → active m l ≡ true → inside_one E w (at l) ≡ true
      fits = all_inside_at N (active m) (inside_one E w) at (sym (lanes_inside m s k x y n e))

      -- a lane that is not picked makes no access there
      no : (l : Lane) → picks l ≡ false → active m l ≡ true → Has w (at l) A → ⊥
      no l f t h =
          let z : picks l ≡ true = rw (t, true_has w (at l) A h) in
          true≢false (sym z ∙ f)

      -- the byte is that of any active lane whose access has it
      each : (l : Lane) → is_active m l ≡ true → Has w (at l) A → get_or (bytes_at r (effect (effect_of (I.VStore s k x y n) m) m).bytes) j 0 ≡ byte_at k (at l) (lane_of m.vector y l) A
      each l t h =
          let p = active_below m l t in
          let q = here w (at l) (fits l p.0 p.1) h in
          subst (λ (i : ℕ). get_or (bytes_at r (effect (effect_of (I.VStore s k x y n) m) m).bytes) i 0 ≡ byte_at k (at l) (lane_of m.vector y l) A)
          (place w (at l) (inside_at E w (at l) (fits l p.0 p.1) r q) h) (lane_stored m s k x y n e l p.0 p.1 r q (A - at l) (omega (arith, h.0, h.1)))

      by : Picked picks N → After (I.VStore s k x y n)
      by (none f) =
          stays (untouched_lanes m A s k x y n (λ l t. let p = active_below m l t in no l (f l p.0) p.1))
          (lanes_unwritten N (active m) k at (lane_of m.vector y) E r j (λ l c t g p q. no l (f l c) t (inside_address M w (at l) (inside_at E w (at l) (fits l c t) r g) j p q)))
      by (one l c t) =
          let b = both (active m l) (has_of w (at l) A) t in
          by_lanes s k x y n l (active_of m l c b.0) (has_true w (at l) A b.1) each

-- ---- what a byte becomes is one byte: the statement leaves no choice
pub becomes_one : (m : State) (a old x y : ℕ) (i : Instr) → Becomes m a old x i → Becomes m a old y i → x ≡ y
becomes_one m a old x y i (stays t e) (stays u f) = e ∙ sym f
becomes_one m a old x y i (stays t e) (by_scalar k p q n h f) = absurd (t (scalar k p q n h))
becomes_one m a old x y i (stays t e) (by_lanes s k p q n l c h f) = absurd (t (lane s k p q n l c h))
becomes_one m a old x y i (by_scalar k p q n h e) (stays u f) = absurd (u (scalar k p q n h))
becomes_one m a old x y i (by_scalar k p q n h e) (by_scalar k1 p1 q1 n1 h1 f) = e ∙ sym f
becomes_one m a old x y i (by_lanes s k p q n l c h e) (stays u f) = absurd (u (lane s k p q n l c h))
becomes_one m a old x y i (by_lanes s k p q n l c h e) (by_lanes s1 k1 p1 q1 n1 l1 c1 h1 f) = e l c h ∙ sym (f l c h)
