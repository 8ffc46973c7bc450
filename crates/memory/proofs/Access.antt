-- The access rule as orders, and the tests that the code makes of it.
use mathlib.Core.Path.{◌≡◌, refl, sym, ap, subst, ◌∙◌}
use mathlib.Core.Bool.{Bool, true, false, not, cond, ◌&&◌, ◌||◌, true≢false}
use mathlib.Core.List.{List}
use Prim.Native.Nat.{ℕ, ◌+◌, ◌-◌, ◌^◌, ◌≤◌, ◌<◌}
use native.Mathlib.Omega.{arith}
use lib.Bits.{bit_and}
use lib.Dec.{eqb, ltb, leb}
use lib.ListN.{length}
use borrow.Author.Tests.{lt-ltb, le-ltb, leb-true, leb-false, not-true}
use Rattle.word.specs.Word.{sub_of}
use Rattle.lanes.specs.declared.Lane.{Lane}
use Rattle.lanes.specs.Mask.{bit}
use Rattle.lanes.specs.Lanes.{mask_of, all_lanes, ok_if}
use Rattle.lanes.proofs.Laws.{all_at, all_hold, all_same, ok_at, ok_when, ok_not, both_left, both_right}
use Rattle.lanes.proofs.MaskLaws.{and_bits, mask_zero}
use Rattle.memory.specs.Memory.{Memory, memory, end_of, MemoryOk, inside_of, index_in, data_limit, memory_ok_of}
use Rattle.memory.specs.Memories.{Region, Data, Local, Contents, Memories, memories, bytes_at, memory_at, overlap_of, memories_ok_of, MemoriesOk, inside_one, region_of}
use Rattle.memory.specs.LaneAccess.{lane_inside, all_inside}

pub memory_ok : (m : Memory) → memory_ok_of m ≡ true → MemoryOk m
memory_ok m e =
    let a : Bool = leb (length m.bytes) data_limit in
    let b : Bool = leb (end_of m) (2 ^ 32) in
    (leb-true _ _ (both_left a b e), leb-true _ _ (both_right a b e))

module _ (m : Memory) (w a : ℕ) where
  -- an access that lies inside: its first byte has an index, and the bytes from there on are the memory's
  pub inside_true : inside_of m w a ≡ true → (m.base ≤ a) × (index_in m a + w ≤ length m.bytes)
  inside_true e =
      let low = leb-true m.base a (both_left (leb m.base a) (leb (a + w) (end_of m)) e) in
      let high = leb-true (a + w) (end_of m) (both_right (leb m.base a) (leb (a + w) (end_of m)) e) in
      (low, omega arith)

  -- the index of a byte of it, as an address
  pub inside_address : inside_of m w a ≡ true → (i : ℕ) → index_in m a ≤ i → i < index_in m a + w → (a ≤ m.base + i) × (m.base + i < a + w)
  inside_address e i h k = let z = inside_true e in (omega arith, omega arith)

  -- the code's test: the wrapping difference is one of the places that w bytes can have
  pub place_inside : a < 2 ^ 32 → MemoryOk m → 1 ≤ w → ltb (sub_of a m.base) (length m.bytes + 1 - w) ≡ inside_of m w a
  place_inside h k z = go (leb m.base a) (leb (a + w) (end_of m)) refl refl
    where
      go : (t s : Bool) → leb m.base a ≡ t → leb (a + w) (end_of m) ≡ s → ltb (sub_of a m.base) (length m.bytes + 1 - w) ≡ (t && s)
      go true true e q = lt-ltb (sub_of a m.base) (length m.bytes + 1 - w) (omega (arith, leb-true m.base a e, leb-true (a + w) (end_of m) q))
      go true false e q = le-ltb (sub_of a m.base) (length m.bytes + 1 - w) (omega (arith, leb-true m.base a e, leb-false (a + w) (end_of m) q))
      go false s e q = le-ltb (sub_of a m.base) (length m.bytes + 1 - w) (omega (arith, leb-false m.base a e))

-- what lies inside depends on the length of the bytes alone
pub inside_length : (b : ℕ) (d e : List ℕ) (w a : ℕ) → length d ≡ length e → inside_of (memory b d) w a ≡ inside_of (memory b e) w a
inside_length b d e w a h = ap (λ (n : ℕ). leb b a && leb (a + w) (b + n)) h

-- where every access by lanes lies inside, each active lane's does
pub all_inside_at : (n : ℕ) (on : Lane → Bool) (inside : ℕ → Bool) (at : Lane → ℕ) → true ≡ all_inside n on inside at → (l : Lane) → l.0 < n → on l ≡ true → inside (at l) ≡ true
all_inside_at n on inside at all l h t = ok_at (on l) (inside (at l)) (all_at (lane_inside on inside at) n l all h) t

-- a test pass: no active lane is among those whose access fails the test p
pub none_fails : (p : Lane → Bool) (n mask out : ℕ) → mask < 2 ^ n → out ≡ mask_of n (λ l. not (p l)) → eqb (bit_and out mask) 0 ≡ all_lanes n (λ l. ok_if (bit mask l) (p l))
none_fails p n mask out h e =
    ap (λ (x : ℕ). eqb (bit_and x mask) 0) e
    ∙ ap (λ (x : ℕ). eqb x 0) (and_bits (λ l. not (p l)) n mask h)
    ∙ mask_zero (λ l. bit mask l && not (p l)) n
    ∙ all_same (λ l. not (bit mask l && not (p l))) (λ l. ok_if (bit mask l) (p l)) n (λ l k. ok_not (bit mask l) (p l) (p l) refl)

-- ---- the two memories

pub memories_ok : (m : Memories) → memories_ok_of m ≡ true → MemoriesOk m
memories_ok m e =
    let a : Bool = memory_ok_of (memory_at Data m) in
    let b : Bool = memory_ok_of (memory_at Local m) in
    let c : Bool = not (overlap_of (memory_at Data m) (memory_at Local m)) in
    let rest : (b && c) ≡ true = both_right a (b && c) e in
    (memory_ok (memory_at Data m) (both_left a (b && c) e), memory_ok (memory_at Local m) (both_left b c rest))

pub memories_apart : (m : Memories) → memories_ok_of m ≡ true → overlap_of (memory_at Data m) (memory_at Local m) ≡ false
memories_apart m e =
    let a : Bool = memory_ok_of (memory_at Data m) in
    let b : Bool = memory_ok_of (memory_at Local m) in
    let c : Bool = overlap_of (memory_at Data m) (memory_at Local m) in
    not-true c (both_right b (not c) (both_right a (b && not c) e))

-- an access that lies in one of them lies in that of its region
pub inside_region : (m : Memories) (w a : ℕ) → inside_one m w a ≡ true → inside_of (memory_at (region_of m w a) m) w a ≡ true
inside_region m w a e = by (inside_of (memory_at Data m) w a) refl e
  where
    by : (t : Bool) → inside_of (memory_at Data m) w a ≡ t → (t || inside_of (memory_at Local m) w a) ≡ true → inside_of (memory_at (cond t Data Local) m) w a ≡ true
    by true q h = q
    by false q h = h

pub inside_at : (m : Memories) (w a : ℕ) → inside_one m w a ≡ true → (r : Region) → region_of m w a ≡ r → inside_of (memory_at r m) w a ≡ true
inside_at m w a e r q = subst (λ (s : Region). inside_of (memory_at s m) w a ≡ true) q (inside_region m w a e)

pub bytes_at_lem : (m : Memories) (r : Region) → (memory_at r m).bytes ≡ bytes_at r m.bytes
bytes_at_lem m Data = refl
bytes_at_lem m Local = refl

-- an access that lies in one of them ends at 2 ^ 32 at the latest
pub inside_last : (m : Memories) → MemoriesOk m → (w a : ℕ) → inside_one m w a ≡ true → a + w ≤ 2 ^ 32
inside_last m ok w a e = by (region_of m w a) (inside_region m w a e)
  where
    by : (r : Region) → inside_of (memory_at r m) w a ≡ true → a + w ≤ 2 ^ 32
    by Data h = let z = inside_true (memory_at Data m) w a h in omega (arith, z.0, z.1, ok.0.1)
    by Local h = let z = inside_true (memory_at Local m) w a h in omega (arith, z.0, z.1, ok.1.1)

-- memories that don't overlap have no address in common
module _ (m : Memories) (e : overlap_of (memory_at Data m) (memory_at Local m) ≡ false) (a : ℕ) where
  abbrev has : Region → Type 0
  has r = ((memory_at r m).base ≤ a) × (a < end_of (memory_at r m))

  not_both : has Data → has Local → ⊥
  not_both p q =
      let d : Memory = memory_at Data m in
      let l : Memory = memory_at Local m in
      let z : overlap_of d l ≡ true = rw (lt-ltb d.base (end_of d) (omega (arith, p.0, p.1)), lt-ltb l.base (end_of l) (omega (arith, q.0, q.1)), lt-ltb d.base (end_of l) (omega (arith, p.0, q.1)), lt-ltb l.base (end_of d) (omega (arith, q.0, p.1))) in
      true≢false (sym z ∙ e)

  pub one_region : (r s : Region) → has r → has s → r ≡ s
  one_region Data Data p q = refl
  one_region Data Local p q = absurd (not_both p q)
  one_region Local Data p q = absurd (not_both q p)
  one_region Local Local p q = refl

-- the code's two tests of an access
module _ (m : Memories) (w a : ℕ) where
  pub in_data : inside_of (memory_at Data m) w a ≡ true → inside_one m w a ≡ true
  in_data e = rw e

  pub in_local : inside_of (memory_at Data m) w a ≡ false → inside_of (memory_at Local m) w a ≡ true → inside_one m w a ≡ true
  in_local e f = rw (e, f)

  pub then_local : inside_one m w a ≡ true → inside_of (memory_at Data m) w a ≡ false → inside_of (memory_at Local m) w a ≡ true
  then_local h e = rw e at h

  pub in_neither : inside_of (memory_at Data m) w a ≡ false → inside_of (memory_at Local m) w a ≡ false → inside_one m w a ≡ false
  in_neither e f = rw (e, f)

-- where an access lies depends on the lengths alone
module _ (b near : ℕ) (c e : Contents) (w a : ℕ) (same : (r : Region) → length (bytes_at r c) ≡ length (bytes_at r e)) where
  pub inside_same : (r : Region) → inside_of (memory_at r (memories b near c)) w a ≡ inside_of (memory_at r (memories b near e)) w a
  inside_same Data = inside_length b c.data_bytes e.data_bytes w a (same Data)
  inside_same Local = inside_length near c.local_bytes e.local_bytes w a (same Local)

  pub region_same : region_of (memories b near c) w a ≡ region_of (memories b near e) w a
  region_same = ap (λ (t : Bool). cond t Data Local) (inside_same Data)

-- where every access by lanes lies in data memory, it lies in one of the memories
pub all_data : (n : ℕ) (on : Lane → Bool) (m : Memories) (w : ℕ) (at : Lane → ℕ) → true ≡ all_inside n on (inside_of (memory_at Data m) w) at → true ≡ all_inside n on (inside_one m w) at
all_data n on m w at all =
    all_hold (lane_inside on (inside_one m w) at) n
    (λ l h. ok_when (on l) (inside_one m w (at l)) (λ t. in_data m w (at l) (all_inside_at n on (inside_of (memory_at Data m) w) at all l h t)))
