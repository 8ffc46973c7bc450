-- What loads and stores keep, and what they depend on, over the lane count.
use mathlib.Core.Path.{◌≡◌, refl, sym, ap, ap₂, ◌∙◌, subst}
use mathlib.Core.Bool.{Bool, true, false, cond, true≢false}
use mathlib.Core.List.{List, [], ◌∷◌}
use mathlib.Core.Logic.{◌⊎◌, inl, inr, ⊎_elim}
use Prim.Native.Nat.{ℕ, zero, suc, ◌+◌, ◌-◌, ◌/◌, ◌≤◌, ◌<◌}
use native.Mathlib.Nat.{add-zero, add-suc, suc-add, le_of_suc-le-suc}
use native.Mathlib.Omega.{arith}
use lib.ListN.{length, get_or, set, length-set}
use lib.Seq.{sets, length-sets, get_or-set_same, get_or-set_other}
use Rattle.isa.specs.declared.LoadOp.{LoadOp}
use Rattle.isa.specs.declared.Space.{Space}
use Rattle.isa.specs.declared.Space.TheVariants as space
use Rattle.isa.specs.declared.StoreOp.{StoreOp}
use Rattle.isa.specs.declared.VReg.{VReg}
use Rattle.lanes.specs.declared.Lane.{Lane}
use Rattle.lanes.specs.Lanes.{lane_of, write_lanes}
use Rattle.lanes.proofs.Laws.{newest, each_grows, each_keeps, each_same, write_same, all_hold, all_same, ok_when, ok_same}
use Rattle.std.specs.Prelude.{Some, None}
use Rattle.memory.specs.declared.Private.{Private}
use Rattle.memory.specs.Bytes.{le_bytes}
use Rattle.memory.specs.Memory.{Memory, size_of, width_of, inside_of, has_of, index_in, load_of, store_of}
use Rattle.memory.specs.Memories.{Region, Data, Local, Contents, contents, alone, Memories, memories, bytes_at, with_bytes, memory_at, inside_one, region_of, load_from, store_to}
use Rattle.memory.specs.Address.{address_of, lane_address, in_word}
use Rattle.memory.specs.LaneAccess.{lane_inside, all_inside, all_in_word, all_agree, store_lanes}
use Rattle.memory.proofs.Access.{inside_true, all_inside_at, inside_at, bytes_at_lem, region_same}
use Rattle.memory.proofs.Agree.{has_true, true_has, all_agreed}

-- what a scalar load finds
pub found_inside : (t : Bool) (y v : ℕ) → Some y ≡ cond t (Some v) None → (t ≡ true) × (y ≡ v)
found_inside true y v e = (refl, cc)
found_inside false y v e = let z : true ≡ false = cc in (cc, cc)

pub outside_is : (t : Bool) (v : ℕ) → None ≡ cond t (Some v) None → t ≡ false
outside_is true v e = cc
outside_is false v e = refl

-- a lane's address depends on that lane's word alone
pub address_only : (s : Space) (p : Private) (v w : List ℕ) (r : VReg) (off : ℕ) (l : Lane) → lane_of v r l ≡ lane_of w r l → lane_address s p v r off l ≡ lane_address s p w r off l
address_only s p v w r off l same = ap (λ (x : ℕ). address_of s p x off l) same

-- whether an access by lanes crosses a word boundary depends on active lanes' words only, and a plain one crosses none
module _ (n : ℕ) (on : Lane → Bool) (w off : ℕ) where
  pub word_only : (s : Space) (xs xs' : Lane → ℕ) → ((l : Lane) → l.0 < n → on l ≡ true → xs l ≡ xs' l) → all_in_word n on s w xs off ≡ all_in_word n on s w xs' off
  word_only s xs xs' same = all_same _ _ n (λ l h. ok_same (on l) (in_word s w (xs l) off) (in_word s w (xs' l) off) (λ t. ap (λ (x : ℕ). in_word s w x off) (same l h t)))

  pub plain_in_word : (xs : Lane → ℕ) → true ≡ all_in_word n on space.Plain w xs off
  plain_in_word xs = all_hold _ n (λ l h. ok_when (on l) true (λ t. refl))

-- ---- what active lanes' addresses decide
module _ (n : ℕ) (on : Lane → Bool) (m : Memories) (at at' : Lane → ℕ) (same : (l : Lane) → l.0 < n → on l ≡ true → at l ≡ at' l) where
  -- whether an access by lanes is refused depends on active lanes only
  pub inside_only : (w : ℕ) → all_inside n on (inside_one m w) at ≡ all_inside n on (inside_one m w) at'
  inside_only w =
      all_same (lane_inside on (inside_one m w) at) (lane_inside on (inside_one m w) at') n
      (λ l h. ok_same (on l) (inside_one m w (at l)) (inside_one m w (at' l)) (λ t. ap (inside_one m w) (same l h t)))

  -- and so does what is loaded
  pub load_only : (k : LoadOp) (vd : VReg) (v : List ℕ) → write_lanes n on vd (λ l. load_from k m (at l)) v ≡ write_lanes n on vd (λ l. load_from k m (at' l)) v
  load_only k vd v = write_same on vd (λ l. load_from k m (at l)) (λ l. load_from k m (at' l)) v n (λ l h t. ap (load_from k m) (same l h t))

  -- and what is stored
  pub store_only : (k : StoreOp) (xs xs' : Lane → ℕ) → ((l : Lane) → l.0 < n → on l ≡ true → xs l ≡ xs' l) → store_lanes n on k at xs m ≡ store_lanes n on k at' xs' m
  store_only k xs xs' e =
      each_same on on _ _ m.bytes n (λ l h. refl) (λ l u h t. ap₂ (λ (a x : ℕ). store_to k a x (memories m.dataBase m.lds u)) (same l h t) (e l h t))

-- ---- bytes
pub length_bytes : (n x : ℕ) → length (le_bytes n x) ≡ n
unfolding le_bytes
length_bytes zero x = refl
length_bytes (suc n) x = ap suc (length_bytes n (x / 256))

-- an index that is none of those set keeps its byte
sets_other : (d : List ℕ) (i : ℕ) (bs : List ℕ) (j : ℕ) → (i ≤ j → j < i + length bs → ⊥) → get_or (sets d i bs) j 0 ≡ get_or d j 0
sets_other d i [] j o = refl
sets_other d i (b ∷ bs) j o = sets_other (set d i b) (suc i) bs j (λ h k. o (omega arith) (omega arith)) ∙ get_or-set_other d i j b 0 (λ e. o (omega arith) (omega arith))

-- one of those set has its byte
sets_at : (d : List ℕ) (i : ℕ) (bs : List ℕ) (j : ℕ) → j < length bs → i + length bs ≤ length d → get_or (sets d i bs) (i + j) 0 ≡ get_or bs j 0
sets_at d i [] j h k = absurd (omega arith)
sets_at d i (b ∷ bs) zero h k =
    ap (λ (m : ℕ). get_or (sets (set d i b) (suc i) bs) m 0) (add-zero i) ∙ sets_other (set d i b) (suc i) bs i (λ p q. omega arith) ∙ get_or-set_same d i b 0 (omega arith)
sets_at d i (b ∷ bs) (suc j) h k =
    ap (λ (m : ℕ). get_or (sets (set d i b) (suc i) bs) m 0) (add-suc i j ∙ sym (suc-add i j))
    ∙ sets_at (set d i b) (suc i) bs j (le_of_suc-le-suc h) (simp length-set (omega arith))

-- ---- one store
module _ (k : StoreOp) (a x : ℕ) (m : Memory) where
  pub store_length : length (store_of k a x m) ≡ length m.bytes
  store_length = length-sets m.bytes (index_in m a) (le_bytes (width_of k) x)

  -- a byte that the access does not have stays
  pub store_unwritten : (i : ℕ) → (index_in m a ≤ i → i < index_in m a + width_of k → ⊥) → get_or (store_of k a x m) i 0 ≡ get_or m.bytes i 0
  store_unwritten i o =
      let len = length_bytes (width_of k) x in
      sets_other m.bytes (index_in m a) (le_bytes (width_of k) x) i (λ h z. o h (omega arith))

  -- and one that it has is the word's
  pub store_at : index_in m a + width_of k ≤ length m.bytes → (j : ℕ) → j < width_of k → get_or (store_of k a x m) (index_in m a + j) 0 ≡ get_or (le_bytes (width_of k) x) j 0
  store_at h j b =
      let len = length_bytes (width_of k) x in
      sets_at m.bytes (index_in m a) (le_bytes (width_of k) x) j (omega arith) (omega arith)

-- ---- one access to the two memories

-- what a load finds in the memory that has the access, and what a store makes of it
module _ (m : Memories) (a : ℕ) where
  module _ (k : LoadOp) where
    pub load_data : inside_of (memory_at Data m) (size_of k) a ≡ true → load_from k m a ≡ load_of k (memory_at Data m) a
    unfolding load_from
    load_data e = rw e

    pub load_local : inside_of (memory_at Data m) (size_of k) a ≡ false → load_from k m a ≡ load_of k (memory_at Local m) a
    unfolding load_from
    load_local e = rw e

  module _ (k : StoreOp) (x : ℕ) where
    pub store_data : inside_of (memory_at Data m) (width_of k) a ≡ true → store_to k a x m ≡ contents (store_of k a x (memory_at Data m)) m.bytes.local_bytes
    unfolding store_to
    store_data e = rw e

    pub store_local : inside_of (memory_at Data m) (width_of k) a ≡ false → store_to k a x m ≡ contents m.bytes.data_bytes (store_of k a x (memory_at Local m))
    unfolding store_to
    store_local e = rw e

-- of the same lengths
abbrev pub Same : Contents → Contents → Type 0
Same c e = (r : Region) → length (bytes_at r c) ≡ length (bytes_at r e)

-- a local memory of no bytes stays one
pub alone_still : (c : Contents) (d : List ℕ) → Same c (alone d) → alone c.data_bytes ≡ c
alone_still c d same = ap (contents c.data_bytes) (none c.local_bytes (same Local))
  where
    none : (l : List ℕ) → length l ≡ 0 → [] ≡ l
    none [] e = refl
    none (x ∷ l) e = absurd (omega arith)

module _ (k : StoreOp) (a x : ℕ) (m : Memories) where
  -- the store goes to the region s
  abbrev into : Region → Contents
  into s = with_bytes s (store_of k a x (memory_at s m)) m.bytes

  pub store_same : Same (store_to k a x m) m.bytes
  unfolding store_to
  store_same = by (region_of m (width_of k) a)
    where
      by : (s : Region) → Same (into s) m.bytes
      by Data Data = store_length k a x (memory_at Data m)
      by Data Local = refl
      by Local Data = refl
      by Local Local = store_length k a x (memory_at Local m)

  -- a byte of the region r that the access does not have stays
  pub to_unwritten : (r : Region) (i : ℕ) → (region_of m (width_of k) a ≡ r → index_in (memory_at r m) a ≤ i → i < index_in (memory_at r m) a + width_of k → ⊥)
      → get_or (bytes_at r (store_to k a x m)) i 0 ≡ get_or (bytes_at r m.bytes) i 0
  unfolding store_to
  to_unwritten r i o = by (region_of m (width_of k) a) refl r o
    where
      by : (s : Region) → region_of m (width_of k) a ≡ s → (r : Region) → (s ≡ r → index_in (memory_at r m) a ≤ i → i < index_in (memory_at r m) a + width_of k → ⊥)
          → get_or (bytes_at r (into s)) i 0 ≡ get_or (bytes_at r m.bytes) i 0
      by Data q Data o = store_unwritten k a x (memory_at Data m) i (o refl)
      by Data q Local o = refl
      by Local q Data o = refl
      by Local q Local o = store_unwritten k a x (memory_at Local m) i (o refl)

  -- and one that it has is the word's
  pub to_at : (r : Region) → region_of m (width_of k) a ≡ r → index_in (memory_at r m) a + width_of k ≤ length (bytes_at r m.bytes) → (j : ℕ) → j < width_of k
      → get_or (bytes_at r (store_to k a x m)) (index_in (memory_at r m) a + j) 0 ≡ get_or (le_bytes (width_of k) x) j 0
  unfolding store_to
  to_at r q h j b = rw q (by r h)
    where
      by : (r : Region) → index_in (memory_at r m) a + width_of k ≤ length (bytes_at r m.bytes) → get_or (bytes_at r (into r)) (index_in (memory_at r m) a + j) 0 ≡ get_or (le_bytes (width_of k) x) j 0
      by Data h = store_at k a x (memory_at Data m) h j b
      by Local h = store_at k a x (memory_at Local m) h j b

abbrev is_data : Region → Bool
is_data Data = true
is_data Local = false

-- the same region or another
other_region : (s r : Region) → (s ≡ r) ⊎ (s ≡ r → ⊥)
other_region Data Data = inl refl
other_region Data Local = inr (λ e. true≢false (ap is_data e))
other_region Local Data = inr (λ e. true≢false (sym (ap is_data e)))
other_region Local Local = inl refl

-- ---- one store more, after others that left the bytes u
abbrev left : Memories → Contents → Memories
left m u = memories m.dataBase m.lds u

-- the same place, whatever the bytes are
index_left : (m : Memories) (u : Contents) (r : Region) (a : ℕ) → index_in (memory_at r (left m u)) a ≡ index_in (memory_at r m) a
index_left m u Data a = refl
index_left m u Local a = refl

module _ (k : StoreOp) (a x : ℕ) (m : Memories) (u : Contents) (same : Same u m.bytes) (inside : inside_one m (width_of k) a ≡ true) (r : Region) where
  abbrev v : ℕ
  v = width_of k

  abbrev n : Memories
  n = left m u

  region_turned : region_of n v a ≡ region_of m v a
  region_turned = region_same m.dataBase m.lds u m.bytes v a same

  fits : region_of m v a ≡ r → index_in (memory_at r m) a + v ≤ length (bytes_at r u)
  fits q = rw (same r, ← bytes_at_lem m r) (inside_true (memory_at r m) v a (inside_at m v a inside r q)).1

  -- a byte that it has is the word's
  pub turned_at : region_of m v a ≡ r → (j : ℕ) → j < v → get_or (bytes_at r (store_to k a x n)) (index_in (memory_at r m) a + j) 0 ≡ get_or (le_bytes v x) j 0
  turned_at q j b =
      subst (λ (i : ℕ). get_or (bytes_at r (store_to k a x n)) (i + j) 0 ≡ get_or (le_bytes v x) j 0) (index_left m u r a)
      (to_at k a x n r (region_turned ∙ q) (rw (index_left m u r a) (fits q)) j b)

  -- a byte stays what it is where the store has it too
  pub turned_keeps : (i y : ℕ) → get_or (bytes_at r u) i 0 ≡ y
      → (region_of m v a ≡ r → index_in (memory_at r m) a ≤ i → i < index_in (memory_at r m) a + v → get_or (le_bytes v x) (i - index_in (memory_at r m) a) 0 ≡ y)
      → get_or (bytes_at r (store_to k a x n)) i 0 ≡ y
  turned_keeps i y e f = ⊎_elim here (λ o. elsewhere (λ q h z. o q)) (other_region (region_of m v a) r)
    where
      z : ℕ
      z = index_in (memory_at r m) a

      elsewhere : (region_of m v a ≡ r → z ≤ i → i < z + v → ⊥) → get_or (bytes_at r (store_to k a x n)) i 0 ≡ y
      elsewhere o = to_unwritten k a x n r i (λ q h g. o (sym region_turned ∙ q) (rw (← index_left m u r a) h) (rw (← index_left m u r a) g)) ∙ e

      here : region_of m v a ≡ r → get_or (bytes_at r (store_to k a x n)) i 0 ≡ y
      here q = by (has_of v z i) refl
        where
          by : (t : Bool) → has_of v z i ≡ t → get_or (bytes_at r (store_to k a x n)) i 0 ≡ y
          by true t =
              let h = has_true v z i t in
              let p : z + (i - z) ≡ i = omega (arith, h.0) in
              subst (λ (c : ℕ). get_or (bytes_at r (store_to k a x n)) c 0 ≡ y) p (turned_at q (i - z) (omega (arith, h.0, h.1)) ∙ f q h.0 h.1)
          by false t = elsewhere (λ q h g. true≢false (sym (true_has v z i (h, g)) ∙ t))

-- ---- stores by lanes
module _ (n : ℕ) (on : Lane → Bool) (k : StoreOp) (at xs : Lane → ℕ) (m : Memories) where
  abbrev turned : Contents → Memories
  turned u = left m u

  pub lanes_same : Same (store_lanes n on k at xs m) m.bytes
  lanes_same = each_keeps on _ m.bytes (λ u. Same u m.bytes) (λ r. refl) n (λ l u h t e r. store_same k (at l) (xs l) (turned u) r ∙ e r)

  abbrev w : ℕ
  w = width_of k

  -- a byte that no active lane's access has stays
  pub lanes_unwritten : (r : Region) (i : ℕ) → ((l : Lane) → l.0 < n → on l ≡ true → region_of m w (at l) ≡ r → index_in (memory_at r m) (at l) ≤ i → i < index_in (memory_at r m) (at l) + w → ⊥)
      → get_or (bytes_at r (store_lanes n on k at xs m)) i 0 ≡ get_or (bytes_at r m.bytes) i 0
  lanes_unwritten r i o =
      (each_keeps on _ m.bytes (λ u. Same u m.bytes × (get_or (bytes_at r u) i 0 ≡ get_or (bytes_at r m.bytes) i 0)) ((λ r. refl), refl) n
      (λ l u h t e. (
        λ s. store_same k (at l) (xs l) (turned u) s ∙ e.0 s,
        to_unwritten k (at l) (xs l) (turned u) r i
            (λ q p z. o l h t (sym (region_same m.dataBase m.lds u m.bytes w (at l) e.0) ∙ q) (rw (← index_left m u r (at l)) p) (rw (← index_left m u r (at l)) z)) ∙ e.1,
      ))).1

  -- where the active lanes agree, a byte has what any of them stores there: byte j of active lane l's access
  pub lanes_stored : true ≡ all_inside n on (inside_one m w) at → true ≡ all_agree n on k at xs → (l : Lane) → l.0 < n → on l ≡ true → (r : Region) → region_of m w (at l) ≡ r → (j : ℕ) → j < w
      → get_or (bytes_at r (store_lanes n on k at xs m)) (index_in (memory_at r m) (at l) + j) 0 ≡ get_or (le_bytes w (xs l)) j 0
  lanes_stored all agree l h t r reg j b =
      (each_grows on _ m.bytes (λ i u. Same u m.bytes × (l.0 < i → Has u)) ((λ r. refl), λ z. absurd (omega arith)) n
      (λ i u p q e. (λ s. store_same k (at i) (xs i) (turned u) s ∙ e.0 s, λ z. ⊎_elim (newly i u e.0) (λ y. still i u p q e.0 (e.1 y)) (newest z)))
      (λ i u p q e. (e.0, λ z. ⊎_elim (λ y. absurd (true≢false (sym t ∙ ap on y ∙ q))) e.1 (newest z)))).1 h
    where
      Has : Contents → Type 0
      Has u = get_or (bytes_at r u) (index_in (memory_at r m) (at l) + j) 0 ≡ get_or (le_bytes w (xs l)) j 0

      inside : (i : Lane) → i.0 < n → on i ≡ true → inside_one m w (at i) ≡ true
      inside = all_inside_at n on (inside_one m w) at all

      newly : (i : Lane) (u : Contents) → Same u m.bytes → l ≡ i → Has (store_to k (at i) (xs i) (turned u))
      newly i u e y = subst (λ (i : Lane). Has (store_to k (at i) (xs i) (turned u))) y (turned_at k (at l) (xs l) m u e (inside l h t) r reg j b)

      -- lane i stores the same byte there, or none
      still : (i : Lane) (u : Contents) → i.0 < n → on i ≡ true → Same u m.bytes → Has u → Has (store_to k (at i) (xs i) (turned u))
      still i u p q e y =
          turned_keeps k (at i) (xs i) m u e (inside i p q) r (index_in (memory_at r m) (at l) + j) (get_or (le_bytes w (xs l)) j 0) y
          (λ f g z.
          let a = inside_true (memory_at r m) w (at i) (inside_at m w (at i) (inside i p q) r f) in
          let c = inside_true (memory_at r m) w (at l) (inside_at m w (at l) (inside l h t) r reg) in
          let s = all_agreed n on k at xs agree i l p h q t (at l + j) (omega (arith, a.0, c.0), omega (arith, a.0, c.0)) (omega arith, omega arith) in
          let d : (index_in (memory_at r m) (at l) + j) - index_in (memory_at r m) (at i) ≡ (at l + j) - at i = omega (arith, a.0, c.0) in
          let o : (at l + j) - at l ≡ j = omega arith in
          ap (λ (v : ℕ). get_or (le_bytes w (xs i)) v 0) d ∙ s ∙ ap (λ (v : ℕ). get_or (le_bytes w (xs l)) v 0) o)
