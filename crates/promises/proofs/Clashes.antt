-- Stores by lanes: when 15 refuses one, and that any order of the lanes gives the same bytes.
use Prim.Native.Nat.{ℕ, ◌+◌, ◌-◌, ◌≤◌, ◌<◌}
use mathlib.Core.Path.{◌≡◌, refl, sym, ap, ap₂, ◌∙◌, subst}
use mathlib.Core.Bool.{Bool, true, false, not, true≢false}
use mathlib.Core.List.{List, [], ◌∷◌, ◌++◌}
use mathlib.Core.Logic.{inl, inr}
use native.Mathlib.Omega.{arith}
use lib.ListN.{length, get_or}
use lib.Seq.{ext_get_or}
use Rattle.answer.specs.Rows.{Row, ◌⇒◌, first, Iff}
use Rattle.answer.proofs.Rows.{without, first_silent, first_kept, zero_silent, not_answered}
use Rattle.isa.specs.declared.Instr.{Instr}
use Rattle.isa.specs.declared.Instr.TheVariants as I
use Rattle.isa.specs.declared.Space.{Space}
use Rattle.isa.specs.declared.StoreOp.{StoreOp}
use Rattle.isa.specs.declared.VReg.{VReg}
use Rattle.lanes.specs.declared.Lane.{Lane}
use Rattle.lanes.specs.Lanes.{lane_of}
use Rattle.memory.specs.Bytes.{le_bytes}
use Rattle.memory.specs.Memory.{width_of, Has, index_in}
use Rattle.memory.specs.Memories.{Region, Data, Local, Contents, contents, Memories, memories, bytes_at, memory_at, inside_one, region_of, store_to}
use Rattle.memory.specs.LaneAccess.{all_agree}
use Rattle.memory.proofs.Access.{inside_true, all_inside_at, inside_at, inside_address}
use Rattle.memory.proofs.Agree.{all_agreed, agreed_all}
use Rattle.memory.proofs.Laws.{Same, store_same, turned_at, turned_keeps}
use Rattle.definition.specs.State.{State, fixed_of, active, memory_of, lane_at, instr_at}
use Rattle.definition.specs.Refuse.{access_tests, refusals_of, step_tests}
use Rattle.definition.specs.Step.{step_of}
use Rattle.definition.proofs.Sizes.{sizes}
use Rattle.definition.proofs.Sound.{step_clear}
use Rattle.definition.proofs.Stored.{lanes_inside}
use Rattle.definition.proofs.Tests.{step_rows, row_own}
use Rattle.definition.proofs.Used.{step_within}
use Rattle.promises.specs.Lanes.{is_active, address_in, lane}
use Rattle.promises.specs.Written.{Becomes, stays, by_lanes}
use Rattle.promises.specs.Clashes.{Agreeing, Clashes, ClashesLast, ByLanes, stores, OnlyLanesClash, In, in_order, AnyOrder}
use Rattle.promises.proofs.Stores.{active_of, active_below, here, place}
use Rattle.promises.proofs.Written.{written}

-- ---- 15, when and only when

taken_when : (t : Bool) → Iff (first (15 ⇒ not t ∷ []) ≡ 0) (t ≡ true)
taken_when true = (λ e. refl, λ e. refl)
taken_when false = (λ e. absurd (omega arith), λ e. absurd (true≢false (sym e)))

refused_when : (t : Bool) → Iff (first (15 ⇒ not t ∷ []) ≡ 15) (t ≡ true → ⊥)
refused_when true = (λ e. absurd (omega arith), λ f. absurd (f refl))
refused_when false = (λ e t. true≢false (sym t), λ f. refl)

module _ (k : List ℕ) (m : State) (s : Space) (o : StoreOp) (x y : VReg) (n : ℕ) (is : instr_at k m ≡ I.VStore s o x y n) where
  abbrev at : Lane → ℕ
  at = lane_at s x n m

  abbrev words : Lane → ℕ
  words = lane_of m.vector y

  abbrev lanes : ℕ
  lanes = (fixed_of m).numt

  abbrev before : List (Row Bool)
  before = step_tests k m ++ access_tests s (width_of o) x n m

  abbrev agrees : Bool
  agrees = all_agree lanes (active m) o at words

  answer : (step_of k m).code ≡ first (before ++ (15 ⇒ not agrees ∷ []))
  unfolding refusals_of
  answer = step_rows k m ∙ ap (λ (i : Instr). first (step_tests k m ++ refusals_of i m)) is

  decided : first before ≡ 0 → (step_of k m).code ≡ first (15 ⇒ not agrees ∷ [])
  decided z = answer ∙ first_silent before (15 ⇒ not agrees ∷ []) (zero_silent before refl z)

  agreeing : agrees ≡ true → Agreeing m s o x y n
  agreeing e l h a p q f g =
      let c = active_below m l p in
      let d = active_below m h q in
      all_agreed lanes (active m) o at words (sym e) l h c.0 d.0 c.1 d.1 a f g

  agreed : Agreeing m s o x y n → agrees ≡ true
  agreed f = sym (agreed_all lanes (active m) o at words (λ l h p q s t a i j. f l h a (active_of m l p s) (active_of m h q t) i j))

pub clashes : Clashes
clashes k m s o x y n is z =
    let t = agrees k m s o x y n is in
    let c = decided k m s o x y n is z in
    record {
      taken = (λ e. agreeing k m s o x y n is ((taken_when t).0 (sym c ∙ e)), λ f. c ∙ (taken_when t).1 (agreed k m s o x y n is f));
      refused = (λ e f. (refused_when t).0 (sym c ∙ e) (agreed k m s o x y n is f), λ f. c ∙ (refused_when t).1 (λ e. f (agreeing k m s o x y n is e)));
    }

pub clashes_last : ClashesLast
clashes_last k m s o x y n is z = answer k m s o x y n is ∙ first_kept (before k m s o x y n is) (15 ⇒ not (agrees k m s o x y n is) ∷ []) z

module _ (m : State) where
  none : (i : Instr) → without 15 (refusals_of i m) ≡ true → first (refusals_of i m) ≡ 15 → ByLanes i
  none i w e = absurd (not_answered 15 (refusals_of i m) (λ z. omega arith) w e)

  only : (i : Instr) → first (refusals_of i m) ≡ 15 → ByLanes i
  unfolding refusals_of
  only I.Refused e = none I.Refused refl e
  only (I.Lui r n) e = none (I.Lui r n) refl e
  only (I.Auipc r n) e = none (I.Auipc r n) refl e
  only (I.Jal r n) e = none (I.Jal r n) refl e
  only (I.Jalr r a n) e = none (I.Jalr r a n) refl e
  only (I.Branch c a b n) e = none (I.Branch c a b n) refl e
  only (I.Load k r a n) e = none (I.Load k r a n) refl e
  only (I.Store k a b n) e = none (I.Store k a b n) refl e
  only (I.OpImm o r a n) e = none (I.OpImm o r a n) refl e
  only (I.OpReg o r a b) e = none (I.OpReg o r a b) refl e
  only (I.Fence r a n) e = none (I.Fence r a n) refl e
  only (I.Csr o r a n) e = none (I.Csr o r a n) refl e
  only (I.CsrImm o r i n) e = none (I.CsrImm o r i n) refl e
  only (I.Vector o a) e = none (I.Vector o a) refl e
  only (I.VMove r s) e = none (I.VMove r s) refl e
  only (I.VMerge r b s) e = none (I.VMerge r b s) refl e
  only (I.VMoveXS r b) e = none (I.VMoveXS r b) refl e
  only (I.VMoveSX r a) e = none (I.VMoveSX r a) refl e
  only (I.Vid t r) e = none (I.Vid t r) refl e
  only (I.VBranch c a b n) e = none (I.VBranch c a b n) refl e
  only I.Join e = none I.Join refl e
  only (I.SetRpc r a n) e = none (I.SetRpc r a n) refl e
  only I.EndPrg e = none I.EndPrg refl e
  only (I.Barrier n) e = none (I.Barrier n) refl e
  only (I.VLoad s k r a n) e = none (I.VLoad s k r a n) refl e
  only (I.VStore s o x y n) e = stores s o x y n
  only (I.RegExt n) e = none (I.RegExt n) refl e
  only (I.RegExtI n) e = none (I.RegExtI n) refl e

pub only_lanes_clash : OnlyLanesClash
only_lanes_clash k m e = only m (instr_at k m) ((row_own k m 15 (omega arith)).0 e).1

-- ---- any order

-- the stores of a list of lanes at the addresses `at`, after others that left the bytes u
module _ (o : StoreOp) (at xs : Lane → ℕ) (m : Memories) where
  abbrev w : ℕ
  w = width_of o

  abbrev index : Region → Lane → ℕ
  index r l = index_in (memory_at r m) (at l)

  abbrev after : Contents → List Lane → Contents
  after u ls = in_order ls o at xs (memories m.dataBase m.lds u)

  abbrev stored : Contents → Lane → Contents
  stored u l = store_to o (at l) (xs l) (memories m.dataBase m.lds u)

  abbrev Inside : List Lane → Type 0
  Inside ls = (l : Lane) → In l ls → inside_one m w (at l) ≡ true

  -- each of them that has byte i of the region r stores y there
  abbrev Stores : List Lane → Region → ℕ → ℕ → Type 0
  Stores ls r i y = (l : Lane) → In l ls → region_of m w (at l) ≡ r → index r l ≤ i → i < index r l + w → get_or (le_bytes w (xs l)) (i - index r l) 0 ≡ y

  stored_same : (u : Contents) (l : Lane) → Same u m.bytes → Same (stored u l) m.bytes
  stored_same u l e r = store_same o (at l) (xs l) (memories m.dataBase m.lds u) r ∙ e r

  order_same : (ls : List Lane) (u : Contents) → Same u m.bytes → Same (after u ls) m.bytes
  order_same [] u e = e
  order_same (l ∷ ls) u e = order_same ls (stored u l) (stored_same u l e)

  module _ (r : Region) (i y : ℕ) where
    keeps : (ls : List Lane) (u : Contents) → Same u m.bytes → Inside ls → Stores ls r i y → get_or (bytes_at r u) i 0 ≡ y → get_or (bytes_at r (after u ls)) i 0 ≡ y
    keeps [] u e n f h = h
    keeps (l ∷ ls) u e n f h =
        keeps ls (stored u l) (stored_same u l e) (λ p q. n p (inr q)) (λ p q. f p (inr q)) (turned_keeps o (at l) (xs l) m u e (n l (inl refl)) r i y h (f l (inl refl)))

    makes : (ls : List Lane) (u : Contents) → Same u m.bytes → Inside ls → Stores ls r i y → (l : Lane) → In l ls → region_of m w (at l) ≡ r → index r l ≤ i → i < index r l + w
        → get_or (bytes_at r (after u ls)) i 0 ≡ y
    makes [] u e n f l p g a b = absurd p
    makes (h ∷ ls) u e n f l (inl p) g a b =
        let q : index r l + (i - index r l) ≡ i = omega arith in
        keeps ls (stored u h) (stored_same u h e) (λ p q. n p (inr q)) (λ p q. f p (inr q))
        (subst (λ (c : Lane). get_or (bytes_at r (stored u c)) i 0 ≡ y) p
        (subst (λ (c : ℕ). get_or (bytes_at r (stored u l)) c 0 ≡ y) q (turned_at o (at l) (xs l) m u e (n l (inl p)) r g (i - index r l) (omega arith) ∙ f l (inl p) g a b)))
    makes (h ∷ ls) u e n f l (inr p) g a b = makes ls (stored u h) (stored_same u h e) (λ p q. n p (inr q)) (λ p q. f p (inr q)) l p g a b

module _ (k : List ℕ) (m : State) (s : Space) (o : StoreOp) (x y : VReg) (n : ℕ) (is : instr_at k m ≡ I.VStore s o x y n) (z : (step_of k m).code ≡ 0) (ls : List Lane) (all : (l : Lane) → Iff (In l ls) (is_active m l ≡ true)) where
  abbrev E : Memories
  E = memory_of m

  abbrev to : Lane → ℕ
  to = lane_at s x n m

  abbrev from : Lane → ℕ
  from = lane_of m.vector y

  abbrev width : ℕ
  width = width_of o

  inside : (l : Lane) → is_active m l ≡ true → inside_one E width (to l) ≡ true
  inside l a =
      let p = active_below m l a in
      let rest = subst (λ (i : Instr). first (refusals_of i m) ≡ 0) is (step_clear k m z).rest in
      all_inside_at (fixed_of m).numt (active m) (inside_one E width) to (sym (lanes_inside m s o x y n rest)) l p.0 p.1

  module _ (r : Region) (i : ℕ) (below : i < length (bytes_at r m.bytes)) where
    abbrev A : ℕ
    A = address_in r i m

    abbrev new : ℕ
    new = get_or (bytes_at r (step_of k m).left.bytes) i 0

    abbrev ordered : ℕ
    ordered = get_or (bytes_at r (after o to from E m.bytes ls)) i 0

    has : (l : Lane) → is_active m l ≡ true → region_of E width (to l) ≡ r → index_in (memory_at r E) (to l) ≤ i → i < index_in (memory_at r E) (to l) + width → Has width (to l) A
    has l a g p q = inside_address (memory_at r E) width (to l) (inside_at E width (to l) (inside l a) r g) i p q

    by : Becomes m A (get_or (bytes_at r m.bytes) i 0) new (I.VStore s o x y n) → new ≡ ordered
    by (stays t e) =
        e ∙ sym (keeps o to from E r i (get_or (bytes_at r m.bytes) i 0) ls m.bytes (λ r. refl) (λ l p. inside l ((all l).0 p))
        (λ l p g a b. absurd (t (lane s o x y n l ((all l).0 p) (has l ((all l).0 p) g a b)))) refl)
    by (by_lanes s1 o1 x1 y1 n1 l a h f) =
        let apart = (sizes (fixed_of m) k m.vector m.bytes (step_clear k m z).runs).apart in
        let g = here m apart r i below width (to l) (inside l a) h in
        let d = place m apart r i below width (to l) (inside_at E width (to l) (inside l a) r g) h in
        sym (makes o to from E r i new ls m.bytes (λ r. refl) (λ l p. inside l ((all l).0 p)) same l ((all l).1 a) g (omega arith) (omega (arith, h.0, h.1)))
      where
        same : (l : Lane) → In l ls → region_of E width (to l) ≡ r → index_in (memory_at r E) (to l) ≤ i → i < index_in (memory_at r E) (to l) + width → get_or (le_bytes width (from l)) (i - index_in (memory_at r E) (to l)) 0 ≡ new
        same l p g a b =
            let v = inside_true (memory_at r E) width (to l) (inside_at E width (to l) (inside l ((all l).0 p)) r g) in
            let q : i - index_in (memory_at r E) (to l) ≡ A - to l = omega (arith, v.0) in
            ap (λ (c : ℕ). get_or (le_bytes width (from l)) c 0) q ∙ sym (f l ((all l).0 p) (has l ((all l).0 p) g a b))

    byte : new ≡ ordered
    byte = by (subst (λ (j : Instr). Becomes m A (get_or (bytes_at r m.bytes) i 0) new j) is (written k m z r i below))

  bytes : (r : Region) → bytes_at r (step_of k m).left.bytes ≡ bytes_at r (after o to from E m.bytes ls)
  bytes r =
      let e = (step_within k m).size r in
      ext_get_or 0 (bytes_at r (step_of k m).left.bytes) (bytes_at r (after o to from E m.bytes ls)) (e ∙ sym (order_same o to from E ls m.bytes (λ r. refl) r)) (λ i h. byte r i (omega (arith, e, h)))

pub any_order : AnyOrder
any_order k m s o x y n is z ls all = ap₂ contents (bytes k m s o x y n is z ls all Data) (bytes k m s o x y n is z ls all Local)
