-- Laws of lane masks: a mask cut in two, and the mask of the lanes where a test holds.
use mathlib.Core.Path.{◌≡◌, refl, sym, ap, ap₂, ◌∙◌}
use mathlib.Core.Bool.{Bool, true, false, not, ◌&&◌, and-true, and-false, and_self_left}
use mathlib.Core.Logic.{⊎_elim}
use mathlib.Core.List.{List}
use Prim.Native.Nat.{ℕ, zero, suc, ◌+◌, ◌-◌, ◌*◌, ◌/◌, ◌%◌, ◌^◌, ◌≤◌, ◌<◌, min}
use native.Mathlib.Nat.{eq-zero-or-pos, div-one, mod-eq_of_lt, mod-one, one-mul, zero-mul, pow-suc, le_refl, lt_of_lt_of_le, div-eq_of_lt}
use native.Mathlib.Numerals.{one-add}
use native.Mathlib.Omega.{arith}
use lib.Arith.{bin_ind}
use lib.Pow.{pow_pos, pow_mono, shr-shr, mod-pow-add}
use lib.Bits.{bit_and, and_step, and_le_r, and_block}
use lib.Count.{ones, ones_in, ones_step}
use lib.Dec.{eqb}
use borrow.Author.Tests.{eqb-true, eqb-false, eq-eqb, ne_eqb}
use Rattle.word.specs.Word.{holds_of}
use Rattle.word.specs.declared.Cond.{Cond}
use Rattle.isa.specs.declared.VReg.{VReg}
use Rattle.lanes.specs.declared.Lane.{Lane}
use Rattle.lanes.specs.Mask.{lane, bit_at, bit}
use Rattle.lanes.specs.Lanes.{step_if, each_lane, mask_of, all_below, all_lanes, ok_if, lane_of, wants_of}
use Rattle.lanes.proofs.Laws.{newest, each_grows, each_same, when_both, all_at, all_hold}

-- ---- lane l's digit
pub bit_zero : (m : ℕ) → bit_at 0 m ≡ m % 2
unfolding bit_at
bit_zero m = ap (λ (x : ℕ). x % 2) (div-one m)

pub bit_suc : (l m : ℕ) → bit_at (suc l) m ≡ bit_at l (m / 2)
unfolding bit_at
bit_suc l m = sym (ap (λ (x : ℕ). x % 2) (shr-shr m 1 l ∙ ap (λ (k : ℕ). m / 2 ^ k) (one-add l)))

-- no lane at or above n
pub bit_above : (m n : ℕ) (l : Lane) → m < 2 ^ n → n ≤ l.0 → bit m l ≡ false
unfolding bit_at
bit_above m n l h k = rw (div-eq_of_lt (lt_of_lt_of_le h (pow_mono {i = n} {j = l.0} k)))

-- ---- a mask m cut in two: e inside m, and m - e, the rest
record Halved (e m : ℕ) : Type 0 where
  high : bit_and (e / 2) (m / 2) ≡ e / 2
  rest : (m - e) / 2 ≡ m / 2 - e / 2
  odd : m % 2 ≡ e % 2 + (m - e) % 2

halved : (e m : ℕ) → bit_and e m ≡ e → Halved e m
halved e m h =
    let s : bit_and e m ≡ bit_and (e / 2) (m / 2) * 2 + min (e % 2) (m % 2) = and_step e m in
    let up : bit_and (e / 2) (m / 2) ≡ e / 2 = omega arith in
    let lo : e % 2 ≤ m % 2 = omega arith in
    let le : e / 2 ≤ m / 2 = rw up at (and_le_r (e / 2) (m / 2)) in
    record { high = up; rest = omega arith; odd = omega arith }

-- each lane of m is in e or in the rest, and in one alone
pub cut_bit : (l e m : ℕ) → bit_and e m ≡ e → bit_at l m ≡ bit_at l e + bit_at l (m - e)
cut_bit zero e m h = rw (bit_zero m, bit_zero e, bit_zero (m - e)) (halved e m h).odd
cut_bit (suc l) e m h = rw (bit_suc l m, bit_suc l e, bit_suc l (m - e), (halved e m h).rest) (cut_bit l (e / 2) (m / 2) (halved e m h).high)

no_lane : (e : ℕ) → e ≡ 0 → ones 0 ≡ ones e + ones (0 - e)
unfolding ones ones_in
no_lane e z = rw z

-- and the lanes of the two make up those of m
pub cut_ones : (m e : ℕ) → bit_and e m ≡ e → ones m ≡ ones e + ones (m - e)
cut_ones =
    bin_ind (λ (m : ℕ). (e : ℕ) → bit_and e m ≡ e → ones m ≡ ones e + ones (m - e))
    (λ e h. no_lane e (omega (arith, and_le_r e 0)))
    (λ m ih e h. omega (arith, ones_step m, ones_step e, ones_step (m - e), ih (e / 2) (halved e m h).high, ap ones (halved e m h).rest, (halved e m h).odd))

-- a mask that is not empty has a lane
pub ones_pos : (m : ℕ) → 0 < m → 0 < ones m
ones_pos = bin_ind (λ (m : ℕ). 0 < m → 0 < ones m) (λ h. omega arith) (λ m ih h. ⊎_elim (λ z. omega (arith, ones_step m)) (λ p. omega (arith, ones_step m, ih p)) (eq-zero-or-pos (m / 2)))

-- ---- the mask of the lanes that a test picks
pub mask_lt : (on : Lane → Bool) (n : ℕ) → mask_of n on < 2 ^ n
mask_lt on n = each_grows on _ 0 (λ i m. m < 2 ^ i) (le_refl 1) n (λ l m h t q. rw pow-suc (omega arith)) (λ l m h t q. rw pow-suc (omega arith))

pub mask_same : (p q : Lane → Bool) (n : ℕ) → ((l : Lane) → l.0 < n → p l ≡ q l) → mask_of n p ≡ mask_of n q
mask_same p q n e = each_same p q (λ k z. z + 2 ^ k.0) (λ k z. z + 2 ^ k.0) 0 n e (λ l u h t. refl)

digit : (d p r : ℕ) → d < 2 → (t : Bool) → eqb d 1 ≡ t → d * p + r ≡ step_if t (λ (m : ℕ). m + p) r
digit d p r h true e = rw (eqb-true d 1 e) (rw one-mul (omega arith))
digit d p r h false e =
    let z : d ≡ 0 = omega (arith, eqb-false d 1 e) in
    rw z (rw zero-mul (omega arith))

mask_mod : (m n : ℕ) → m % 2 ^ n ≡ mask_of n (bit m)
unfolding each_lane bit_at
mask_mod m zero = mod-one m
mask_mod m (suc n) =
    ap (λ (k : ℕ). m % 2 ^ k) (sym (one-add n)) ∙ mod-pow-add m 1 n
    ∙ digit (m / 2 ^ n % 2) (2 ^ n) (m % 2 ^ n) (omega arith) (bit m (lane n)) refl
    ∙ ap (step_if (bit m (lane n)) (λ (k : ℕ). k + 2 ^ n)) (mask_mod m n)

-- a mask of n lanes is the mask of its own
pub mask_self : (m n : ℕ) → m < 2 ^ n → m ≡ mask_of n (bit m)
mask_self m n h = sym (mod-eq_of_lt h) ∙ mask_mod m n

-- the lanes of two masks: `&`
digit_of : Bool → ℕ
digit_of true = 1
digit_of false = 0

step_digit : (t : Bool) (p r : ℕ) → step_if t (λ (m : ℕ). m + p) r ≡ digit_of t * p + r
unfolding digit_of
step_digit true p r = rw one-mul (omega arith)
step_digit false p r = rw zero-mul (omega arith)

digit_and : (s t : Bool) → bit_and (digit_of s) (digit_of t) ≡ digit_of (t && s)
unfolding digit_of
digit_and true true = refl
digit_and true false = refl
digit_and false true = refl
digit_and false false = refl

pub masks_and : (p q : Lane → Bool) (n : ℕ) → bit_and (mask_of n p) (mask_of n q) ≡ mask_of n (λ l. q l && p l)
unfolding each_lane
masks_and p q zero = refl
masks_and p q (suc n) =
    ap₂ bit_and (step_digit (p (lane n)) (2 ^ n) (mask_of n p)) (step_digit (q (lane n)) (2 ^ n) (mask_of n q))
    ∙ and_block n (digit_of (p (lane n))) (digit_of (q (lane n))) (mask_of n p) (mask_of n q) (mask_lt p n) (mask_lt q n)
    ∙ ap₂ (λ (x y : ℕ). x * 2 ^ n + y) (digit_and (p (lane n)) (q (lane n))) (masks_and p q n)
    ∙ sym (step_digit (q (lane n) && p (lane n)) (2 ^ n) (mask_of n (λ l. q l && p l)))

pub and_bits : (p : Lane → Bool) (n m : ℕ) → m < 2 ^ n → bit_and (mask_of n p) m ≡ mask_of n (λ l. bit m l && p l)
and_bits p n m h = ap (bit_and (mask_of n p)) (mask_self m n h) ∙ masks_and p (bit m) n

-- masks are equal only where the tests agree in every lane
pub mask_picks : (p q : Lane → Bool) (n : ℕ) → mask_of n p ≡ mask_of n q → (l : Lane) → l.0 < n → p l ≡ q l
unfolding each_lane
mask_picks p q zero e l h = absurd (omega arith)
mask_picks p q (suc n) e l h = let top = newest_picked (p (lane n)) (q (lane n)) (mask_of n p) (mask_of n q) (mask_lt p n) (mask_lt q n) e in ⊎_elim (λ w. rw w top.0) (λ w. mask_picks p q n top.1 l w) (newest h)
  where
    newest_picked : (s t : Bool) (x y : ℕ) → x < 2 ^ n → y < 2 ^ n → step_if s (λ (m : ℕ). m + 2 ^ n) x ≡ step_if t (λ (m : ℕ). m + 2 ^ n) y → (s ≡ t) × (x ≡ y)
    newest_picked true true x y a b e = (refl, omega arith)
    newest_picked true false x y a b e = absurd (omega arith)
    newest_picked false true x y a b e = absurd (omega arith)
    newest_picked false false x y a b e = (refl, e)

-- the mask of the lanes that a test picks has them
pub mask_bit : (on : Lane → Bool) (n : ℕ) (l : Lane) → l.0 < n → bit (mask_of n on) l ≡ on l
mask_bit on n = mask_picks (bit (mask_of n on)) on n (sym (mask_self (mask_of n on) n (mask_lt on n)))

-- so a fold by the mask is the fold by the test
pub each_mask : {A : Type 0} (on : Lane → Bool) (step : Lane → A → A) (x : A) (n : ℕ) → each_lane n (bit (mask_of n on)) step x ≡ each_lane n on step x
each_mask on step x n = each_same (bit (mask_of n on)) on step step x n (mask_bit on n) (λ l u h t. refl)

-- a mask is 0 just where the test holds in no lane
pub mask_zero : (q : Lane → Bool) (n : ℕ) → eqb (mask_of n q) 0 ≡ all_lanes n (λ l. not (q l))
unfolding each_lane all_below
mask_zero q zero = refl
mask_zero q (suc n) = turn (q (lane n)) (mask_of n q) (all_lanes n (λ l. not (q l))) (mask_zero q n)
  where
    turn : (t : Bool) (m : ℕ) (a : Bool) → eqb m 0 ≡ a → eqb (step_if t (λ (k : ℕ). k + 2 ^ n) m) 0 ≡ (a && not t)
    turn true m a e = ne_eqb (m + 2 ^ n) 0 (λ z. omega (arith, pow_pos n)) ∙ sym (and-false a)
    turn false m a e = e ∙ sym (and-true a)

-- the lanes of a mask where a test holds are all of its lanes just where it holds in each
pub mask_whole : (p : Lane → Bool) (n m : ℕ) → m < 2 ^ n → eqb (bit_and (mask_of n p) m) m ≡ all_lanes n (λ l. ok_if (bit m l) (p l))
mask_whole p n m h = when_both (eqb (bit_and (mask_of n p) m) m) (all_lanes n (λ l. ok_if (bit m l) (p l))) there back
  where
    kept : (s t : Bool) → (s && t) ≡ s → ok_if s t ≡ true
    kept true t e = e
    kept false t e = refl

    keeps : (s t : Bool) → ok_if s t ≡ true → (s && t) ≡ s
    keeps true t e = e
    keeps false t e = refl

    there : eqb (bit_and (mask_of n p) m) m ≡ true → all_lanes n (λ l. ok_if (bit m l) (p l)) ≡ true
    there e =
        sym (all_hold (λ l. ok_if (bit m l) (p l)) n (λ l k. kept (bit m l) (p l)
        (mask_picks (λ i. bit m i && p i) (bit m) n (sym (and_bits p n m h) ∙ eqb-true _ m e ∙ mask_self m n h) l k)))

    back : all_lanes n (λ l. ok_if (bit m l) (p l)) ≡ true → eqb (bit_and (mask_of n p) m) m ≡ true
    back e =
        eq-eqb _ m (and_bits p n m h
        ∙ mask_same (λ l. bit m l && p l) (bit m) n (λ l k. keeps (bit m l) (p l) (all_at (λ i. ok_if (bit m i) (p i)) n l (sym e) k))
        ∙ sym (mask_self m n h))

-- ---- the lanes of m where a test holds, e, and the rest, m - e
module _ (m n : ℕ) (p : Lane → Bool) (h : m < 2 ^ n) where
  pub part_in : bit_and (mask_of n (λ l. bit m l && p l)) m ≡ mask_of n (λ l. bit m l && p l)
  part_in = and_bits (λ l. bit m l && p l) n m h ∙ mask_same (λ l. bit m l && (bit m l && p l)) (λ l. bit m l && p l) n (λ l k. and_self_left (bit m l) (p l))

-- VBRANCH's else mask looks at the lanes of m alone
pub wants_only : (m n : ℕ) (c : Cond) (a b : VReg) (v w : List ℕ) → ((l : Lane) → l.0 < n → bit m l ≡ true → (r : VReg) → lane_of v r l ≡ lane_of w r l)
    → mask_of n (wants_of v m c a b) ≡ mask_of n (wants_of w m c a b)
wants_only m n c a b v w same = mask_same (wants_of v m c a b) (wants_of w m c a b) n (λ l h. at_on (bit m l) (holds_of c (lane_of v a l) (lane_of v b l)) (holds_of c (lane_of w a l) (lane_of w b l)) (λ t. ap₂ (holds_of c) (same l h t a) (same l h t b)))
  where
    at_on : (t x y : Bool) → (t ≡ true → x ≡ y) → (t && x) ≡ (t && y)
    at_on true x y e = e refl
    at_on false x y e = refl
