-- Laws of the lane fold and of what is made of it, over the lane count.
use mathlib.Core.Path.{◌≡◌, refl, sym, ap, ap₂, ◌∙◌, subst}
use mathlib.Core.Bool.{Bool, true, false, not, ◌&&◌, true≢false, cond}
use mathlib.Core.Logic.{◌⊎◌, inl, inr, ⊎_elim}
use mathlib.Core.List.{List}
use Prim.Native.Nat.{ℕ, zero, suc, ◌+◌, ◌*◌, ◌≤◌, ◌<◌}
use native.Mathlib.Nat.{zero-add, lt_of_lt_of_le, le-suc, le_refl, eq-or-lt_of_le, le_of_suc-le-suc}
use native.Mathlib.Omega.{arith}
use native.Mathlib.Numerals.{add-one}
use lib.Dec.{eqb, ltb}
use borrow.Author.Tests.{eqb-true, eqb-false, eq-eqb, ltb-true, ltb-false}
use lib.ListN.{length, get_or, set, length-set}
use lib.Seq.{get_or-set_same, get_or-set_other}
use Rattle.std.specs.Bool.{MatchBool}
use Rattle.std.specs.List.{AllWithin, HoldsAt, range_with_len}
use Rattle.std.proofs.lemmas.List.FromFn.{length-range_with_len, get_or-range_with_len}
use Rattle.word.specs.Word.{apply_of}
use Rattle.word.specs.declared.Op.{Op}
use Rattle.isa.specs.declared.VReg.{VReg}
use Rattle.lanes.specs.declared.Operand.{Operand}
use Rattle.lanes.specs.declared.Operand.TheVariants.{Reg, Word}
use Rattle.lanes.specs.declared.Lane.{Lane}
use Rattle.lanes.specs.Mask.{lane}
use Rattle.isa.specs.Bounds.{vector_registers}
use Rattle.lanes.specs.Lanes.{lanes_max, file_words, slot_of, lane_of, operand_of, op_lane, step_if, each_lane, write_lanes, all_below, all_lanes, ok_if, value_of, uniform_of}

-- a lane below the next count is the newest or was below before
pub newest : {k : Lane} {n : ℕ} → k.0 < suc n → (k ≡ lane n) ⊎ (k.0 < n)
newest h = ⊎_elim (λ e. inl (ap lane e)) inr (eq-or-lt_of_le (le_of_suc-le-suc h))

below : {l n : ℕ} → l < n → l < suc n
below h = lt_of_lt_of_le h (le-suc _)

-- ---- the fold
module _ {A : Type 0} (on : Lane → Bool) (step : Lane → A → A) (x : A) where
  pub each_none : x ≡ each_lane 0 on step x
  unfolding each_lane
  each_none = refl

  -- a turn of a lane loop: the lane's step is taken, or not
  pub each_on : (l : ℕ) (u w : A) → on (lane l) ≡ true → w ≡ step (lane l) u → u ≡ each_lane l on step x → w ≡ each_lane (l + 1) on step x
  unfolding each_lane
  each_on l u w t e h = rw (add-one, t) (e ∙ ap (step (lane l)) h)

  pub each_off : (l : ℕ) (w : A) → on (lane l) ≡ false → w ≡ each_lane l on step x → w ≡ each_lane (l + 1) on step x
  unfolding each_lane
  each_off l w t h = rw (add-one, t) h

  grow : (P : ℕ → A → Type 0) (n : ℕ) (u : A) (t : Bool) → on (lane n) ≡ t → (on (lane n) ≡ true → P n u → P (suc n) (step (lane n) u)) → (on (lane n) ≡ false → P n u → P (suc n) u) → P n u → P (suc n) (step_if t (step (lane n)) u)
  grow P n u true e y z h = y e h
  grow P n u false e y z h = z e h

  -- what every lane carries on
  pub each_grows : (P : ℕ → A → Type 0) → P 0 x → (n : ℕ)
      → ((l : Lane) (u : A) → l.0 < n → on l ≡ true → P l.0 u → P (suc l.0) (step l u))
      → ((l : Lane) (u : A) → l.0 < n → on l ≡ false → P l.0 u → P (suc l.0) u) → P n (each_lane n on step x)
  unfolding each_lane
  each_grows P b zero y z = b
  each_grows P b (suc n) y z =
      grow P n (each_lane n on step x) (on (lane n)) refl (y (lane n) (each_lane n on step x) (le_refl (suc n))) (z (lane n) (each_lane n on step x) (le_refl (suc n)))
      (each_grows P b n (λ l u h. y l u (below h)) (λ l u h. z l u (below h)))

  -- what every step keeps
  pub each_keeps : (P : A → Type 0) → P x → (n : ℕ) → ((l : Lane) (u : A) → l.0 < n → on l ≡ true → P u → P (step l u)) → P (each_lane n on step x)
  each_keeps P b n y = each_grows (λ _ u. P u) b n y (λ l u h t q. q)

-- a fold looks only at the lanes below its count, and at the steps of those that are on
pub each_same : {A : Type 0} (on on' : Lane → Bool) (step step' : Lane → A → A) (x : A) (n : ℕ) → ((l : Lane) → l.0 < n → on l ≡ on' l) → ((l : Lane) (u : A) → l.0 < n → on l ≡ true → step l u ≡ step' l u)
    → each_lane n on step x ≡ each_lane n on' step' x
unfolding each_lane
each_same on on' step step' x zero e g = refl
each_same {A = A} on on' step step' x (suc n) e g =
    turn (on (lane n)) (on' (lane n)) refl (e (lane n) (le_refl (suc n))) (each_lane n on step x) (each_lane n on' step' x) (each_same on on' step step' x n (λ l h. e l (below h)) (λ l u h t. g l u (below h) t))
  where
    turn : (t s : Bool) → on (lane n) ≡ t → t ≡ s → (u w : A) → u ≡ w → step_if t (step (lane n)) u ≡ step_if s (step' (lane n)) w
    turn true s o q u w h = subst (λ (b : Bool). step (lane n) u ≡ step_if b (step' (lane n)) w) q (g (lane n) u (le_refl (suc n)) o ∙ ap (step' (lane n)) h)
    turn false s o q u w h = subst (λ (b : Bool). u ≡ step_if b (step' (lane n)) w) q h

-- ---- the lane writer
module _ (on : Lane → Bool) (d : VReg) (f : Lane → ℕ) (v : List ℕ) where
  pub write_length : (n : ℕ) → length (write_lanes n on d f v) ≡ length v
  write_length n = each_keeps on _ v (λ u. length u ≡ length v) refl n (λ l u h t e. length-set u (slot_of d l) (f l) ∙ e)

  -- a word of no written lane stays
  pub write_other : (n j : ℕ) → ((k : Lane) → k.0 < n → on k ≡ true → j ≡ slot_of d k → ⊥) → get_or (write_lanes n on d f v) j 0 ≡ get_or v j 0
  write_other n j o = each_keeps on _ v (λ u. get_or u j 0 ≡ get_or v j 0) refl n (λ l u h t e. get_or-set_other u (slot_of d l) j (f l) 0 (o l h t) ∙ e)

  module _ (n : ℕ) (hn : n ≤ lanes_max) (r : VReg) (l : Lane) (hl : l.0 < lanes_max) where
    -- a lane that is not written keeps its words in every register
    pub write_unwritten : (l.0 < n → on l ≡ false) → lane_of (write_lanes n on d f v) r l ≡ lane_of v r l
    write_unwritten t =
        write_other n (slot_of r l) (λ k h q e.
        let z : k.0 ≡ l.0 = omega arith in
        true≢false (sym q ∙ ap on (ap lane z) ∙ t (omega arith)))

    -- another register keeps its words in every lane
    pub write_apart : (r.0 ≡ d.0 → ⊥) → lane_of (write_lanes n on d f v) r l ≡ lane_of v r l
    write_apart a = write_other n (slot_of r l) (λ k h q e. a (omega arith))

  -- a written lane has what f gives
  pub write_at : (n : ℕ) (k : Lane) → k.0 < n → n ≤ lanes_max → on k ≡ true → slot_of d k < length v → lane_of (write_lanes n on d f v) d k ≡ f k
  write_at n k h m t b =
      (each_grows on _ v (λ i u. (length u ≡ length v) × (k.0 < i → lane_of u d k ≡ f k)) (refl, λ z. absurd (omega arith)) n
      (λ l u p q e. (
        length-set u (slot_of d l) (f l) ∙ e.0,
        λ z. ⊎_elim
            (λ w. subst (λ (j : Lane). lane_of (set u (slot_of d l) (f l)) d j ≡ f j) (sym w) (get_or-set_same u (slot_of d l) (f l) 0 (subst (λ (j : ℕ). slot_of d l < j) (sym e.0) (subst (λ (j : Lane). slot_of d j < length v) w b))))
            (λ w. get_or-set_other u (slot_of d l) (slot_of d k) (f l) 0 (λ w'. omega arith) ∙ e.1 w)
            (newest z),
      ))
      (λ l u p q e. (e.0, λ z. ⊎_elim (λ w. absurd (true≢false (sym t ∙ ap on w ∙ q))) (λ w. e.1 w) (newest z)))).1 h

-- a word after a write: f's in a written lane of d, else the one before
module _ (n : ℕ) (hn : n ≤ lanes_max) (d : VReg) (hd : d.0 < vector_registers) (l : Lane) (hl : l.0 < lanes_max) where
  pub write_lane : (on : Lane → Bool) (f : Lane → ℕ) (v : List ℕ) → length v ≡ file_words → (r : VReg)
      → lane_of (write_lanes n on d f v) r l ≡ cond (ltb l.0 n && (on l && eqb r.0 d.0)) (f l) (lane_of v r l)
  write_lane on f v long r = by_case (ltb l.0 n) (on l) (eqb r.0 d.0) refl refl refl
    where
      by_case : (s t e : Bool) → ltb l.0 n ≡ s → on l ≡ t → eqb r.0 d.0 ≡ e → lane_of (write_lanes n on d f v) r l ≡ cond (s && (t && e)) (f l) (lane_of v r l)
      by_case false t e o p q = write_unwritten on d f v n hn r l hl (λ h. absurd (omega (arith, ltb-false l.0 n o)))
      by_case true false e o p q = write_unwritten on d f v n hn r l hl (λ h. p)
      by_case true true false o p q = write_apart on d f v n hn r l hl (eqb-false r.0 d.0 q)
      by_case true true true o p q =
          subst (λ (x : ℕ). get_or (write_lanes n on d f v) (x * lanes_max + l.0) 0 ≡ f l) (sym (eqb-true r.0 d.0 q)) (write_at on d f v n l (ltb-true l.0 n o) hn p (omega arith))

  -- a lane's words after a write depend on that lane alone: on its words before, whether it is on, and what it is given
  module _ (v w : List ℕ) (lv : length v ≡ file_words) (lw : length w ≡ file_words) (same : (r : VReg) → lane_of v r l ≡ lane_of w r l) where
    pub write_only : (on on' : Lane → Bool) (f g : Lane → ℕ) → on l ≡ on' l → f l ≡ g l → (r : VReg) → lane_of (write_lanes n on d f v) r l ≡ lane_of (write_lanes n on' d g w) r l
    write_only on on' f g o e r =
        write_lane on f v lv r
        ∙ ap (λ (t : Bool). cond (ltb l.0 n && (t && eqb r.0 d.0)) (f l) (lane_of v r l)) o
        ∙ ap₂ (cond (ltb l.0 n && (on' l && eqb r.0 d.0))) e (same r)
        ∙ sym (write_lane on' g w lw r)

-- what an operation gives in lane l depends on that lane alone
module _ (l : Lane) (v w : List ℕ) (same : (r : VReg) → lane_of v r l ≡ lane_of w r l) where
  pub operand_only : (b : Operand) → operand_of v b l ≡ operand_of w b l
  operand_only (Reg r) = same r
  operand_only (Word x) = refl

  pub lane_only : (op : Op) (a : VReg) (b : Operand) → op_lane op v a b l ≡ op_lane op w a b l
  lane_only op a b = ap₂ (apply_of op) (same a) (operand_only b)

-- the writer looks at no lane that is off
pub write_same : (on : Lane → Bool) (d : VReg) (f g : Lane → ℕ) (v : List ℕ) (n : ℕ) → ((l : Lane) → l.0 < n → on l ≡ true → f l ≡ g l) → write_lanes n on d f v ≡ write_lanes n on d g v
write_same on d f g v n e = each_same on on _ _ v n (λ l h. refl) (λ l u h t. ap (set u (slot_of d l)) (e l h t))

-- ---- a test in every lane
pub when_both : (s t : Bool) → (s ≡ true → t ≡ true) → (t ≡ true → s ≡ true) → s ≡ t
when_both true t f g = sym (f refl)
when_both false true f g = g refl
when_both false false f g = refl

pub both_left : (a c : Bool) → (a && c) ≡ true → a ≡ true
both_left true c e = refl
both_left false c e = e

pub both_right : (a c : Bool) → (a && c) ≡ true → c ≡ true
both_right true c e = e
both_right false c e = absurd (true≢false (sym e))

pub below_at : (n : ℕ) (p : ℕ → Bool) → all_below n p ≡ true → (i : ℕ) → i < n → p i ≡ true
unfolding all_below
below_at zero p e i h = absurd (omega arith)
below_at (suc n) p e i h =
    ⊎_elim (λ q. ap p q ∙ both_right (all_below n p) (p n) e) (λ q. below_at n p (both_left (all_below n p) (p n) e) i q) (eq-or-lt_of_le (le_of_suc-le-suc h))

pub below_all : (n : ℕ) (p : ℕ → Bool) → ((i : ℕ) → i < n → p i ≡ true) → all_below n p ≡ true
unfolding all_below
below_all zero p f = refl
below_all (suc n) p f = ap₂ ◌&&◌ (below_all n p (λ i k. f i (below k))) (f n (le_refl (suc n)))

pub below_same : (n : ℕ) (p q : ℕ → Bool) → ((i : ℕ) → i < n → p i ≡ q i) → all_below n p ≡ all_below n q
unfolding all_below
below_same zero p q e = refl
below_same (suc n) p q e = ap₂ ◌&&◌ (below_same n p q (λ i k. e i (below k))) (e n (le_refl (suc n)))

-- one for which it fails
pub below_not : (n : ℕ) (p : ℕ → Bool) (i : ℕ) → i < n → p i ≡ false → all_below n p ≡ false
below_not n p i h e = by (all_below n p) refl
  where
    by : (t : Bool) → all_below n p ≡ t → all_below n p ≡ false
    by true t = absurd (true≢false (sym (below_at n p t i h) ∙ e))
    by false t = t

-- a turn of a loop that tests one after another
pub below_none : (p : ℕ → Bool) → all_below 0 p ≡ true
unfolding all_below
below_none p = refl

pub below_more : (p : ℕ → Bool) (i : ℕ) → all_below i p ≡ true → p i ≡ true → all_below (i + 1) p ≡ true
unfolding all_below
below_more p i a b = rw (add-one i, a, b)

-- what `all` answers over the numbers below n
pub all_numbers : (n : ℕ) (p : ℕ → Bool) (r : Bool)
    → MatchBool r (AllWithin (λ i. p i ≡ true) (range_with_len 0 n) 0 (length (range_with_len 0 n))) ((k : ℕ) × (k < length (range_with_len 0 n)) × HoldsAt (λ i. p i ≡ false) (range_with_len 0 n) k)
    → r ≡ all_below n p
all_numbers n p true m =
    sym (below_all n p (λ i h. subst (λ (j : ℕ). p j ≡ true) (get_or-range_with_len 0 n i 0 h ∙ zero-add i) (m i 0 (omega arith) (omega (arith, length-range_with_len 0 n)))))
all_numbers n p false m =
    let h : m.0 < n = omega (arith, m.1, length-range_with_len 0 n) in
    sym (below_not n p m.0 h (subst (λ (j : ℕ). p j ≡ false) (get_or-range_with_len 0 n m.0 0 h ∙ zero-add m.0) (m.2 0)))

-- the same of lanes
pub all_at : (p : Lane → Bool) (n : ℕ) (l : Lane) → true ≡ all_lanes n p → l.0 < n → p l ≡ true
all_at p n l e h = below_at n (λ i. p (lane i)) (sym e) l.0 h

pub all_hold : (p : Lane → Bool) (n : ℕ) → ((l : Lane) → l.0 < n → p l ≡ true) → true ≡ all_lanes n p
all_hold p n h = sym (below_all n (λ i. p (lane i)) (λ i k. h (lane i) k))

pub all_same : (p q : Lane → Bool) (n : ℕ) → ((l : Lane) → l.0 < n → p l ≡ q l) → all_lanes n p ≡ all_lanes n q
all_same p q n e = below_same n (λ i. p (lane i)) (λ i. q (lane i)) (λ i k. e (lane i) k)

pub ok_at : (a c : Bool) → ok_if a c ≡ true → a ≡ true → c ≡ true
ok_at true c e t = e
ok_at false c e t = absurd (true≢false (sym t))

pub ok_when : (a c : Bool) → (a ≡ true → c ≡ true) → ok_if a c ≡ true
ok_when true c h = h refl
ok_when false c h = refl

pub ok_not : (a c e : Bool) → c ≡ e → not (a && not c) ≡ ok_if a e
ok_not true true e h = h
ok_not true false e h = h
ok_not false c e h = refl

pub ok_same : (a c e : Bool) → (a ≡ true → c ≡ e) → ok_if a c ≡ ok_if a e
ok_same true c e h = h refl
ok_same false c e h = refl

-- ---- one value in all lanes
module _ (n : ℕ) (on : Lane → Bool) (f : Lane → ℕ) where
  -- where they hold one value, it is the value of each
  pub uniform_at : true ≡ uniform_of n on f → (l : Lane) → l.0 < n → on l ≡ true → f l ≡ value_of n on f
  uniform_at e l h t = eqb-true (f l) (value_of n on f) (ok_at (on l) (eqb (f l) (value_of n on f)) (all_at (λ k. ok_if (on k) (eqb (f k) (value_of n on f))) n l e h) t)

  -- they hold one value where any two agree
  pub uniform_when : ((j k : Lane) → j.0 < n → k.0 < n → on j ≡ true → on k ≡ true → f j ≡ f k) → true ≡ uniform_of n on f
  uniform_when h =
      all_hold (λ l. ok_if (on l) (eqb (f l) (value_of n on f))) n (λ l k. ok_when (on l) (eqb (f l) (value_of n on f)) (λ t. eq-eqb (f l) (value_of n on f) (agree l k t)))
    where
      agree : (l : Lane) → l.0 < n → on l ≡ true → f l ≡ value_of n on f
      agree =
          each_grows on (λ l x. f l) 0 (λ i x. (l : Lane) → l.0 < i → on l ≡ true → f l ≡ x) (λ l z. absurd (omega arith)) n
          (λ i x p t q l z s. ⊎_elim (λ e. ap f e) (λ b. h l i (omega arith) p s t) (newest z))
          (λ i x p t q l z s. ⊎_elim (λ e. absurd (true≢false (sym s ∙ ap on e ∙ t))) (λ b. q l b s) (newest z))

-- a lane that is off has no say
module _ (n : ℕ) (on : Lane → Bool) (f g : Lane → ℕ) (same : (l : Lane) → l.0 < n → on l ≡ true → f l ≡ g l) where
  pub value_only : value_of n on f ≡ value_of n on g
  value_only = each_same on on (λ l x. f l) (λ l x. g l) 0 n (λ l h. refl) (λ l u h t. same l h t)

  pub uniform_only : uniform_of n on f ≡ uniform_of n on g
  uniform_only =
      all_same (λ l. ok_if (on l) (eqb (f l) (value_of n on f))) (λ l. ok_if (on l) (eqb (g l) (value_of n on g))) n
      (λ l h. ok_same (on l) (eqb (f l) (value_of n on f)) (eqb (g l) (value_of n on g)) (λ t. ap₂ eqb (same l h t) value_only))
