-- From lanes apart and from pairs of stores to stores that agree.
use mathlib.Core.Path.{◌≡◌, refl, sym, ap, ap₂, subst, ◌∙◌}
use mathlib.Core.Bool.{Bool, true, false, ◌&&◌}
use mathlib.Core.List.{List}
use mathlib.Core.Logic.{◌⊎◌, inl, inr, ⊎_elim}
use Prim.Native.Nat.{ℕ, zero, suc, ◌+◌, ◌-◌, ◌*◌, ◌/◌, ◌%◌, ◌^◌, ◌≤◌, ◌<◌}
use native.Mathlib.Nat.{div-one, eq-or-lt_of_le, le_of_suc-le-suc, le_refl, lt_of_lt_of_le, le-suc}
use native.Mathlib.Omega.{arith}
use lib.Dec.{leb, ltb}
use lib.ListN.{get_or}
use lib.Pow.{shr-shr, mod-pow-add, field, mod-mod-pow}
use borrow.Author.Tests.{eqb-true, eq-eqb, leb-true, leb-false, ltb-true, ltb-false, lt-ltb, le-ltb}
use Rattle.word.specs.Word.{sub_of}
use Rattle.isa.specs.declared.StoreOp.{StoreOp}
use Rattle.lanes.specs.declared.Lane.{Lane}
use Rattle.lanes.specs.Mask.{lane, bit}
use Rattle.lanes.specs.Lanes.{lanes_max, ok_if}
use Rattle.lanes.specs.Rows.{at}
use Rattle.lanes.proofs.Laws.{when_both, all_at, all_hold, ok_at, ok_when}
use Rattle.memory.specs.Bytes.{le_bytes}
use Rattle.memory.specs.Memory.{width_of, has_of, Has, byte_at}
use Rattle.memory.specs.LaneAccess.{all_agree}
use Rattle.memory.proofs.Agree.{has_true, true_has, SameBytes, Agreed, all_agreed, agreed_all}
use Rattle.lane_clash.specs.Clash.{reach, Follows, Spread, NoneMeet, low_same, from_of, lane_from, pairs_from}

-- ---- lanes that go up or down

-- b is g above a, wrapping
abbrev Above : ℕ → ℕ → ℕ → Type 0
Above a b g = (b ≡ a + g) ⊎ (b + 2 ^ 32 ≡ a + g)

above_sub : (a b : ℕ) → a < 2 ^ 32 → b < 2 ^ 32 → Above a b (sub_of b a)
above_sub a b p q = by (leb a b) refl
  where
    by : (t : Bool) → leb a b ≡ t → Above a b (sub_of b a)
    by true e = inl (omega (arith, leb-true a b e))
    by false e = inr (omega (arith, leb-false a b e))

above_more : (a b c g i : ℕ) → a < 2 ^ 32 → g + i < 2 ^ 32 → Above a b g → Above b c i → Above a c (g + i)
above_more a b c g i p q (inl e) (inl f) = inl (omega arith)
above_more a b c g i p q (inl e) (inr f) = inr (omega arith)
above_more a b c g i p q (inr e) (inl f) = inr (omega arith)
above_more a b c g i p q (inr e) (inr f) = absurd (omega arith)

-- at least w above, and less than half the address space
above_apart : (w a b g : ℕ) → w ≤ 4 → w ≤ g → g < 2 ^ 31 → Above a b g → (c : ℕ) → Has w a c → Has w b c → ⊥
above_apart w a b g p q r (inl e) c h i = omega (arith, h.1, i.0)
above_apart w a b g p q r (inr e) c h i = omega (arith, h.0, i.1)

-- a step of less than `reach` and w
step_size : (w t : ℕ) → w ≤ 4 → t < 2 ^ 32 → sub_of t w < reach → (w ≤ t) × (t < reach + 4)
step_size w t p q r = by (leb w t) refl
  where
    by : (s : Bool) → leb w t ≡ s → (w ≤ t) × (t < reach + 4)
    by true e = let z = leb-true w t e in (z, omega (arith, z))
    by false e = absurd (omega (arith, leb-false w t e))

-- the most that d steps of lanes make
abbrev most : ℕ → ℕ
most d = d * (reach + 4)

-- b is above a by d steps
record Gap (w d a b : ℕ) : Type 0 where
  size : ℕ
  least : w ≤ size
  below : size < most d
  above : Above a b size

module _ (w : ℕ) (small : w ≤ 4) where
  gap_step : (a b : ℕ) → a < 2 ^ 32 → b < 2 ^ 32 → sub_of (sub_of b a) w < reach → Gap w 1 a b
  gap_step a b p q r =
      let z = step_size w (sub_of b a) small (omega arith) r in
      record { size = sub_of b a; least = z.0; below = omega (arith, z.1); above = above_sub a b p q }

  gap_more : (d e a b c : ℕ) → d + e < lanes_max → a < 2 ^ 32 → Gap w d a b → Gap w e b c → Gap w (d + e) a c
  gap_more d e a b c h p g i =
      let x = g.below in
      let y = i.below in
      record {
        size = g.size + i.size;
        least = omega (arith, g.least);
        below = omega (arith, x, y);
        above = above_more a b c g.size i.size p (omega (arith, x, y)) g.above i.above;
      }

  gap_apart : (d a b : ℕ) → d < lanes_max → Gap w d a b → (c : ℕ) → Has w a c → Has w b c → ⊥
  gap_apart d a b h g = above_apart w a b g.size small g.least (omega (arith, g.below)) g.above

  -- from the address a of a lane to that b of a later one, up or down
  abbrev Span : Bool → ℕ → ℕ → ℕ → Type 0
  Span true d a b = Gap w d a b
  Span false d a b = Gap w d b a

  span_step : (up : Bool) (a b : ℕ) → Follows up w a b → Span up 1 a b
  span_step true a b f = gap_step a b f.0 f.1 f.2
  span_step false a b f = gap_step b a f.1 f.0 f.2

  span_more : (up : Bool) (d a b c : ℕ) → d + 1 < lanes_max → a < 2 ^ 32 → c < 2 ^ 32 → Span up d a b → Span up 1 b c → Span up (d + 1) a c
  span_more true d a b c h p q g i = gap_more d 1 a b c h p g i
  span_more false d a b c h p q g i =
      let e : 1 + d ≡ d + 1 = omega arith in
      subst (λ (m : ℕ). Gap w m c a) e (gap_more 1 d c b a (omega arith) q i g)

  span_apart : (up : Bool) (d a b : ℕ) → d < lanes_max → Span up d a b → (c : ℕ) → Has w a c → Has w b c → ⊥
  span_apart true d a b h g c p q = gap_apart d a b h g c p q
  span_apart false d a b h g c p q = gap_apart d b a h g c q p

  module _ (up : Bool) (n : ℕ) (o : List ℕ) (lanes : n ≤ lanes_max) (s : Spread up w n o) where
    spans : (d i : ℕ) → i + (d + 1) < n → Span up (d + 1) (get_or o i 0) (get_or o (i + (d + 1)) 0)
    spans zero i h = span_step up (get_or o i 0) (get_or o (i + 1) 0) (s i h)
    spans (suc d) i h =
        let j : ℕ = i + (d + 1) in
        let e : i + (suc d + 1) ≡ j + 1 = omega arith in
        let f : suc d + 1 ≡ (d + 1) + 1 = omega arith in
        let t = s j (omega arith) in
        rw (e, f)
        (span_more up (d + 1) (get_or o i 0) (get_or o j 0) (get_or o (j + 1) 0) (omega arith) (s i (omega arith)).0 t.1 (spans d i (omega arith)) (span_step up (get_or o j 0) (get_or o (j + 1) 0) t))

    pub spread_apart : NoneMeet w n o
    spread_apart l h p q c x y =
        let d : ℕ = h.0 - suc l.0 in
        let e : l.0 + (d + 1) ≡ h.0 = omega arith in
        span_apart up (d + 1) (at o l) (at o h) (omega arith)
        (subst (λ (j : ℕ). Span up (d + 1) (at o l) (get_or o j 0)) e (spans d l.0 (omega arith))) c x y

-- one lane more
pub spread_more : (up : Bool) (w l last : ℕ) (o : List ℕ) → (0 < l → last ≡ get_or o (l - 1) 0) → Spread up w l o → Follows up w last (get_or o l 0) → Spread up w (l + 1) o
spread_more up w l last o e s f i h = ⊎_elim newly (s i) (eq-or-lt_of_le (omega arith))
  where
    newly : i + 1 ≡ l → Follows up w (get_or o i 0) (get_or o (i + 1) 0)
    newly q =
        let d : l - 1 ≡ i = omega (arith, q) in
        subst (λ (a : ℕ). Follows up w a (get_or o (i + 1) 0)) (e (omega (arith, q)) ∙ ap (λ (j : ℕ). get_or o j 0) d) (subst (λ (j : ℕ). Follows up w last (get_or o j 0)) (sym q) f)

-- ---- bytes of words

-- byte i of the n low bytes
pub byte_of : (n i x : ℕ) → i < n → get_or (le_bytes n x) i 0 ≡ x / 2 ^ (8 * i) % 2 ^ 8
unfolding le_bytes
byte_of zero i x h = absurd (omega arith)
byte_of (suc n) zero x h = ap (λ (y : ℕ). y % 2 ^ 8) (sym (div-one x))
byte_of (suc n) (suc i) x h =
    let e : 8 + 8 * i ≡ 8 * suc i = omega arith in
    byte_of n i (x / 256) (le_of_suc-le-suc h) ∙ ap (λ (y : ℕ). y % 2 ^ 8) (shr-shr x 8 (8 * i) ∙ ap (λ (j : ℕ). x / 2 ^ j) e)

abbrev digit : ℕ → ℕ → ℕ
digit i x = x / 2 ^ (8 * i) % 2 ^ 8

eight_more : (n : ℕ) → 8 * suc n ≡ 8 + 8 * n
eight_more n = omega arith

-- the n low bytes are the same where each is
low_digits : (n x y : ℕ) → x % 2 ^ (8 * n) ≡ y % 2 ^ (8 * n) → (i : ℕ) → i < n → digit i x ≡ digit i y
low_digits zero x y e i h = absurd (omega arith)
low_digits (suc n) x y e i h =
    let f : x % 2 ^ (8 + 8 * n) ≡ y % 2 ^ (8 + 8 * n) = rw (← eight_more n) e in
    ⊎_elim
    (λ q. subst (λ (j : ℕ). digit j x ≡ digit j y) (sym q) (sym (field x 8 (8 * n)) ∙ ap (λ (z : ℕ). z / 2 ^ (8 * n)) f ∙ field y 8 (8 * n)))
    (low_digits n x y (sym (mod-mod-pow x 8 (8 * n)) ∙ ap (λ (z : ℕ). z % 2 ^ (8 * n)) f ∙ mod-mod-pow y 8 (8 * n)) i)
    (eq-or-lt_of_le (le_of_suc-le-suc h))

digits_low : (n x y : ℕ) → ((i : ℕ) → i < n → digit i x ≡ digit i y) → x % 2 ^ (8 * n) ≡ y % 2 ^ (8 * n)
digits_low zero x y f = omega arith
digits_low (suc n) x y f =
    rw (eight_more n)
    (mod-pow-add x 8 (8 * n)
    ∙ ap₂ (λ (p q : ℕ). p * 2 ^ (8 * n) + q) (f n (le_refl (suc n))) (digits_low n x y (λ i h. f i (lt_of_lt_of_le h (le-suc n))))
    ∙ sym (mod-pow-add y 8 (8 * n)))

-- ---- a store at b that begins in one at a: the code's test
module _ (w a b : ℕ) (last : a + w ≤ 2 ^ 32) (word : b < 2 ^ 32) where
  pub begins_when : ltb (sub_of b a) w ≡ has_of w a b
  begins_when = by (leb a b) (ltb b (a + w)) refl refl
    where
      by : (s t : Bool) → leb a b ≡ s → ltb b (a + w) ≡ t → ltb (sub_of b a) w ≡ (s && t)
      by true true e f = lt-ltb (sub_of b a) w (omega (arith, leb-true a b e, ltb-true b (a + w) f))
      by true false e f = le-ltb (sub_of b a) w (omega (arith, leb-true a b e, ltb-false b (a + w) f))
      by false t e f = le-ltb (sub_of b a) w (omega (arith, leb-false a b e))

  module _ (x y : ℕ) where
    pub from_apart : w ≤ sub_of b a → true ≡ from_of w a x b y
    from_apart h = ap (λ (t : Bool). ok_if t (low_same (a + w - b) (x / 2 ^ (8 * (b - a))) y)) (sym (le-ltb (sub_of b a) w h) ∙ begins_when)

    pub from_near : (d : ℕ) → d ≡ sub_of b a → d < w → low_same (w - d) (x / 2 ^ (8 * d)) y ≡ from_of w a x b y
    from_near d e h =
        let t : ltb (sub_of b a) w ≡ true = lt-ltb (sub_of b a) w (omega (arith, e, h)) in
        let g = has_true w a b (sym begins_when ∙ t) in
        let f : d ≡ b - a = omega (arith, e, g.0) in
        let i : w - d ≡ a + w - b = omega (arith, f, g.0, g.1) in
        ap₂ (λ (m n : ℕ). low_same m (x / 2 ^ (8 * n)) y) i f ∙ ap (λ (t : Bool). ok_if t (low_same (a + w - b) (x / 2 ^ (8 * (b - a))) y)) (sym t ∙ begins_when)

-- ---- pairs
module _ (k : StoreOp) (a x b y : ℕ) where
  abbrev w : ℕ
  w = width_of k

  -- the byte that x and y have at the address c, from where the second begins
  shifted : (c : ℕ) → a ≤ b → Has w a c → b ≤ c → digit (c - b) (x / 2 ^ (8 * (b - a))) ≡ byte_at k a x c
  shifted c p h q =
      let e : 8 * (b - a) + 8 * (c - b) ≡ 8 * (c - a) = omega arith in
      ap (λ (z : ℕ). z % 2 ^ 8) (shr-shr x (8 * (b - a)) (8 * (c - b)) ∙ ap (λ (j : ℕ). x / 2 ^ j) e) ∙ sym (byte_of w (c - a) x (omega (arith, h.0, h.1)))

  from_same : from_of w a x b y ≡ true → a ≤ b → SameBytes k a x b y
  from_same e p c h g =
      let t = true_has w a b (p, omega (arith, h.1, g.0)) in
      let f = eqb-true _ _ (ok_at (has_of w a b) (low_same (a + w - b) (x / 2 ^ (8 * (b - a))) y) e t) in
      sym (shifted c p h g.0) ∙ low_digits (a + w - b) (x / 2 ^ (8 * (b - a))) y f (c - b) (omega (arith, h.1, g.0)) ∙ sym (byte_of w (c - b) y (omega (arith, g.0, g.1)))

  same_from : SameBytes k a x b y → from_of w a x b y ≡ true
  same_from s =
      ok_when (has_of w a b) (low_same (a + w - b) (x / 2 ^ (8 * (b - a))) y)
      (λ t.
      let q = has_true w a b t in
      eq-eqb _ _ (digits_low (a + w - b) (x / 2 ^ (8 * (b - a))) y (λ i h. each q i h)))
    where
      each : Has w a b → (i : ℕ) → i < a + w - b → digit i (x / 2 ^ (8 * (b - a))) ≡ digit i y
      each q i h =
          let e : (b + i) - b ≡ i = omega arith in
          let f : Has w a (b + i) = (omega (arith, q.0), omega (arith, q.1)) in
          let g : Has w b (b + i) = (omega arith, omega (arith, q.0)) in
          subst (λ (j : ℕ). digit j (x / 2 ^ (8 * (b - a))) ≡ digit j y) e
          (shifted (b + i) q.0 f (omega arith) ∙ s (b + i) f g ∙ byte_of w ((b + i) - b) y (omega (arith, q.0)))

module _ (k : StoreOp) (mask n : ℕ) (o x : List ℕ) where
  abbrev v : ℕ
  v = width_of k

  abbrev All : Type 0
  All = Agreed n (bit mask) k (at o) (at x)

  abbrev with_lane : Lane → Lane → Bool
  with_lane l h = ok_if (bit mask h) (from_of v (at o l) (at x l) (at o h) (at x h))

  abbrev of_lane : Lane → Bool
  of_lane l = ok_if (bit mask l) (lane_from v mask n o x l)

  pairs_agreed : true ≡ pairs_from v mask n o x → All
  pairs_agreed e l h p q s t = by (leb (at o l) (at o h)) refl
    where
      from : (l h : Lane) → l.0 < n → h.0 < n → bit mask l ≡ true → bit mask h ≡ true → from_of v (at o l) (at x l) (at o h) (at x h) ≡ true
      from l h p q s t =
          let i : lane_from v mask n o x l ≡ true = ok_at (bit mask l) (lane_from v mask n o x l) (all_at of_lane n l e p) s in
          ok_at (bit mask h) (from_of v (at o l) (at x l) (at o h) (at x h)) (all_at (with_lane l) n h (sym i) q) t

      by : (z : Bool) → leb (at o l) (at o h) ≡ z → SameBytes k (at o l) (at x l) (at o h) (at x h)
      by true z = from_same k (at o l) (at x l) (at o h) (at x h) (from l h p q s t) (leb-true (at o l) (at o h) z)
      by false z = λ c f g. sym (from_same k (at o h) (at x h) (at o l) (at x l) (from h l q p t s) (omega (arith, leb-false (at o l) (at o h) z)) c g f)

  agreed_pairs : All → true ≡ pairs_from v mask n o x
  agreed_pairs f =
      all_hold of_lane n
      (λ l p. ok_when (bit mask l) (lane_from v mask n o x l)
      (λ s. sym (all_hold (with_lane l) n
      (λ h q. ok_when (bit mask h) (from_of v (at o l) (at x l) (at o h) (at x h)) (λ t. same_from k (at o l) (at x l) (at o h) (at x h) (f l h p q s t))))))

  pub pairs_agree : pairs_from v mask n o x ≡ all_agree n (bit mask) k (at o) (at x)
  pairs_agree =
      when_both (pairs_from v mask n o x) (all_agree n (bit mask) k (at o) (at x)) (λ e. sym (agreed_all n (bit mask) k (at o) (at x) (pairs_agreed (sym e))))
      (λ e. sym (agreed_pairs (all_agreed n (bit mask) k (at o) (at x) (sym e))))

  pub apart_agree : NoneMeet v n o → true ≡ all_agree n (bit mask) k (at o) (at x)
  apart_agree a = agreed_all n (bit mask) k (at o) (at x) (λ l h p q s t. by l h p q (ltb l.0 h.0) (ltb h.0 l.0) refl refl)
    where
      by : (l h : Lane) → l.0 < n → h.0 < n → (y z : Bool) → ltb l.0 h.0 ≡ y → ltb h.0 l.0 ≡ z → SameBytes k (at o l) (at x l) (at o h) (at x h)
      by l h p q true z e f c i j = absurd (a l h (ltb-true l.0 h.0 e) q c i j)
      by l h p q false true e f c i j = absurd (a h l (ltb-true h.0 l.0 f) p c j i)
      by l h p q false false e f c i j =
          let d : l.0 ≡ h.0 = omega (arith, ltb-false l.0 h.0 e, ltb-false h.0 l.0 f) in
          ap (λ (m : ℕ). byte_at k (at o (lane m)) (at x (lane m)) c) d
