-- Two sheets line by line.
use Prim.Native.Nat.{ℕ, suc, ◌+◌, ◌-◌, ◌<◌, ◌≤◌}
use mathlib.Core.Path.{◌≡◌, refl, sym, ap, ap₂, ◌∙◌}
use mathlib.Core.Bool.{Bool, true, false, true≢false}
use mathlib.Core.List.{List, [], ◌∷◌}
use native.Mathlib.Omega.{arith}
use native.Mathlib.Nat.{sub-zero}
use lib.Dec.{eqb}
use lib.ListN.{take, drop}
use borrow.Author.Tests.{eqb-true, eq-eqb}
use Rattle.answer.proofs.Rows.{both}
use Rattle.sheet_lines.specs.declared.Marks.TheVariants.{Full, Differs, Short, Long}
use Rattle.sheet_lines.specs.Sheet.{head_size, line_size, sheet_size, lines_at}
use Rattle.sheet_lines.specs.Compare.{same_of, compare_of}

-- the test of two lines is whether they are equal
pub same_true : (a b : List ℕ) → same_of a b ≡ true → a ≡ b
same_true [] [] e = refl
same_true (x ∷ a) [] e = absurd (true≢false (sym e))
same_true [] (y ∷ b) e = absurd (true≢false (sym e))
same_true (x ∷ a) (y ∷ b) e =
    let p = both (eqb x y) (same_of a b) e in
    ap₂ (λ (h : ℕ) (t : List ℕ). h ∷ t) (eqb-true x y p.0) (same_true a b p.1)

pub same_self : (a : List ℕ) → same_of a a ≡ true
same_self [] = refl
same_self (x ∷ a) = rw (eq-eqb x x refl) (same_self a)

-- ---- one line more

module _ (i : ℕ) (a b : List ℕ) (own given : List (List ℕ)) where
  pub compare_on : a ≡ b → compare_of i (a ∷ own) (b ∷ given) ≡ compare_of (i + 1) own given
  unfolding compare_of
  compare_on e = rw (e, same_self b)

  pub compare_off : (a ≡ b → ⊥) → compare_of i (a ∷ own) (b ∷ given) ≡ Differs i
  unfolding compare_of
  compare_off n = by (same_of a b) refl
    where
      by : (t : Bool) → same_of a b ≡ t → compare_of i (a ∷ own) (b ∷ given) ≡ Differs i
      by true e = absurd (n (same_true a b e))
      by false e = rw e

-- ---- in two buffers: what is left of them decides as the whole does. Line i, from 0, begins where a sheet of i steps ends

-- as the code has a line's width
pub width : (i : ℕ) → sheet_size i + line_size - sheet_size i ≡ line_size
width i = omega arith

abbrev pub rest : List ℕ → ℕ → ℕ → List (List ℕ)
rest s n i = lines_at (n - i) s (sheet_size i)

pub rest_next : (s : List ℕ) (n i : ℕ) → i < n → rest s n i ≡ take line_size (drop (sheet_size i) s) ∷ rest s n (i + 1)
unfolding lines_at
rest_next s n i h =
    let e : n - i ≡ suc (n - (i + 1)) = omega arith in
    let f : sheet_size i + line_size ≡ sheet_size (i + 1) = omega arith in
    rw e (ap (λ (j : ℕ). take line_size (drop (sheet_size i) s) ∷ lines_at (n - (i + 1)) s j) f)

pub rest_none : (s : List ℕ) (n i : ℕ) → n ≤ i → rest s n i ≡ []
unfolding lines_at
rest_none s n i h = let e : n - i ≡ 0 = omega arith in rw e

module _ (a b : List ℕ) (n m : ℕ) where
  -- i lines are alike
  abbrev pub Alike : ℕ → Type 0
  Alike i = compare_of 1 (lines_at n a head_size) (lines_at m b head_size) ≡ compare_of (i + 1) (rest a n i) (rest b m i)

  pub alike_none : Alike 0
  alike_none = rw (sub-zero, sub-zero)

  abbrev line_a : ℕ → List ℕ
  line_a i = take line_size (drop (sheet_size i) a)

  abbrev line_b : ℕ → List ℕ
  line_b i = take line_size (drop (sheet_size i) b)

  next : (i : ℕ) → i < n → i < m → compare_of (i + 1) (rest a n i) (rest b m i) ≡ compare_of (i + 1) (line_a i ∷ rest a n (i + 1)) (line_b i ∷ rest b m (i + 1))
  next i h g = ap₂ (compare_of (i + 1)) (rest_next a n i h) (rest_next b m i g)

  module _ (i : ℕ) (e : Alike i) where
    pub alike_more : i < n → i < m → line_a i ≡ line_b i → Alike (i + 1)
    alike_more h g s = e ∙ next i h g ∙ compare_on (i + 1) (line_a i) (line_b i) _ _ s

    pub alike_differs : i < n → i < m → (line_a i ≡ line_b i → ⊥) → Differs (i + 1) ≡ compare_of 1 (lines_at n a head_size) (lines_at m b head_size)
    alike_differs h g s = sym (e ∙ next i h g ∙ compare_off (i + 1) (line_a i) (line_b i) _ _ s)

    pub alike_short : i < n → m ≤ i → Short ≡ compare_of 1 (lines_at n a head_size) (lines_at m b head_size)
    unfolding compare_of
    alike_short h g = sym (e ∙ rw (rest_next a n i h, rest_none b m i g))

    pub alike_long : n ≤ i → i < m → Long ≡ compare_of 1 (lines_at n a head_size) (lines_at m b head_size)
    unfolding compare_of
    alike_long h g = sym (e ∙ rw (rest_none a n i h, rest_next b m i g))

    pub alike_full : n ≤ i → m ≤ i → Full ≡ compare_of 1 (lines_at n a head_size) (lines_at m b head_size)
    unfolding compare_of
    alike_full h g = sym (e ∙ rw (rest_none a n i h, rest_none b m i g))
