-- Lists made of a function on numbers.
use Prim.Native.Nat.{ℕ, zero, suc, ◌+◌, ◌<◌}
use mathlib.Core.Path.{◌≡◌, refl, sym, ap, ◌∙◌, subst}
use mathlib.Core.List.{List, [], ◌∷◌, map}
use mathlib.Core.Logic.{⊎_elim}
use native.Mathlib.Nat.{eq-or-lt_of_le, le_of_suc-le-suc}
use native.Mathlib.Numerals.{add-one}
use native.Mathlib.Omega.{arith}
use lib.ListN.{length, get_or, length-append, length-map, get_or-append, get_or-map}
use lib.Seq.{get_or_at, ext_get_or}
use Rattle.group_words.specs.Row.{tabulate}

module _ {A : Type 0} where
  pub tab_length : (n : ℕ) (f : ℕ → A) → length (tabulate n f) ≡ n
  unfolding tabulate
  tab_length zero f = refl
  tab_length (suc n) f = length-append (tabulate n f) (f n ∷ []) ∙ ap (λ (k : ℕ). k + 1) (tab_length n f) ∙ add-one n

  pub tab_at : (n : ℕ) (f : ℕ → A) (d : A) (i : ℕ) → i < n → get_or (tabulate n f) i d ≡ f i
  unfolding tabulate
  tab_at zero f d i h = absurd (omega arith)
  tab_at (suc n) f d i h =
      ⊎_elim (λ e. get_or_at (tabulate n f) (f n) [] d i (tab_length n f ∙ sym e) ∙ ap f (sym e))
      (λ l. let b : i < length (tabulate n f) = subst (λ (k : ℕ). i < k) (sym (tab_length n f)) l in get_or-append (tabulate n f) (f n ∷ []) d i b ∙ tab_at n f d i l)
      (eq-or-lt_of_le (le_of_suc-le-suc h))

  -- a list that has f at each number below n
  pub tab_is : (n : ℕ) (f : ℕ → A) (d : A) (l : List A) → length l ≡ n → ((i : ℕ) → i < n → get_or l i d ≡ f i) → l ≡ tabulate n f
  tab_is n f d l e h =
      ext_get_or d l (tabulate n f) (e ∙ sym (tab_length n f)) (λ i b. let c : i < n = subst (λ (k : ℕ). i < k) e b in h i c ∙ sym (tab_at n f d i c))

pub tab_map : {A B : Type 0} (n : ℕ) (f : ℕ → A) (g : A → B) (d : A) → map g (tabulate n f) ≡ tabulate n (λ i. g (f i))
tab_map {B = B} n f g d =
    tab_is n (λ i. g (f i)) (g d) (map g (tabulate n f)) (length-map (tabulate n f) g ∙ tab_length n f)
    (λ i b. get_or-map g (tabulate n f) i d ∙ ap g (tab_at n f d i b))
