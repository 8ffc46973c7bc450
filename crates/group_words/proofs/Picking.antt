-- Going round the warps from one on: the first that runs, or none.
use Prim.Native.Nat.{ℕ, ◌+◌, ◌%◌, ◌≤◌, ◌<◌}
use mathlib.Core.Path.{◌≡◌, sym, ap, ◌∙◌, subst}
use mathlib.Core.Bool.{true, false}
use mathlib.Core.List.{List}
use mathlib.Core.Logic.{⊎_elim}
use native.Mathlib.Nat.{eq-or-lt_of_le, mod-eq_of_lt, mod_self, mod-add-mod}
use native.Mathlib.Omega.{arith}
use lib.ListN.{length, get_or}
use Rattle.warp.specs.declared.Warp.{Warp}
use Rattle.warp.specs.Warp.{zero_warp}
use Rattle.group.specs.Group.{next_of, runs, some_runs, first_from}
use Rattle.group.proofs.GroupLaws.{after, after_none, within, first_is, all_stopped}
use Rattle.group_words.specs.Row.{Picks}

-- ---- the next number

pub next_up : (n i : ℕ) → i + 1 < n → i + 1 ≡ next_of n i
next_up n i h = sym (mod-eq_of_lt h)

pub next_round : (n i : ℕ) → i < n → n ≤ i + 1 → 0 ≡ next_of n i
next_round n i h k = let e : i + 1 ≡ n = omega arith in sym (ap (λ (m : ℕ). m % n) e ∙ mod_self n)

-- of n warps ws, from `turn` on, t were tried, none of which runs; the next is i
pub record Seeking (ws : List Warp) (n turn t i : ℕ) : Type 0 where
  pub here : i < n
  pub is : i ≡ after n turn t
  pub skipped : (d : ℕ) → d < t → runs (get_or ws (after n turn d) zero_warp) ≡ false

module _ (ws : List Warp) (n : ℕ) (e : length ws ≡ n) (turn : ℕ) (b : turn < n) where
  pub seek_start : Seeking ws n turn 0 turn
  seek_start = record { here = b; is = sym (after_none n turn b); skipped = λ d h. absurd (omega arith) }

  module _ (t i : ℕ) (s : Seeking ws n turn t i) where
    pub seek_found : t < n → runs (get_or ws i zero_warp) ≡ true → Picks turn ws i
    seek_found l r = record { first = s.is ∙ ap (λ (m : ℕ). after m turn t) (sym e) ∙ sym first; running = r }
      where
        first : first_from (length ws) turn ws ≡ after (length ws) turn t
        first = first_is (length ws) turn t ws (rw e b) (rw e l) (record { running = rw (e, ← s.is) r; skipped = λ d h. rw e (s.skipped d h) })

    pub seek_on : runs (get_or ws i zero_warp) ≡ false → (k : ℕ) → k ≡ next_of n i → k < n → Seeking ws n turn (t + 1) k
    seek_on r k q h =
        record {
          here = h;
          is = q ∙ ap (next_of n) s.is ∙ mod-add-mod (turn + t) n 1 ∙ ap (λ (x : ℕ). x % n) sums;
          skipped = λ d l. ⊎_elim (λ y. subst (λ (x : ℕ). runs (get_or ws x zero_warp) ≡ false) (s.is ∙ ap (after n turn) (sym y)) r) (s.skipped d) (eq-or-lt_of_le (less d l));
        }
      where
        sums : turn + t + 1 ≡ turn + (t + 1)
        sums = omega arith

        less : (d : ℕ) → d < t + 1 → d ≤ t
        less d l = omega arith

    pub seek_none : n ≤ t → some_runs ws ≡ false
    seek_none l = all_stopped ws (λ j c. let p = within n turn j b (rw e at c) in rw (← p.there) (s.skipped p.far (omega (arith, p.short))))
