-- The words that a call answers with, and the refusals that look at lengths alone.
use Prim.Native.Nat.{ℕ}
use mathlib.Core.Path.{◌≡◌, refl}
use mathlib.Core.Bool.{false}
use mathlib.Core.List.{List, [], ◌∷◌}
use native.Mathlib.Omega.{arith}
use lib.ListN.{length, set}
use borrow.Author.Tests.{eq-eqb, ne_eqb}
use Rattle.memory.specs.Memories.{Contents}
use Rattle.group_state.specs.GroupState.{is_group, group_called, group_step_call_of, group_run_call_of}

pub one_word : (t : List ℕ) (x : ℕ) → length t ≡ 1 → set t 0 x ≡ x ∷ []
one_word [] x e = absurd (omega arith)
one_word (a ∷ []) x e = refl
one_word (a ∷ b ∷ t) x e = absurd (omega arith)

pub two_words : (t : List ℕ) (x y : ℕ) → length t ≡ 2 → set (set t 0 x) 1 y ≡ x ∷ y ∷ []
two_words [] x y e = absurd (omega arith)
two_words (a ∷ []) x y e = absurd (omega arith)
two_words (a ∷ b ∷ []) x y e = refl
two_words (a ∷ b ∷ c ∷ t) x y e = absurd (omega arith)

module _ (s k v : List ℕ) (c : Contents) (t : List ℕ) where
  pub step_told : (length t ≡ 1 → ⊥) → group_called 1 s v c t ≡ group_step_call_of s k v c t
  unfolding group_step_call_of
  step_told z = rw (ne_eqb _ _ z)

  pub step_size : length t ≡ 1 → is_group s ≡ false → group_called 1 s v c (0 ∷ []) ≡ group_step_call_of s k v c t
  unfolding group_step_call_of
  step_size e z = rw (eq-eqb _ _ e, z)

  pub step_same : length t ≡ 1 → group_step_call_of s k v c (0 ∷ []) ≡ group_step_call_of s k v c t
  unfolding group_step_call_of
  step_same e = rw (eq-eqb _ _ e)

  module _ (b : ℕ) where
    pub run_told : (length t ≡ 2 → ⊥) → group_called 1 s v c t ≡ group_run_call_of s k b v c t
    unfolding group_run_call_of
    run_told z = rw (ne_eqb _ _ z)

    pub run_size : length t ≡ 2 → is_group s ≡ false → group_called 1 s v c (0 ∷ 0 ∷ []) ≡ group_run_call_of s k b v c t
    unfolding group_run_call_of
    run_size e z = rw (eq-eqb _ _ e, z)

    pub run_same : length t ≡ 2 → group_run_call_of s k b v c (0 ∷ 0 ∷ []) ≡ group_run_call_of s k b v c t
    unfolding group_run_call_of
    run_same e = rw (eq-eqb _ _ e)
