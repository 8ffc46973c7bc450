-- The two calls by cases; two results that a contract allows are equal.
use Prim.Native.Nat.{ℕ, ◌≤◌, ◌<◌}
use mathlib.Core.Path.{◌≡◌, refl, sym, ◌∙◌, ap}
use mathlib.Core.Bool.{true, false}
use mathlib.Core.List.{List}
use lib.ListN.{length, replicate}
use borrow.Author.Tests.{ne_eqb, le-leb, lt-leb}
use Rattle.std.specs.Prelude.{Result}
use Rattle.std.specs.Result.{result_unwrap_or}
use Rattle.answer.specs.declared.Refusal.{Refusal}
use Rattle.answer.specs.Answer.{number_of}
use Rattle.answer.proofs.Numbers.{number_one}
use Rattle.warp.specs.declared.Warp.{Warp}
use Rattle.warp.specs.Warp.{split_count, zero_warp, Answered, answered}
use Rattle.layout.specs.Words.{state_words, split_part, moving_part, warp_of, splits_words, words_of, warp_in, sound_in}
use Rattle.layout.proofs.Words.{sound_parts}
use Rattle.saved.specs.Saved.{Saving, saving, save_of, restore_of}

-- ---- by cases

module _ (w : Warp) (t : List ℕ) where
  pub save_size : (length t ≡ state_words → ⊥) → saving 1 t ≡ save_of w t
  unfolding save_of
  save_size h = rw (ne_eqb _ _ h)

  module _ (l : length t ≡ state_words) where
    pub save_deep : split_count < w.depth → saving 2 t ≡ save_of w t
    unfolding save_of
    save_deep h = rw (l, lt-leb _ _ h)

    pub save_done : w.depth ≤ split_count → saving 0 (words_of w) ≡ save_of w t
    unfolding save_of
    save_done h = rw (l, le-leb _ _ h)

module _ (t : List ℕ) where
  pub restore_size : (length t ≡ state_words → ⊥) → answered 1 zero_warp ≡ restore_of t
  unfolding restore_of
  restore_size h = rw (ne_eqb _ _ h)

  module _ (l : length t ≡ state_words) where
    pub restore_bad : sound_in t ≡ false → answered 2 zero_warp ≡ restore_of t
    unfolding restore_of
    restore_bad h = rw (l, h)

    pub restore_done : sound_in t ≡ true → answered 0 (warp_in t) ≡ restore_of t
    unfolding restore_of
    restore_done h = rw (l, h)

-- ---- the zero warp, and a state that is sound

pub zero_words : words_of zero_warp ≡ replicate state_words 0
unfolding words_of zero_warp splits_words
zero_words = refl

module _ (t : List ℕ) (ok : sound_in t ≡ true) where
  pub warp_deep : (warp_in t).depth ≤ split_count
  unfolding warp_of
  warp_deep = (sound_parts (moving_part t) (split_part t) ok).deep

-- ---- two results that a contract allows

pub save_determined : (w : Warp) (t : List ℕ) (a b : Result Unit Refusal) (u v : List ℕ) → saving (number_of a) u ≡ save_of w t → saving (number_of b) v ≡ save_of w t → (a ≡ b) × (u ≡ v)
save_determined w t a b u v p q =
    let e : saving (number_of a) u ≡ saving (number_of b) v = p ∙ sym q in
    (number_one tt a b (ap (λ (x : Saving). x.number) e) refl, ap (λ (x : Saving). x.state) e)

pub restore_determined : (t : List ℕ) (r s : Result Warp Refusal) → answered (number_of r) (result_unwrap_or r zero_warp) ≡ restore_of t → answered (number_of s) (result_unwrap_or s zero_warp) ≡ restore_of t → r ≡ s
restore_determined t r s p q =
    let e : answered (number_of r) (result_unwrap_or r zero_warp) ≡ answered (number_of s) (result_unwrap_or s zero_warp) = p ∙ sym q in
    number_one zero_warp r s (ap (λ (x : Answered). x.code) e) (ap (λ (x : Answered). x.warp) e)
