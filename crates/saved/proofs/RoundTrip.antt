-- Saving and restoring are inverse.
use Prim.Native.Nat.{ℕ, ◌≤◌}
use mathlib.Core.Path.{◌≡◌, sym, ap, ◌∙◌}
use mathlib.Core.Bool.{true}
use mathlib.Core.List.{List}
use lib.ListN.{length}
use Rattle.warp.specs.declared.Warp.{Warp}
use Rattle.isa.specs.Bounds.{scalar_registers}
use Rattle.warp.specs.Warp.{split_count, Answered, answered}
use Rattle.layout.specs.Words.{state_words, words_of, warp_in, sound_in}
use Rattle.layout.proofs.Words.{warp_words_lem, words_warp, words_sound, words_long}
use Rattle.saved.specs.Saved.{Saving, saving, save_of, restore_of}
use Rattle.saved.proofs.SaveLaws.{save_done, restore_done, warp_deep}

-- Restoring what was saved gives the same warp.
pub saved_restored : (w : Warp) → length w.x ≡ scalar_registers → length w.splits ≡ split_count → (t : List ℕ) → length t ≡ state_words → w.depth ≤ split_count
    → restore_of (save_of w t).state ≡ answered 0 w
saved_restored w lx lq t l d =
    ap (λ (s : Saving). restore_of s.state) (sym (save_done w t l d)) ∙ sym (restore_done (words_of w) (words_long w lx lq) (words_sound w lx lq d)) ∙ ap (answered 0) (words_warp w lx lq)

-- Saving what was restored gives the same words.
pub restored_saved : (t : List ℕ) → length t ≡ state_words → sound_in t ≡ true → (u : List ℕ) → length u ≡ state_words → save_of (restore_of t).warp u ≡ saving 0 t
restored_saved t l o u k =
    ap (λ (a : Answered). save_of a.warp u) (sym (restore_done t l o)) ∙ sym (save_done (warp_in t) u k (warp_deep t o)) ∙ ap (saving 0) (warp_words_lem t l o)
