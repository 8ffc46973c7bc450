-- The tests of the words are those of the definition.
use Prim.Native.Nat.{ℕ, zero, suc, ◌<◌}
use mathlib.Core.Path.{◌≡◌, refl, sym, ap, ◌∙◌}
use mathlib.Core.Bool.{Bool, true, ◌&&◌}
use mathlib.Core.List.{List, [], ◌∷◌}
use native.Mathlib.Omega.{arith}
use lib.ListN.{length, get_or}
use Rattle.std.specs.List.{list_all}
use Rattle.answer.proofs.Rows.{both}
use Rattle.memory.specs.Memories.{Contents}
use Rattle.warp.specs.declared.Fixed.{Fixed}
use Rattle.warp.specs.WellFormed.{well_formed_of}
use Rattle.layout.specs.declared.WarpWords.{WarpWords}
use Rattle.layout.specs.Words.{fixed_in, warp_of}
use Rattle.layout.specs.Parts.{no_words, warp_from, sound_from}
use Rattle.group.specs.Group.{Group, fixeds_of}
use Rattle.group.specs.GroupRefuse.{placed_of, goes_on_of, formed_of}
use Rattle.group.proofs.GroupLaws.{by_test, refute}
use Rattle.group.proofs.GroupFacts.{GroupFormed, group_formed, formed_group}
use Rattle.group_words.specs.Row.{words_at, group_in, fixeds_in, warp_ok, all_sound}
use Rattle.group_words.proofs.Words.{warps_long, warp_is}

-- ---- a test of each of a list

module _ {A : Type 0} (p : A → Bool) (d : A) where
  pub each_at : (l : List A) → list_all p l ≡ true → (i : ℕ) → i < length l → p (get_or l i d) ≡ true
  each_at [] e i h = absurd (omega arith)
  each_at (a ∷ l) e zero h = (both (p a) (list_all p l) e).0
  each_at (a ∷ l) e (suc i) h = each_at l (both (p a) (list_all p l) e).1 i (omega arith)

  pub at_each : (l : List A) → ((i : ℕ) → i < length l → p (get_or l i d) ≡ true) → list_all p l ≡ true
  at_each [] h = refl
  at_each (a ∷ l) h = rw (h 0 (omega arith), at_each l (λ i b. h (suc i) (omega arith)))

pub sound_at : (ws : List WarpWords) → all_sound ws ≡ true → (i : ℕ) → i < length ws → sound_from (words_at ws i) ≡ true
unfolding all_sound
sound_at ws e = each_at sound_from no_words ws e

pub at_sound : (ws : List WarpWords) → ((i : ℕ) → i < length ws → sound_from (words_at ws i) ≡ true) → all_sound ws ≡ true
unfolding all_sound
at_sound ws h = at_each sound_from no_words ws h

pub fixeds_are : (ws : List WarpWords) (t : ℕ) (v : List ℕ) (c : Contents) → fixeds_of (group_in t ws v c) ≡ fixeds_in ws
unfolding warp_of
fixeds_are [] t v c = refl
fixeds_are (w ∷ ws) t v c = ap (λ (l : List Fixed). fixed_in w.fixed ∷ l) (fixeds_are ws t v c)

-- ---- the three tests of the words are those of the definition
module _ (ws : List WarpWords) (t : ℕ) (v : List ℕ) (c : Contents) where
  abbrev M : Group
  M = group_in t ws v c

  pub tests_are : (p q r : Bool) → p ≡ list_all warp_ok ws → q ≡ placed_of (fixeds_in ws) → r ≡ goes_on_of M → (p && (q && r)) ≡ (all_sound ws && formed_of M)
  tests_are p q r ep eq er =
      by_test (all_sound ws && formed_of M)
      (λ e. let z = both (all_sound ws) (formed_of M) e in let f = group_formed M z.1 in rw (e, ep, eq, er, all f z.0, ← fixeds_are ws t v c, f.placed, f.goes))
      (λ e. by_test (p && (q && r)) (λ y. refute (whole y) e) (λ y. y ∙ sym e))
    where
      all : GroupFormed M → all_sound ws ≡ true → list_all warp_ok ws ≡ true
      all f s =
          at_each warp_ok no_words ws
          (λ i h. let w : well_formed_of (warp_from (words_at ws i)) ≡ true = rw (warp_is ws i h) at (f.each i (rw (warps_long ws) h)) in rw (sound_at ws s i h, w))

      whole : (p && (q && r)) ≡ true → (all_sound ws && formed_of M) ≡ true
      whole y =
          let x = both p (q && r) y in
          let z = both q r x.1 in
          let o : (i : ℕ) → i < length ws → warp_ok (words_at ws i) ≡ true = each_at warp_ok no_words ws (sym ep ∙ x.0) in
          let s : all_sound ws ≡ true = at_sound ws (λ i h. (both (sound_from (words_at ws i)) (well_formed_of (warp_from (words_at ws i))) (o i h)).0) in
          let f : formed_of M ≡ true = formed_group M
          (record {
            each = λ i h.
                let b : i < length ws = rw (warps_long ws) at h in
                rw (warp_is ws i b) (both (sound_from (words_at ws i)) (well_formed_of (warp_from (words_at ws i))) (o i b)).1;
            placed = rw (fixeds_are ws t v c) (sym eq ∙ z.0);
            goes = sym er ∙ z.1;
          }) in
          rw (s, f)
