-- The words of a group, read back, stand for it.
use Prim.Native.Nat.{ℕ, zero, suc, ◌*◌, ◌≤◌, ◌<◌}
use mathlib.Core.Path.{◌≡◌, refl, sym, ap, ◌∙◌}
use mathlib.Core.Bool.{true}
use mathlib.Core.List.{List, [], ◌∷◌}
use native.Mathlib.Omega.{arith}
use lib.ListN.{length, take, drop, length-append, length-drop}
use lib.Seq.{take_all, take-append-le, drop-append-le, drop-append-add, drop_at}
use borrow.Author.Tests.{eq-eqb, le-leb}
use Rattle.lanes.proofs.Laws.{below_all}
use Rattle.memory.specs.Memories.{Contents}
use Rattle.isa.specs.Bounds.{scalar_registers}
use Rattle.warp.specs.declared.Warp.{Warp}
use Rattle.warp.specs.Warp.{split_count, zero_warp}
use Rattle.layout.specs.Words.{state_words, words_of, warp_in, sound_in}
use Rattle.layout.proofs.Words.{words_warp, words_sound, words_long}
use Rattle.group.specs.Group.{Group, group, count_of, warp_at}
use Rattle.group.specs.GroupRefuse.{warps_limit}
use Rattle.group.proofs.GroupLaws.{by_equal}
use Rattle.group_words.specs.StateWords.{joined, state_words_of, group_words}
use Rattle.group_words.proofs.Tabulate.{tab_is}
use Rattle.group_state.specs.GroupState.{count_in, is_group, words_in, group_in, all_sound_in}

-- ---- runs of one length, one after another

module _ (f : ℕ → List ℕ) where
  joined_long : (n : ℕ) → ((i : ℕ) → i < n → length (f i) ≡ state_words) → length (joined n f) ≡ n * state_words
  unfolding joined
  joined_long zero h = refl
  joined_long (suc n) h = length-append (joined n f) (f n) ∙ omega (arith, joined_long n (λ i l. h i (omega arith)), h n (omega arith))

  -- the last of them, and one before it
  part_last : (n : ℕ) → length (joined n f) ≡ n * state_words → length (f n) ≡ state_words → take state_words (drop (n * state_words) (joined (suc n) f)) ≡ f n
  unfolding joined
  part_last n l h = ap (take state_words) (drop_at (joined n f) (f n) (n * state_words) l) ∙ take_all state_words (f n) (omega (arith, h))

  part_before : (n : ℕ) → length (joined n f) ≡ n * state_words → (i : ℕ) → i < n → take state_words (drop (i * state_words) (joined n f)) ≡ f i
      → take state_words (drop (i * state_words) (joined (suc n) f)) ≡ f i
  unfolding joined
  part_before n l i b e =
      ap (take state_words) (drop-append-le (i * state_words) (joined n f) (f n) (omega (arith, l, b)))
      ∙ take-append-le state_words (drop (i * state_words) (joined n f)) (f n) (let d = length-drop (i * state_words) (joined n f) in omega (arith, d, l, b))
      ∙ e

  joined_part : (n : ℕ) → ((i : ℕ) → i < n → length (f i) ≡ state_words) → (i : ℕ) → i < n → take state_words (drop (i * state_words) (joined n f)) ≡ f i
  joined_part zero h i l = absurd (omega arith)
  joined_part (suc n) h i l =
      let d : length (joined n f) ≡ n * state_words = joined_long n (λ j b. h j (omega arith)) in
      by_equal i n (λ e. rw e (part_last n d (h n (omega arith)))) (λ o. let b : i < n = omega arith in part_before n d i b (joined_part n (λ j c. h j (omega arith)) i b))

-- ---- a group whose warps have their arrays

pub record Whole (w : Warp) : Type 0 where
  pub registers : length w.x ≡ scalar_registers
  pub splits : length w.splits ≡ split_count
  pub deep : w.depth ≤ split_count

module _ (m : Group) (some : 1 ≤ count_of m) (few : count_of m ≤ warps_limit) (each : (i : ℕ) → i < count_of m → Whole (warp_at i m)) where
  abbrev S : List ℕ
  S = state_words_of m

  abbrev at : ℕ → List ℕ
  at i = words_of (warp_at i m)

  warp_long : (i : ℕ) → i < count_of m → length (at i) ≡ state_words
  warp_long i h = words_long (warp_at i m) (each i h).registers (each i h).splits

  long : length S ≡ group_words (count_of m)
  long = omega (arith, joined_long at (count_of m) warp_long)

  count : count_in S ≡ count_of m
  count = omega (arith, long)

  pub is_group_lem : is_group S ≡ true
  is_group_lem = rw (count, eq-eqb _ _ long, le-leb _ _ some, le-leb _ _ few)

  part : (i : ℕ) → i < count_of m → words_in i S ≡ at i
  part i h = ap (take state_words) (drop-append-add (m.turn ∷ []) (joined (count_of m) at) (i * state_words)) ∙ joined_part at (count_of m) warp_long i h

  pub stands : (v : List ℕ) (c : Contents) → group_in S v c ≡ group m.turn m.warps v c
  stands v c =
      ap (λ (ws : List Warp). group m.turn ws v c)
      (sym (tab_is (count_in S) (λ i. warp_in (words_in i S)) zero_warp m.warps (sym count)
      (λ i h. let l : i < count_of m = omega (arith, count) in sym (ap warp_in (part i l) ∙ words_warp (warp_at i m) (each i l).registers (each i l).splits))))

  pub all_sound_lem : all_sound_in S ≡ true
  all_sound_lem =
      below_all (count_in S) (λ i. sound_in (words_in i S))
      (λ i h. let l : i < count_of m = omega (arith, count) in ap sound_in (part i l) ∙ words_sound (warp_at i m) (each i l).registers (each i l).splits (each i l).deep)
