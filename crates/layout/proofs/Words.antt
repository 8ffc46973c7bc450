-- A warp's words and the warp that words stand for.
use Prim.Native.Nat.{ℕ, ◌+◌, ◌≤◌}
use mathlib.Core.Path.{◌≡◌, refl, sym, ◌∙◌, ap}
use mathlib.Core.Bool.{true}
use mathlib.Core.List.{List, [], ◌∷◌, ◌++◌, append_assoc}
use native.Mathlib.Omega.{arith}
use lib.Dec.{leb}
use lib.ListN.{drop, length, length-append, length-drop}
use lib.Seq.{take_at, drop_at, take_all, take-add, length-take-le}
use lib.Count.{ones}
use borrow.Author.Tests.{le-leb, leb-true}
use Rattle.answer.proofs.Rows.{every_at}
use Rattle.warp.specs.declared.Warp.{Warp}
use Rattle.isa.specs.Bounds.{scalar_registers}
use Rattle.lanes.specs.Lanes.{lanes_max}
use Rattle.warp.specs.Warp.{split_count}
use Rattle.warp.specs.WellFormed.{well_formed_of}
use Rattle.warp.proofs.Formed.{formed, held_of}
use Rattle.warp.proofs.Moves.{room_left}
use Rattle.layout.specs.Words.{flat_count, moving_count, fixed_count, moving_start, fixed_start, state_words, is_flag, depth_in, mask_in, ended_in, waiting_in, fixed_in, warp_of, phases_ok_of, sound_of, splits_words, moving_words, fixed_words, words_of, scalar_part, split_part, moving_part, fixed_part, warp_in, sound_in}
use Rattle.layout.specs.Lent.{Lent}
use Rattle.layout.proofs.Lists.{cells, cells_are, moving_cells}
use Rattle.layout.proofs.Splits.{flag_bit, flag_is, flag_word, splits_length, words_length, splits_back, words_phases, flat_back}

-- ---- sound words

-- what sound words are, part by part
pub record SoundParts (h s : List ℕ) : Type 0 where
  pub deep : depth_in h ≤ split_count
  pub ended : is_flag (ended_in h) ≡ true
  pub waiting : is_flag (waiting_in h) ≡ true
  pub phases : phases_ok_of split_count s ≡ true

module _ (h s : List ℕ) where
  pub sound_parts : sound_of h s ≡ true → SoundParts h s
  unfolding sound_of
  sound_parts o =
      let p = every_at (leb (depth_in h) split_count ∷ is_flag (ended_in h) ∷ is_flag (waiting_in h) ∷ phases_ok_of split_count s ∷ []) o in
      record { deep = leb-true _ _ (p 0); ended = p 1; waiting = p 2; phases = p 3 }

  pub sound_whole : SoundParts h s → sound_of h s ≡ true
  unfolding sound_of
  sound_whole p = rw (le-leb _ _ p.deep, p.ended, p.waiting, p.phases)

-- ---- apart and together

module _ (w : Warp) (l : length w.splits ≡ split_count) where
  -- A warp's words stand for it.
  pub apart : warp_of (fixed_words w.fixed) (moving_words w) w.x (splits_words w.splits) ≡ w
  unfolding warp_of
  apart = rw (splits_back w.splits l, flag_bit w.ended, flag_bit w.waiting)

  pub flat_long : length (splits_words w.splits) ≡ flat_count
  flat_long = omega (arith, words_length w.splits)

  pub apart_sound : w.depth ≤ split_count → sound_of (moving_words w) (splits_words w.splits) ≡ true
  apart_sound d =
      sound_whole (moving_words w) (splits_words w.splits) (record { deep = d; ended = flag_is w.ended; waiting = flag_is w.waiting; phases = words_phases w.splits l })

-- Sound words are the words of the warp that they stand for.
module _ (g h x s : List ℕ) (lg : length g ≡ fixed_count) (lh : length h ≡ moving_count) (ls : length s ≡ flat_count) (o : sound_of h s ≡ true) where
  fixed_same : fixed_words (fixed_in g) ≡ g
  unfolding cells
  fixed_same = sym (cells_are fixed_count g lg)

  moving_same : moving_words (warp_of g h x s) ≡ h
  unfolding warp_of
  moving_same = rw (flag_word (ended_in h) (sound_parts h s o).ended, flag_word (waiting_in h) (sound_parts h s o).waiting) (sym (moving_cells h lh))

  pub together_words : words_of (warp_of g h x s) ≡ x ++ s ++ h ++ g
  unfolding warp_of words_of
  together_words = rw (flat_back s ls (sound_parts h s o).phases, moving_same, fixed_same)

-- ---- the parts of a state

-- four lists, one after another, are its parts
module _ (x s h g : List ℕ) (lx : length x ≡ scalar_registers) (ls : length s ≡ flat_count) (lh : length h ≡ moving_count) (lg : length g ≡ fixed_count) where
  pub parts_scalar : scalar_part (x ++ s ++ h ++ g) ≡ x
  parts_scalar = rw (append_assoc (x ++ s) h g, append_assoc x s (h ++ g)) (take_at x (s ++ (h ++ g)) scalar_registers lx)

  pub parts_split : split_part (x ++ s ++ h ++ g) ≡ s
  parts_split =
      rw (append_assoc (x ++ s) h g, append_assoc x s (h ++ g), drop_at x (s ++ (h ++ g)) scalar_registers lx) (take_at s (h ++ g) flat_count ls)

  pub parts_moving : moving_part (x ++ s ++ h ++ g) ≡ h
  parts_moving =
      rw (append_assoc (x ++ s) h g, drop_at (x ++ s) (h ++ g) moving_start (simp length-append (omega arith))) (take_at h g moving_count lh)

  pub parts_fixed : fixed_part (x ++ s ++ h ++ g) ≡ g
  parts_fixed = rw (drop_at (x ++ s ++ h) g fixed_start (simp length-append (omega arith))) (take_all fixed_count g (omega arith))

module _ (t : List ℕ) (l : length t ≡ state_words) where
  pub parts_whole : scalar_part t ++ split_part t ++ moving_part t ++ fixed_part t ≡ t
  parts_whole =
      ap (λ (a : List ℕ). a ++ moving_part t ++ fixed_part t) (sym (take-add scalar_registers flat_count t))
      ∙ ap (λ (a : List ℕ). a ++ fixed_part t) (sym (take-add moving_start moving_count t))
      ∙ sym (take-add fixed_start fixed_count t)
      ∙ take_all state_words t (omega arith)

  pub split_long : length (split_part t) ≡ flat_count
  split_long = length-take-le flat_count (drop scalar_registers t) (simp length-drop (omega arith))

  pub moving_long : length (moving_part t) ≡ moving_count
  moving_long = length-take-le moving_count (drop moving_start t) (simp length-drop (omega arith))

  pub fixed_long : length (fixed_part t) ≡ fixed_count
  fixed_long = length-take-le fixed_count (drop fixed_start t) (simp length-drop (omega arith))

  -- the words of the warp that sound words stand for are the words
  pub warp_words_lem : sound_in t ≡ true → words_of (warp_in t) ≡ t
  warp_words_lem o = together_words (fixed_part t) (moving_part t) (scalar_part t) (split_part t) fixed_long moving_long split_long o ∙ parts_whole

-- a warp's words stand for it
module _ (w : Warp) (lx : length w.x ≡ scalar_registers) (lq : length w.splits ≡ split_count) where
  pub words_warp : warp_in (words_of w) ≡ w
  unfolding words_of
  words_warp =
      let s : List ℕ = splits_words w.splits in
      let ls : length s ≡ flat_count = flat_long w lq in
      rw (parts_fixed w.x s (moving_words w) (fixed_words w.fixed) lx ls refl refl, parts_moving w.x s (moving_words w) (fixed_words w.fixed) lx ls refl refl, parts_scalar w.x s (moving_words w) (fixed_words w.fixed) lx ls refl refl, parts_split w.x s (moving_words w) (fixed_words w.fixed) lx ls refl refl)
      (apart w lq)

  pub words_sound : w.depth ≤ split_count → sound_in (words_of w) ≡ true
  unfolding words_of
  words_sound d =
      let s : List ℕ = splits_words w.splits in
      let ls : length s ≡ flat_count = flat_long w lq in
      rw (parts_moving w.x s (moving_words w) (fixed_words w.fixed) lx ls refl refl, parts_split w.x s (moving_words w) (fixed_words w.fixed) lx ls refl refl) (apart_sound w lq d)

  pub words_long : length (words_of w) ≡ state_words
  unfolding words_of
  words_long = simp length-append (omega (arith, flat_long w lq))

-- ---- what is lent

-- words that pass the test are lent
pub lent_words : (g h x s : List ℕ) → length h ≡ moving_count → length s ≡ flat_count → sound_of h s ≡ true → well_formed_of (warp_of g h x s) ≡ true → Lent g h x s
unfolding warp_of
lent_words g h x s lh ls o e = record { long = lh; room = ls; formed = formed (warp_of g h x s) (splits_length split_count s) e; sound = o }

-- what a function asks of the words of a well-formed warp
module _ (g h x s : List ℕ) (l : Lent g h x s) where
  pub lent_deep : depth_in h ≤ split_count
  unfolding warp_of
  lent_deep = l.formed.deep

  pub lent_room : depth_in h + ones (mask_in h) ≤ lanes_max
  unfolding warp_of
  lent_room = (room_left (warp_of g h x s) (held_of (warp_of g h x s) l.formed)).0
