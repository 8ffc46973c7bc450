-- A group's warps taken apart and put together.
use Prim.Native.Nat.{ℕ, zero, suc, ◌+◌, ◌≤◌, ◌<◌}
use mathlib.Core.Path.{◌≡◌, refl, sym, ap, ◌∙◌, subst}
use mathlib.Core.Bool.{true}
use mathlib.Core.List.{List, [], ◌∷◌, ◌++◌, map}
use native.Mathlib.Nat.{le_of_suc-le-suc, not-suc-le-zero}
use native.Mathlib.Omega.{arith}
use lib.ListN.{length, get_or, set, take, drop, length-append, length-drop, length-map}
use lib.Seq.{get_or-set_same, get_or-set_other, take_at, drop_at, length-take-le, ext_get_or}
use borrow.Author.Tests.{leb-true}
use Rattle.std.specs.List.{list_all}
use Rattle.memory.specs.Memories.{Contents}
use Rattle.warp.specs.declared.Warp.{Warp}
use Rattle.warp.specs.Warp.{zero_warp, zero_fixed}
use Rattle.layout.specs.declared.WarpWords.{WarpWords}
use Rattle.layout.specs.Words.{fixed_in, fixed_words}
use Rattle.layout.specs.Parts.{no_words, warp_from, sound_from}
use Rattle.layout.proofs.Words.{apart, apart_sound, flat_long}
use Rattle.group.specs.Group.{group, fixeds_of}
use Rattle.group.specs.GroupRefuse.{warps_limit}
use Rattle.group.proofs.GroupLaws.{by_equal, get_d_map_in}
use Rattle.group_words.specs.Row.{words_at, warps_in, fixeds_in, all_sound, Rooms}
use Rattle.group_words.proofs.Words.{warps_long, warp_is}
use Rattle.group_words.proofs.Sound.{each_at, at_sound}
use Rattle.group_machine.specs.Held.{no_warp, is_shallow, Fixeds, ApartAt, Apart}

-- ---- one warp more

pub fixeds_none : (us : List Warp) (ws : List WarpWords) → Fixeds 0 us ws
fixeds_none us ws i h = absurd (omega arith)

pub fixeds_more : (i : ℕ) (us : List Warp) (ws : List WarpWords) → Fixeds i us ws → i < length ws → (w : WarpWords) → w.fixed ≡ fixed_words (get_or us i no_warp).fixed → Fixeds (i + 1) us (set ws i w)
fixeds_more i us ws q b w e j h =
    by_equal j i
    (λ z. subst (λ (k : ℕ). (words_at (set ws i w) k).fixed ≡ fixed_words (get_or us k no_warp).fixed) (sym z) (rw (get_or-set_same ws i w no_words b) e))
    (λ z. rw (get_or-set_other ws i j w no_words z) (q j (omega arith)))

pub apart_none : (us : List Warp) (ws : List WarpWords) → Apart 0 us ws
apart_none us ws i h = absurd (omega arith)

pub apart_more : (i : ℕ) (us : List Warp) (ws : List WarpWords) → Apart i us ws → i < length ws → (w : WarpWords) → ApartAt (get_or us i no_warp) w → Apart (i + 1) us (set ws i w)
apart_more i us ws q b w e j h =
    by_equal j i (λ z. subst (λ (k : ℕ). ApartAt (get_or us k no_warp) (words_at (set ws i w) k)) (sym z) (rw (get_or-set_same ws i w no_words b) e))
    (λ z. rw (get_or-set_other ws i j w no_words z) (q j (omega arith)))

-- the first n of the warps us are those that the words ws stand for
abbrev pub Together : ℕ → List WarpWords → List Warp → Type 0
Together n ws us = (i : ℕ) → i < n → get_or us i no_warp ≡ warp_from (words_at ws i)

pub together_none : (ws : List WarpWords) (us : List Warp) → Together 0 ws us
together_none ws us i h = absurd (omega arith)

pub together_more : (i : ℕ) (ws : List WarpWords) (us : List Warp) → Together i ws us → i < length us → (u : Warp) → u ≡ warp_from (words_at ws i) → Together (i + 1) ws (set us i u)
together_more i ws us q b u e j h =
    by_equal j i (λ z. subst (λ (k : ℕ). get_or (set us i u) k no_warp ≡ warp_from (words_at ws k)) (sym z) (get_or-set_same us i u no_warp b ∙ e))
    (λ z. get_or-set_other us i j u no_warp z ∙ q j (omega arith))

pub together_all : (ws : List WarpWords) (us : List Warp) → length us ≡ length ws → Together (length ws) ws us → us ≡ warps_in ws
together_all ws us e q =
    ext_get_or no_warp us (warps_in ws) (e ∙ sym (warps_long ws))
    (λ i h. let b : i < length ws = rw e at h in q i b ∙ sym (get_d_map_in warp_from ws i no_words no_warp b))

-- ---- all of them

-- inside a list, it doesn't matter what stands for an element past its end
pub get_d_any : {A : Type 0} (l : List A) (i : ℕ) (d e : A) → i < length l → get_or l i d ≡ get_or l i e
get_d_any [] i d e h = absurd (not-suc-le-zero h)
get_d_any (x ∷ xs) zero d e h = refl
get_d_any (x ∷ xs) (suc i) d e h = get_d_any xs i d e (le_of_suc-le-suc h)

-- n words for the first n of the warps that a group has room for
pub as_many : (m n : ℕ) (us : List Warp) → length us ≡ warps_limit → n ≤ warps_limit → m ≡ n → m ≡ length (take n us)
as_many m n us full few e = e ∙ sym (length-take-le n us (omega (arith, full)))

module _ (us : List Warp) (ws : List WarpWords) (e : length ws ≡ length us) where
  pub fixeds_are : Fixeds (length us) us ws → (t : ℕ) (v : List ℕ) (c : Contents) → fixeds_of (group t us v c) ≡ fixeds_in ws
  fixeds_are f t v c =
      ext_get_or zero_fixed (map (λ (u : Warp). u.fixed) us) (fixeds_in ws) (length-map us (λ (u : Warp). u.fixed) ∙ sym e ∙ sym (length-map ws (λ (w : WarpWords). fixed_in w.fixed)))
      (λ i h.
      let b : i < length us = rw (length-map us (λ (u : Warp). u.fixed)) at h in
      get_d_map_in (λ (u : Warp). u.fixed) us i no_warp zero_fixed b
      ∙ sym (ap fixed_in (f i b))
      ∙ sym (get_d_map_in (λ (w : WarpWords). fixed_in w.fixed) ws i no_words zero_fixed (rw e b)))

  module _ (q : Apart (length us) us ws) where
    pub warps_are : warps_in ws ≡ us
    warps_are =
        ext_get_or zero_warp (warps_in ws) us (warps_long ws ∙ e)
        (λ i h.
        let o : i < length ws = rw (warps_long ws) at h in
        let b : i < length us = rw e at o in
        let a = q i b in
        warp_is ws i o ∙ ap warp_from a.words ∙ apart (get_or us i no_warp) a.long ∙ get_d_any us i no_warp zero_warp b)

    pub all_sound_lem : list_all is_shallow us ≡ true → all_sound ws ≡ true
    all_sound_lem s =
        at_sound ws
        (λ i h.
        let b : i < length us = rw e at h in
        let a = q i b in
        ap sound_from a.words ∙ apart_sound (get_or us i no_warp) a.long (leb-true _ _ (each_at is_shallow no_warp us s i b)))

    pub rooms_are : 1 ≤ length ws → length ws ≤ warps_limit → Rooms ws
    rooms_are o few =
        record {
          some = o;
          few = few;
          long = λ i h. let b : i < length us = rw e at h in ap (λ (w : WarpWords). length w.moving) (q i b).words;
          room = λ i h. let b : i < length us = rw e at h in let a = q i b in ap (λ (w : WarpWords). length w.splits) a.words ∙ flat_long (get_or us i no_warp) a.long;
        }

-- the first n elements of a list replaced
module _ (n : ℕ) (s y : List Warp) (e : length y ≡ n) (h : n ≤ length s) where
  pub front_taken : take n (y ++ drop n s) ≡ y
  front_taken = take_at y (drop n s) n e

  pub front_dropped : drop n (y ++ drop n s) ≡ drop n s
  front_dropped = drop_at y (drop n s) n e

  pub front_long : length (y ++ drop n s) ≡ length s
  front_long = simp (length-append, length-drop, e) (omega arith)
