-- The tests of a group, over its warps' words.
use Prim.Native.Nat.{ℕ, ◌*◌, ◌≤◌, ◌<◌}
use mathlib.Core.Path.{◌≡◌, refl, sym, ap, subst}
use mathlib.Core.Bool.{Bool, true, false, ◌&&◌}
use mathlib.Core.List.{List, [], ◌∷◌}
use native.Mathlib.Omega.{arith}
use lib.ListN.{length, length-map}
use borrow.Author.Tests.{lt-ltb, le-ltb}
use Rattle.std.specs.List.{list_all}
use Rattle.memory.specs.Memories.{Contents}
use Rattle.warp.specs.declared.Fixed.{Fixed}
use Rattle.warp.specs.Warp.{zero_fixed}
use Rattle.layout.specs.declared.WarpWords.{WarpWords}
use Rattle.layout.specs.Words.{is_set, ended_in, fixed_in, warp_of}
use Rattle.layout.specs.Parts.{no_words}
use Rattle.definition.specs.Refuse.{runs_ok_of}
use Rattle.group.specs.Group.{file_at, some_runs, all_ended}
use Rattle.lanes.specs.Lanes.{all_below}
use Rattle.lanes.proofs.Laws.{below_same}
use Rattle.group.specs.GroupRefuse.{warps_limit, fixed_at, sizes_ok_of, in_place_of, placed_of, goes_on_of}
use Rattle.group.proofs.GroupLaws.{by_test, refute, get_d_map_in}
use Rattle.group.proofs.GroupFacts.{group_sizes, sizes_group}
use Rattle.group_words.specs.Row.{words_at, warps_in, group_in, fixeds_in}
use Rattle.group_words.proofs.Words.{warps_long}

-- ---- what the launch fixed

module _ (ws : List WarpWords) where
  abbrev n : ℕ
  n = length ws

  abbrev fixed_on : ℕ → Fixed
  fixed_on i = fixed_in (words_at ws i).fixed

  count : length (fixeds_in ws) ≡ n
  count = length-map ws (λ w. fixed_in w.fixed)

  fixed_is : (i : ℕ) → i < n → fixed_at (fixeds_in ws) i ≡ fixed_on i
  fixed_is i h = get_d_map_in (λ w. fixed_in w.fixed) ws i no_words zero_fixed h

  -- ---- 1: sizes
  module _ (k v : List ℕ) (c : Contents) where
    abbrev pub own_ok : ℕ → Bool
    own_ok i = runs_ok_of (fixed_on i) k (file_at i v) c

    pub sizes_long : (length v ≡ n * 8192 → ⊥) → false ≡ sizes_ok_of k (fixeds_in ws) v c
    sizes_long z = by_test (sizes_ok_of k (fixeds_in ws) v c) (λ e. absurd (z (rw count at (group_sizes k (fixeds_in ws) v c e).files))) sym

    pub sizes_own : (i : ℕ) → i < n → own_ok i ≡ false → false ≡ sizes_ok_of k (fixeds_in ws) v c
    sizes_own i h z =
        by_test (sizes_ok_of k (fixeds_in ws) v c)
        (λ e. refute (rw (fixed_is i h) at ((group_sizes k (fixeds_in ws) v c e).own i (rw count h))) z) sym

    pub sizes_all : 1 ≤ n → n ≤ warps_limit → length v ≡ n * 8192 → ((i : ℕ) → i < n → own_ok i ≡ true) → true ≡ sizes_ok_of k (fixeds_in ws) v c
    sizes_all a b l o =
        sym
        (sizes_group k (fixeds_in ws) v c
        (record { some = rw count a; most = rw count b; files = rw count l; own = λ i h. let q : i < n = rw count at h in rw (fixed_is i q) (o i q) }))

  -- ---- 2: each in its place
  abbrev pub place_ok : ℕ → Bool
  place_ok i = in_place_of n (fixed_on 0) i (fixed_on i)

  pub placed_is : placed_of (fixeds_in ws) ≡ all_below n place_ok
  unfolding placed_of
  placed_is =
      subst (λ (m : ℕ). all_below m (λ i. in_place_of m (fixed_at (fixeds_in ws) 0) i (fixed_at (fixeds_in ws) i)) ≡ all_below n place_ok) (sym count)
      (below_same n (λ i. in_place_of n (fixed_at (fixeds_in ws) 0) i (fixed_at (fixeds_in ws) i)) place_ok (λ i h. rw (fixed_is 0 (omega arith), fixed_is i h)))

-- ---- 3: ended

pub ended_is : (ws : List WarpWords) → list_all (λ w. is_set (ended_in w.moving)) ws ≡ all_ended (warps_in ws)
unfolding all_ended warp_of
ended_is [] = refl
ended_is (w ∷ ws) = ap (λ (b : Bool). is_set (ended_in w.moving) && b) (ended_is ws)

-- ---- whose turn it is

module _ (ws : List WarpWords) (t : ℕ) (v : List ℕ) (c : Contents) where
  pub ended_goes : all_ended (warps_in ws) ≡ true → true ≡ goes_on_of (group_in t ws v c)
  ended_goes z = rw z

  module _ (z : all_ended (warps_in ws) ≡ false) where
    pub no_turn : length ws ≤ t → false ≡ goes_on_of (group_in t ws v c)
    no_turn h = rw (z, warps_long ws, le-ltb t (length ws) h)

    pub turn_goes : t < length ws → (b : Bool) → b ≡ some_runs (warps_in ws) → b ≡ goes_on_of (group_in t ws v c)
    turn_goes h b e = rw (z, warps_long ws, lt-ltb t (length ws) h) e
