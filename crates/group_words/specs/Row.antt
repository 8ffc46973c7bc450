-- The words of a group's warps, one after another.
use Rattle.std.specs.Prelude.{ℕ, zero, suc, ◌≤◌, ◌<◌, ◌≡◌, Bool, true, false, not, ◌&&◌, ◌||◌, List, [], ◌∷◌, ◌++◌, map, length, get_or, Option, MatchOption}
use Rattle.std.specs.List.{list_all}
use Rattle.memory.specs.Memories.{Contents}
use Rattle.warp.specs.declared.Fixed.{Fixed}
use Rattle.warp.specs.declared.Warp.{Warp}
use Rattle.warp.specs.Warp.{zero_warp}
use Rattle.warp.specs.WellFormed.{well_formed_of}
use Rattle.layout.specs.declared.WarpWords.{WarpWords}
use Rattle.layout.specs.Words.{moving_count, flat_count, is_set, ended_in, waiting_in, fixed_in}
use Rattle.layout.specs.Parts.{no_words, warp_from, sound_from}
use Rattle.group.specs.Group.{Group, group, fixeds_of, runs, some_runs, first_from}
use Rattle.group.specs.GroupRefuse.{warps_limit, sizes_ok_of, formed_of}

abbrev pub words_at : List WarpWords → ℕ → WarpWords
words_at ws i = get_or ws i no_words

-- the warps that they stand for, and the group
abbrev pub warps_in : List WarpWords → List Warp
warps_in ws = map warp_from ws

abbrev pub group_in : ℕ → List WarpWords → List ℕ → Contents → Group
group_in t ws v c = group t (warps_in ws) v c

-- what the launch fixed
abbrev pub fixeds_in : List WarpWords → List Fixed
fixeds_in ws = map (λ w. fixed_in w.fixed) ws

-- words are a warp's, and it is well formed
abbrev pub warp_ok : WarpWords → Bool
warp_ok w = sound_from w && well_formed_of (warp_from w)

-- the words of every one are a warp's
unfoldable pub all_sound : List WarpWords → Bool
all_sound ws = list_all sound_from ws

-- by its moving words, a warp neither waits nor has ended
abbrev pub runs_in : List ℕ → Bool
runs_in h = not (is_set (ended_in h) || is_set (waiting_in h))

-- f at each number below n
unfoldable pub tabulate : {A : Type 0} → ℕ → (ℕ → A) → List A
tabulate zero f = []
tabulate (suc n) f = tabulate n f ++ (f n ∷ [])

-- r is the first of the warps ws that runs from t on, cyclically
pub record Picks (t : ℕ) (ws : List Warp) (r : ℕ) : Type 0 where
  pub first : r ≡ first_from (length ws) t ws
  pub running : runs (get_or ws r zero_warp) ≡ true

-- the number of that one of the warps that words stand for; none where no warp runs
abbrev pub Picked : ℕ → List WarpWords → Option ℕ → Type 0
Picked t ws o = MatchOption o (some_runs (warps_in ws) ≡ false) (λ r. (r < length ws) × Picks t (warps_in ws) r)

-- a group of 1 to 32 warps, whose moving words and split records have their lengths
pub record Rooms (ws : List WarpWords) : Type 0 where
  pub some : 1 ≤ length ws
  pub few : length ws ≤ warps_limit
  pub long : (i : ℕ) → i < length ws → length (words_at ws i).moving ≡ moving_count
  pub room : (i : ℕ) → i < length ws → length (words_at ws i).splits ≡ flat_count

-- and they are warps' words
pub record Warps (ws : List WarpWords) : Type 0 where
  pub rooms : Rooms ws
  pub sound : (i : ℕ) → i < length ws → sound_from (words_at ws i) ≡ true

-- what a launch fixed stays, warp by warp
abbrev pub FixedKept : List WarpWords → List WarpWords → Type 0
FixedKept ws ws' = (i : ℕ) → (words_at ws' i).fixed ≡ (words_at ws i).fixed

-- no words but the moving ones differ
pub record MovingOnly (w w' : WarpWords) : Type 0 where
  pub fixed : w'.fixed ≡ w.fixed
  pub scalars : w'.scalars ≡ w.scalars
  pub splits : w'.splits ≡ w.splits

-- the moving words go from those of ws to those of ws', and with them the warps by f; words of warps stay so
pub record Moves (f : List Warp → List Warp) (ws ws' : List WarpWords) : Type 0 where
  pub count : length ws' ≡ length ws
  pub only : (i : ℕ) → MovingOnly (words_at ws i) (words_at ws' i)
  pub long : (i : ℕ) → i < length ws → length (words_at ws' i).moving ≡ moving_count
  pub goes : warps_in ws' ≡ f (warps_in ws)
  pub sound : ((i : ℕ) → i < length ws → sound_from (words_at ws i) ≡ true) → (i : ℕ) → i < length ws → sound_from (words_at ws' i) ≡ true

-- the words of a group that a run goes on with: none of 1 and 2 holds
pub record Ready (k : List ℕ) (t : ℕ) (ws : List WarpWords) (v : List ℕ) (c : Contents) : Type 0 where
  pub warps : Warps ws
  pub sizes : sizes_ok_of k (fixeds_of (group_in t ws v c)) v c ≡ true
  pub formed : formed_of (group_in t ws v c) ≡ true
