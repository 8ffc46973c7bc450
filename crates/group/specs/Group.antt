-- A whole workgroup: warps in one row over one kernel, each with its own vector file, all over one data memory and one local memory.
use Rattle.std.specs.Prelude.{ℕ, zero, suc, ◌+◌, ◌*◌, ◌%◌, Bool, true, false, not, cond, ◌&&◌, ◌||◌, List, [], ◌∷◌, ◌++◌, map, length, get_or, set, take, drop}
use Rattle.lanes.specs.Lanes.{file_words}
use Rattle.memory.specs.Memories.{Contents}
use Rattle.warp.specs.declared.Fixed.{Fixed}
use Rattle.warp.specs.declared.Warp.{Warp}
use Rattle.warp.specs.Warp.{zero_warp, with_stop}
use Rattle.definition.specs.State.{State, state}

-- the warps, the number of the one whose turn it is, their vector files one after another, and the bytes of the memories
pub record Group : Type 0 where
  pub turn : ℕ
  pub warps : List Warp
  pub vector : List ℕ
  pub bytes : Contents

abbrev pub group : ℕ → List Warp → List ℕ → Contents → Group
group t ws v c = record { turn = t; warps = ws; vector = v; bytes = c }

abbrev pub count_of : Group → ℕ
count_of m = length m.warps

abbrev pub warp_at : ℕ → Group → Warp
warp_at i m = get_or m.warps i zero_warp

abbrev pub fixeds_of : Group → List Fixed
fixeds_of m = map (λ w. w.fixed) m.warps

-- ---- warp i as a single warp

-- where its vector file begins, in the run of all files
abbrev pub file_start : ℕ → ℕ
file_start i = i * file_words

abbrev pub file_at : ℕ → List ℕ → List ℕ
file_at i v = take file_words (drop (file_start i) v)

-- its file becomes f, and no other word changes
abbrev pub with_file_at : ℕ → List ℕ → List ℕ → List ℕ
with_file_at i f v = take (file_start i) v ++ (f ++ drop file_words (drop (file_start i) v))

-- its state: its own vector file, and both memories as they stand
abbrev pub state_at : ℕ → Group → State
state_at i m = state (warp_at i m) (file_at i m.vector) m.bytes

-- its state becomes s
abbrev pub with_state_at : ℕ → State → Group → Group
with_state_at i s m = group m.turn (set m.warps i s.warp) (with_file_at i s.vector m.vector) s.bytes

-- ---- whose turn it is

-- neither waits nor has ended
abbrev pub runs : Warp → Bool
runs w = not (w.ended || w.waiting)

unfoldable pub some_runs : List Warp → Bool
some_runs [] = false
some_runs (w ∷ ws) = runs w || some_runs ws

unfoldable pub all_ended : List Warp → Bool
all_ended [] = true
all_ended (w ∷ ws) = w.ended && all_ended ws

-- the number after i, of n
abbrev pub next_of : ℕ → ℕ → ℕ
next_of n i = (i + 1) % n

-- the first warp that runs, of t tries from warp i on, cyclically
unfoldable pub first_from : ℕ → ℕ → List Warp → ℕ
first_from zero i ws = i
first_from (suc t) i ws = cond (runs (get_or ws i zero_warp)) i (first_from t (next_of (length ws) i) ws)

abbrev pub pick_of : Group → ℕ
pick_of m = first_from (count_of m) m.turn m.warps

-- ---- what a taken step of warp i leaves

-- a warp that waits is released
abbrev pub freed : Warp → Warp
freed w = cond w.waiting (with_stop false false w) w

-- where no warp runs, all that wait are released
unfoldable pub settled : List Warp → List Warp
settled ws = cond (some_runs ws) ws (map freed ws)

-- its state is s, the turn is the next number, and where every warp that hasn't ended waits, they run again
unfoldable pub gone_on : ℕ → State → Group → Group
gone_on i s m =
    let n : Group = with_state_at i s m in
    group (next_of (count_of m) i) (settled n.warps) n.vector n.bytes
