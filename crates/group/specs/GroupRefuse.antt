-- When a group's calls are refused, in the order tested.
use Rattle.std.specs.Prelude.{ℕ, Bool, not, ◌&&◌, ◌||◌, List, [], ◌∷◌, map, ◌++◌, eqb, ltb, length, get_or}
use Rattle.answer.specs.Rows.{Row, ◌⇒◌, every, between}
use Rattle.lanes.specs.Lanes.{all_below}
use Rattle.memory.specs.Memories.{Contents}
use Rattle.warp.specs.declared.Fixed.{Fixed}
use Rattle.warp.specs.declared.Launch.{Launch}
use Rattle.warp.specs.Warp.{max_warps, zero_fixed, zero_launch}
use Rattle.warp.specs.WellFormed.{launch_ok_of, well_formed_of}
use Rattle.definition.specs.Refuse.{runs_ok_of}
use Rattle.group.specs.Group.{Group, count_of, warp_at, fixeds_of, file_start, file_at, some_runs, all_ended}

-- the most warps of a group
abbrev pub warps_limit : ℕ
warps_limit = max_warps

abbrev pub fixed_at : List Fixed → ℕ → Fixed
fixed_at fs i = get_or fs i zero_fixed

-- 1 to 32 warps, a vector file for each, and what each warp's own bases ask of the lent runs
unfoldable pub sizes_ok_of : List ℕ → List Fixed → List ℕ → Contents → Bool
sizes_ok_of k fs v c =
    every
    (between 1 (length fs) warps_limit
    ∷ eqb (length v) (file_start (length fs))
    ∷ all_below (length fs) (λ i. runs_ok_of (fixed_at fs i) k (file_at i v) c)
    ∷ [])

-- warp i of n has WID i and NUMW n, and NUMT, code base, data base and LDS as warp 0 has them
abbrev pub in_place_of : ℕ → Fixed → ℕ → Fixed → Bool
in_place_of n zeroth i f =
    every
    (eqb f.wid i
    ∷ eqb f.numw n
    ∷ eqb f.numt zeroth.numt
    ∷ eqb f.codeBase zeroth.codeBase
    ∷ eqb f.dataBase zeroth.dataBase
    ∷ eqb f.lds zeroth.lds
    ∷ [])

unfoldable pub placed_of : List Fixed → Bool
placed_of fs = all_below (length fs) (λ i. in_place_of (length fs) (fixed_at fs 0) i (fixed_at fs i))

-- all have ended, whatever the turn; or the turn names a warp and some warp runs
abbrev pub goes_on_of : Group → Bool
goes_on_of m = all_ended m.warps || (ltb m.turn (count_of m) && some_runs m.warps)

-- well formed
unfoldable pub formed_of : Group → Bool
formed_of m = every (all_below (count_of m) (λ i. well_formed_of (warp_at i m)) ∷ placed_of (fixeds_of m) ∷ goes_on_of m ∷ [])

-- what a step and a run test first
abbrev pub group_tests : List ℕ → Group → List (Row Bool)
group_tests k m = 1 ⇒ not (sizes_ok_of k (fixeds_of m) m.vector m.bytes) ∷ 2 ⇒ not (formed_of m) ∷ []

-- a step, before its warp's own tests
abbrev pub group_step_tests : List ℕ → Group → List (Row Bool)
group_step_tests k m = group_tests k m ++ (3 ⇒ all_ended m.warps ∷ [])

-- a launch of the launches ls
abbrev pub group_launch_tests : List ℕ → List Launch → List ℕ → Contents → List (Row Bool)
group_launch_tests k ls v c =
    let fs : List Fixed = map (λ l. l.fixed) ls in
    1 ⇒ not (sizes_ok_of k fs v c) ∷ 1 ⇒ not (all_below (length ls) (λ i. launch_ok_of (get_or ls i zero_launch))) ∷ 1 ⇒ not (placed_of fs) ∷ []
