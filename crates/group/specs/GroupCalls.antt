-- A group's step, its run of counted steps, and its launch.
use Rattle.std.specs.Prelude.{ℕ, zero, suc, ◌+◌, cond, List, map, eqb, length, replicate}
use Rattle.answer.specs.Rows.{first}
use Rattle.memory.specs.Memories.{Contents}
use Rattle.warp.specs.declared.Launch.{Launch}
use Rattle.warp.specs.Warp.{zero_warp}
use Rattle.definition.specs.State.{Outcome}
use Rattle.definition.specs.Step.{step_of}
use Rattle.definition.specs.Calls.{launched_of}
use Rattle.group.specs.Group.{Group, group, file_start, state_at, pick_of, gone_on}
use Rattle.group.specs.GroupRefuse.{group_tests, group_step_tests, group_launch_tests}

-- the answer's number, the WID of the warp that stopped the group (0 where none did), and what is left
pub record GroupOutcome : Type 0 where
  pub code : ℕ
  pub stopped : ℕ
  pub left : Group

abbrev pub group_outcome : ℕ → ℕ → Group → GroupOutcome
group_outcome c i m = record { code = c; stopped = i; left = m }

-- ---- step: the definition's step of warp i, in the group m; refused, it stops the group and changes nothing
abbrev pub warp_stepped : ℕ → Outcome → Group → GroupOutcome
warp_stepped i o m = cond (eqb o.code 0) (group_outcome 0 0 (gone_on i o.left m)) (group_outcome o.code i m)

unfoldable pub group_step_of : List ℕ → Group → GroupOutcome
group_step_of k m =
    let c : ℕ = first (group_step_tests k m) in
    let i : ℕ = pick_of m in
    cond (eqb c 0) (warp_stepped i (step_of k (state_at i m)) m) (group_outcome c 0 m)

-- ---- run: the steps taken, and what is left
pub record GroupRan : Type 0 where
  pub steps : ℕ
  pub ends : GroupOutcome

abbrev pub group_ran : ℕ → GroupOutcome → GroupRan
group_ran t o = record { steps = t; ends = o }

-- at most n steps, t having been taken
unfoldable pub group_steps_of : List ℕ → ℕ → ℕ → Group → GroupRan
group_steps_of k zero t m = group_ran t (group_outcome 0 0 m)
group_steps_of k (suc n) t m =
    let o : GroupOutcome = group_step_of k m in
    cond (eqb o.code 0) (group_steps_of k n (t + 1) o.left) (group_ran t o)

-- refusals 1 and 2 are tested even for 0 steps
unfoldable pub group_run_of : List ℕ → ℕ → Group → GroupRan
group_run_of k n m =
    let c : ℕ = first (group_tests k m) in
    cond (eqb c 0) (group_steps_of k n 0 m) (group_ran 0 (group_outcome c 0 m))

-- ---- launch: each warp launched, all vector files 0, the memories as lent, warp 0's turn; refused, all warps are zeros and no lent word changes
unfoldable pub group_launch_of : List ℕ → List Launch → List ℕ → Contents → GroupOutcome
group_launch_of k ls v c =
    let n : ℕ = first (group_launch_tests k ls v c) in
    group_outcome n 0
    (cond (eqb n 0) (group 0 (map launched_of ls) (replicate (file_start (length ls)) 0) c) (group 0 (replicate (length ls) zero_warp) v c))
