-- Demand 2 for a group: a run is the iteration of the group's step.
use Rattle.std.specs.Prelude.{ℕ, ◌+◌, ◌<◌, ◌≡◌, List, length}
use Rattle.answer.specs.Rows.{first}
use Rattle.warp.specs.declared.Launch.{Launch}
use Rattle.warp.specs.Warp.{split_count}
use Rattle.group.specs.Group.{Group, count_of, warp_at}
use Rattle.group.specs.GroupRefuse.{group_tests}
use Rattle.group.specs.GroupCalls.{group_outcome, group_step_of, GroupRan, group_ran, group_run_of}
use Rattle.group_promises.specs.Reached.{GroupReached}

-- the number of the first test of 1 and 2 that holds, 0 where none does
abbrev pub group_tested : List ℕ → Group → ℕ
group_tested k m = first (group_tests k m)

-- t taken group steps lead from m to u
pub data GroupSteps (k : List ℕ) : ℕ → Group → Group → Type 0 where
  start : {m : Group} → GroupSteps k 0 m m
  more : {t : ℕ} {m u x : Group} → GroupSteps k t m u → group_step_of k u ≡ group_outcome 0 0 x → GroupSteps k (t + 1) m x

-- a run b after a run a
abbrev pub group_followed_by : GroupRan → GroupRan → GroupRan
group_followed_by a b = group_ran (a.steps + b.steps) b.ends

-- every warp has its 31 split records: of a warp in code, always
abbrev pub AllSplits : Group → Type 0
AllSplits m = (i : ℕ) → i < count_of m → length (warp_at i m).splits ≡ split_count

-- ---- promises

-- the run r of at most n steps from m, of which neither 1 nor 2 holds
pub record GroupIterates (k : List ℕ) (n : ℕ) (m : Group) (r : GroupRan) : Type 0 where
  -- the count is that of steps taken, one by one, and their effects stay
  pub taken : GroupSteps k r.steps m r.ends.left
  -- answered 0: all were taken
  pub whole : r.ends.code ≡ 0 → r.steps ≡ n
  -- answered otherwise: fewer, and the next step is refused with this number, stopped by this warp
  pub early : (r.ends.code ≡ 0 → ⊥) → r.steps < n
  pub refused : (r.ends.code ≡ 0 → ⊥) → group_step_of k r.ends.left ≡ r.ends

abbrev pub GroupRunIterates : Type 0
GroupRunIterates = (k : List ℕ) (n : ℕ) (m : Group) → group_tested k m ≡ 0 → GroupIterates k n m (group_run_of k n m)

-- Every run tests 1 and 2 first, one of 0 steps too, and one of 0 steps does no more: 3 is not tested.
abbrev pub GroupRunTests : Type 0
GroupRunTests = (k : List ℕ) (n : ℕ) (m : Group) → (group_tested k m ≡ 0 → ⊥) → group_run_of k n m ≡ group_ran 0 (group_outcome (group_tested k m) 0 m)

abbrev pub GroupRunZero : Type 0
GroupRunZero = (k : List ℕ) (m : Group) → group_run_of k 0 m ≡ group_ran 0 (group_outcome (group_tested k m) 0 m)

-- The group after each count of taken steps is one group, and a run of that count answers 0 and leaves it.
abbrev pub GroupStepsFixed : Type 0
GroupStepsFixed = (k : List ℕ) (t : ℕ) (m u x : Group) → GroupSteps k t m u → GroupSteps k t m x → u ≡ x

abbrev pub GroupRunFixed : Type 0
GroupRunFixed = (k : List ℕ) (t : ℕ) (m u : Group) → group_tested k m ≡ 0 → GroupSteps k t m u → group_run_of k t m ≡ group_ran t (group_outcome 0 0 u)

-- A run of n steps and then one of h is the run of n + h, wherever the first answers 0.
abbrev pub GroupRunMore : Type 0
GroupRunMore =
    (k : List ℕ) (n h : ℕ) (m : Group) → AllSplits m → (group_run_of k n m).ends.code ≡ 0
    → group_run_of k (n + h) m ≡ group_followed_by (group_run_of k n m) (group_run_of k h (group_run_of k n m).ends.left)

-- Refusals 1 and 2 come only before a run's first step: what a taken step leaves of a group that passes their tests passes them too.
abbrev pub GroupStepPasses : Type 0
GroupStepPasses = (k : List ℕ) (m n : Group) → AllSplits m → group_step_of k m ≡ group_outcome 0 0 n → (group_tested k n ≡ 0) × AllSplits n

-- What a run leaves of a reached group is reached.
abbrev pub GroupRunReaches : Type 0
GroupRunReaches = (k : List ℕ) (ls : List Launch) (n : ℕ) (m : Group) → GroupReached k ls m → GroupReached k ls (group_run_of k n m).ends.left
