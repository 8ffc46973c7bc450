-- Every warp that can run gets its step.
use Rattle.std.specs.Prelude.{ℕ, ◌<◌, ◌≡◌, true, List, ◌⊎◌}
use Rattle.group.specs.Group.{Group, count_of, warp_at, runs}
use Rattle.group.specs.GroupCalls.{group_outcome, group_step_of}
use Rattle.group_promises.specs.Steps.{Picked}
use Rattle.group_promises.specs.Runs.{group_tested, GroupSteps, AllSplits}

-- one of t taken steps from m on is warp i's: after `before` of them, from the group `at`
pub record Turns (k : List ℕ) (m : Group) (t i : ℕ) : Type 0 where
  pub before : ℕ
  pub within : before < t
  pub at : Group
  pub taken : GroupSteps k before m at
  pub picked : Picked at i
  pub left : Group
  pub step : group_step_of k at ≡ group_outcome 0 0 left

-- a warp stops the group in one of t steps from m on: after `steps` taken ones the next is refused with a number that is neither 1 to 3 nor 0
pub record Stops (k : List ℕ) (m : Group) (t : ℕ) : Type 0 where
  pub steps : ℕ
  pub fewer : steps < t
  pub at : Group
  pub taken : GroupSteps k steps m at
  pub stopped : 3 < (group_step_of k at).code

-- ---- the promise

-- Unless the group stops, a warp that neither waits nor has ended takes one of the next as many steps as there are warps, whatever the others do in theirs: in every group of which neither 1 nor 2 holds.
abbrev pub Fair : Type 0
Fair =
    (k : List ℕ) (m : Group) (i : ℕ) → group_tested k m ≡ 0 → AllSplits m → i < count_of m → runs (warp_at i m) ≡ true
    → Turns k m (count_of m) i ⊎ Stops k m (count_of m)
