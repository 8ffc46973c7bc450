-- Two results that the definition allows of a group's call are equal. A result is all that its caller sees: the number, the WID, the count, the state and the lent runs.
use Rattle.std.specs.Prelude.{ℕ, List}
use Rattle.memory.specs.Memories.{Contents}
use Rattle.warp.specs.declared.Launch.{Launch}
use Rattle.promises.specs.Determined.{DeterminedWhole}
use Rattle.group.specs.GroupCalls.{group_step_of, group_run_of, group_launch_of}

abbrev pub whole : {R : Type 0} → R → R
whole r = r

-- ---- promises

abbrev pub GroupStepDetermined : Type 0
GroupStepDetermined = (k : List ℕ) → DeterminedWhole whole (group_step_of k)

abbrev pub GroupRunDetermined : Type 0
GroupRunDetermined = (k : List ℕ) (n : ℕ) → DeterminedWhole whole (group_run_of k n)

abbrev pub GroupLaunchDetermined : Type 0
GroupLaunchDetermined = (k v : List ℕ) (c : Contents) → DeterminedWhole whole (λ (ls : List Launch). group_launch_of k ls v c)
