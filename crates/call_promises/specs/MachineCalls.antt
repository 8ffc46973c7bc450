-- For each public call of the machine: two results that its contract allows are equal. (The card's two calls: read_determined and write_determined of card.)
use Rattle.std.specs.Prelude.{◌≡◌, ℕ, List, Result}
use Rattle.std.specs.Result.{result_unwrap_or}
use Rattle.answer.specs.declared.Refusal.{Refusal}
use Rattle.answer.specs.Answer.{number_of}
use Rattle.memory.specs.Memories.{alone}
use Rattle.warp.specs.declared.Launch.{Launch}
use Rattle.warp.specs.declared.Warp.{Warp}
use Rattle.warp.specs.Warp.{zero_warp, Answered, answered}
use Rattle.definition.specs.State.{State, state, Outcome, outcome}
use Rattle.definition.specs.Step.{step_of}
use Rattle.definition.specs.Calls.{Ran, ran, launch_of, run_of, release_of}
use Rattle.machine.specs.declared.RunLeft.{RunLeft}
use Rattle.promises.specs.Determined.{Allows, DeterminedWhole}

-- a launch's or a step's result, with the lent runs afterwards
pub record Leaves : Type 0 where
  pub result : Result Warp Refusal
  pub vector : List ℕ
  pub bytes : List ℕ

pub record RunLeaves : Type 0 where
  pub result : RunLeft
  pub vector : List ℕ
  pub bytes : List ℕ

-- what the contracts see of them; w is the warp of a refused call: zeros of a launch, of the others the one that was handed in
abbrev pub seen : Warp → Leaves → Outcome
seen w r = outcome (number_of r.result) (state (result_unwrap_or r.result w) r.vector (alone r.bytes))

abbrev pub run_seen : RunLeaves → Ran
run_seen r = ran r.result.steps (outcome (number_of r.result.answer) (state r.result.warp r.vector (alone r.bytes)))

abbrev pub freed : Warp → Result Warp Refusal → Answered
freed w r = answered (number_of r) (result_unwrap_or r w)

-- ---- promises

abbrev pub LaunchDetermined : Type 0
LaunchDetermined = (k v d : List ℕ) → DeterminedWhole (seen zero_warp) (λ (l : Launch). launch_of k l v (alone d))

abbrev pub StepDetermined : Type 0
StepDetermined = (k : List ℕ) (m : State) (r t : Leaves) → Allows (seen m.warp) (step_of k) m r → Allows (seen m.warp) (step_of k) m t → r ≡ t

abbrev pub RunDetermined : Type 0
RunDetermined = (k : List ℕ) (n : ℕ) → DeterminedWhole run_seen (run_of k n)

abbrev pub ReleaseDetermined : Type 0
ReleaseDetermined = (w : Warp) (r t : Result Warp Refusal) → Allows (freed w) release_of w r → Allows (freed w) release_of w t → r ≡ t
