-- The other calls: a launch, a run of counted steps, a release.
use Rattle.std.specs.Prelude.{ℕ, zero, suc, ◌+◌, ◌^◌, false, cond, List, eqb, replicate}
use Rattle.answer.specs.Rows.{first}
use Rattle.lanes.specs.Lanes.{file_words}
use Rattle.memory.specs.Memories.{Contents}
use Rattle.warp.specs.declared.Launch.{Launch}
use Rattle.warp.specs.declared.Warp.{Warp}
use Rattle.isa.specs.Bounds.{scalar_registers}
use Rattle.isa.specs.Prefix.{no_prefix}
use Rattle.warp.specs.Warp.{split_count, zero_split, zero_warp, with_stop, Answered, answered}
use Rattle.definition.specs.State.{State, state, Outcome, outcome, unless}
use Rattle.definition.specs.Refuse.{state_tests, launch_tests, release_tests}
use Rattle.definition.specs.Step.{step_of}

-- ---- launch: scalar registers, RPC and PRINT 0, the mask the launch mask, no split open, no prefix pending; the vector file 0, the memories as lent
abbrev pub launched_of : Launch → Warp
launched_of l =
    record {
      x = replicate scalar_registers 0;
      splits = replicate split_count zero_split;
      depth = 0;
      pc = l.entry;
      mask = l.fixed.launchMask;
      rpc = 0;
      print = 0;
      ended = false;
      waiting = false;
      prefix = no_prefix;
      fixed = l.fixed;
    }

-- a refused launch returns a warp of all zeros, and no lent word or byte changes
unfoldable pub launch_of : List ℕ → Launch → List ℕ → Contents → Outcome
launch_of k l v c = unless (first (launch_tests k l v c)) (state (launched_of l) (replicate file_words 0) c) (state zero_warp v c)

-- ---- run: the steps taken, and what is left
pub record Ran : Type 0 where
  pub steps : ℕ
  pub ends : Outcome

abbrev pub ran : ℕ → Outcome → Ran
ran t o = record { steps = t; ends = o }

-- at most n steps, t having been taken: on while a step answers 0; the first refusal keeps the effects before it
unfoldable pub steps_of : List ℕ → ℕ → ℕ → State → Ran
steps_of k zero t m = ran t (outcome 0 m)
steps_of k (suc n) t m =
    let o : Outcome = step_of k m in
    cond (eqb o.code 0) (steps_of k n (t + 1) o.left) (ran t o)

-- a run's budget is below this: 0 to 2^32 − 1 steps
abbrev pub budget_limit : ℕ
budget_limit = 2 ^ 32

-- refusals 1 and 2 are tested even for 0 steps
unfoldable pub run_of : List ℕ → ℕ → State → Ran
run_of k n m =
    let c : ℕ = first (state_tests k m) in
    cond (eqb c 0) (steps_of k n 0 m) (ran 0 (outcome c m))

-- ---- release: a waiting warp runs again
unfoldable pub release_of : Warp → Answered
release_of w =
    let c : ℕ = first (release_tests w) in
    answered c (cond (eqb c 0) (with_stop false false w) w)
