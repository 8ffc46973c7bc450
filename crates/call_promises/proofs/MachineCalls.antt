-- Two allowed results of a public call are equal: what is seen of one is all of it, as an answer is told by its number.
use mathlib.Core.Path.{refl, sym, ap, ap₂, ◌∙◌}
use Rattle.std.specs.Prelude.{Result}
use Rattle.answer.specs.declared.Refusal.{Refusal}
use Rattle.answer.proofs.Numbers.{number_one}
use Rattle.warp.specs.declared.Warp.{Warp}
use Rattle.warp.specs.Warp.{zero_warp, Answered}
use Rattle.definition.specs.State.{State, Outcome}
use Rattle.definition.specs.Step.{step_of}
use Rattle.definition.specs.Calls.{Ran, run_of, release_of}
use Rattle.promises.specs.Determined.{ShowsAll}
use Rattle.call_promises.specs.MachineCalls.{seen, run_seen, freed, LaunchDetermined, StepDetermined, RunDetermined, ReleaseDetermined}
use Rattle.promises.proofs.Determined.{determined_whole}

all_seen : (w : Warp) → ShowsAll (seen w)
all_seen w r t e =
    ap₂ (λ (a : Result Warp Refusal) (m : State). record { result = a; vector = m.vector; bytes = m.bytes.data_bytes })
    (number_one w _ _ (ap (λ (o : Outcome). o.code) e) (ap (λ (o : Outcome). o.left.warp) e)) (ap (λ (o : Outcome). o.left) e)

all_run : ShowsAll run_seen
all_run r t e =
    ap₂ (λ (a : Result Unit Refusal) (p : Ran). record { result = record { answer = a; steps = p.steps; warp = p.ends.left.warp }; vector = p.ends.left.vector; bytes = p.ends.left.bytes.data_bytes })
    (number_one tt _ _ (ap (λ (p : Ran). p.ends.code) e) refl) e

pub launch_determined : LaunchDetermined
launch_determined k v d = determined_whole (seen zero_warp) _ (all_seen zero_warp)

pub step_determined : StepDetermined
step_determined k m r t a b = all_seen m.warp r t (a ∙ sym b)

pub run_determined : RunDetermined
run_determined k n = determined_whole run_seen (run_of k n) all_run

pub release_determined : ReleaseDetermined
release_determined w r t a b = let e = a ∙ sym b in number_one w r t (ap (λ (o : Answered). o.code) e) (ap (λ (o : Answered). o.warp) e)
