use Prim.Native.Nat.{◌<◌}
use native.Mathlib.Omega.{arith}
use Rattle.definition.specs.Calls.{budget_limit}
use Rattle.capi.proofs.Laws.{run_room, run_short, run_call}
use Rattle.capi.proofs.bench_run.Goals as goal

pub returns-then-steps-ne1 : goal.returns-then-steps-ne1
returns-then-steps-ne1 c = (omega arith, rw c.number.ensures (run_room _ _ _ _ _ _ c.if-steps-ne1.true))

pub returns-then-state-ne-STATE_WORDS : goal.returns-then-state-ne-STATE_WORDS
returns-then-state-ne-STATE_WORDS c = (omega arith, rw c.number-then-state-ne-STATE_WORDS.ensures (run_short _ _ _ _ _ _ c.if-steps-ne1.false c.if-state-ne-STATE_WORDS.true))

pub returns : goal.returns
returns c =
    let small : c.args.budget < budget_limit = omega arith in
    (small, rw c.number-2.ensures (run_call _ _ _ _ _ _ c.if-steps-ne1.false _ _ _ _ _ c.run_state-end.ensures))
