use Rattle.capi.proofs.Laws.{step_size, step_call}
use Rattle.capi.proofs.bench_step.Goals as goal

pub returns-then-state-ne-STATE_WORDS : goal.returns-then-state-ne-STATE_WORDS
returns-then-state-ne-STATE_WORDS c = rw c.number.ensures (step_size _ _ _ _ c.if-state-ne-STATE_WORDS.true)

pub returns : goal.returns
returns c = rw c.number-2.ensures (step_call _ _ _ _ _ _ _ _ _ c.run_state-end.ensures)
