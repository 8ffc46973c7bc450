use mathlib.Core.Path.{sym, ◌∙◌}
use Rattle.memory.specs.Memories.{contents}
use Rattle.group_state.proofs.Calls.{step_call}
use Rattle.capi_group.proofs.Told.{one_word, step_told, step_size, step_same}
use Rattle.capi_group.proofs.bench_group_step.Goals as goal

pub returns-then-stopped-ne1 : goal.returns-then-stopped-ne1
returns-then-stopped-ne1 c = let a = c.args in rw c.number.ensures (step_told a.state.now a.kernel.now a.vector.now (contents a.bytes.now a.local.now) a.stopped.now c.if-stopped-ne1.true)

pub returns-then-not-is_group : goal.returns-then-not-is_group
returns-then-not-is_group c =
    let a = c.args in
    rw (c.number-then-not-is_group.ensures, one_word a.stopped.now 0 c.if-stopped-ne1.false)
    (step_size a.state.now a.kernel.now a.vector.now (contents a.bytes.now a.local.now) a.stopped.now c.if-stopped-ne1.false (sym c.is_group.ensures ∙ c.if-not-is_group.true))

pub returns : goal.returns
returns c =
    let a = c.args in
    rw (c.number-2.ensures, one_word a.stopped.now c.run_state-end.result.stopped c.if-stopped-ne1.false)
    (step_call _ _ _ _ _ _ _ _ _ _ c.run_state-end.ensures ∙ step_same a.state.now a.kernel.now a.vector.now (contents a.bytes.now a.local.now) a.stopped.now c.if-stopped-ne1.false)
