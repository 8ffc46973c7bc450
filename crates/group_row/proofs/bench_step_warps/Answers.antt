use Rattle.memory.specs.Memories.{contents}
use Rattle.group_row.proofs.Rows.{row_steps}
use Rattle.group_row.proofs.bench_step_warps.Goals as goal

pub returns : goal.returns
returns c =
    let a = c.args in
    let s = c.step-s.result in
    let step = rw c.gather-g.ensures at c.step-s.ensures in
    row_steps a.kernel.now a.turn a.ws.now a.vector.now (contents a.bytes.now a.local.now) s.group step.0 step.3 s.ended.code s.ended.stopped
    c.step-s.new.vector (contents c.step-s.new.bytes c.step-s.new.local) step.1 c.scatter.new.ws c.scatter.ensures s.ended.turn step.2
