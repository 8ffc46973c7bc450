use Rattle.std.proofs.Common.{rules}
use Rattle.lanes.specs.Rows.{at}
use Rattle.memory.specs.Memory.{memory, inside_of}
use Rattle.lane_memory.proofs.all_inside.Goals as goal

pub returns : goal.returns
returns c =
    let g = c.args in
    c.all_active.ensures (λ l. inside_of (memory g.base g.d.now) g.w (at g.o.now l)) (λ l t h e. search rules)
