use Rattle.std.proofs.Common.{rules}
use Rattle.lanes.specs.Rows.{at}
use Rattle.memory.specs.Memories.{contents, memories, inside_one}
use Rattle.lane_memory.proofs.all_inside_one.Goals as goal

pub returns : goal.returns
returns c =
    let g = c.args in
    c.all_active.ensures (λ l. inside_one (memories g.base g.near (contents g.d.now g.local.now)) g.w (at g.o.now l)) (λ l t h e. search rules)
