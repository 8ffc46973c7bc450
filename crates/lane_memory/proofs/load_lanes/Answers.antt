use mathlib.Core.Path.{sym, ◌∙◌}
use Rattle.lanes.specs.Mask.{bit}
use Rattle.lanes.specs.Rows.{at}
use Rattle.lanes.proofs.Laws.{write_same}
use Rattle.memory.specs.Memories.{contents, memories, load_from}
use Rattle.lane_memory.proofs.load_lanes.Goals as goal

pub returns-then-found : goal.returns-then-found
returns-then-found c =
    let g = c.args in (
      sym c.if-found.true ∙ c.found.ensures.0,
      c.put.ensures
          ∙ write_same (bit g.mask) g.vd (at c.found.new.x) (λ l. load_from g.k (memories g.base g.near (contents g.d.now g.local.now)) (at g.o.now l)) g.v.now g.n (c.found.ensures.1 c.if-found.true).1,
    )
