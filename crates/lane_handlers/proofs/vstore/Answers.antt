use mathlib.Core.Path.{refl, ap, ◌∙◌}
use Rattle.memory.specs.Memories.{contents}
use Rattle.memory.specs.Memory.{width_of}
use Rattle.lane_handlers.specs.Lanes.{clash_row}
use Rattle.lane_handlers.proofs.Laws.{crossed, not_crossed, stored_row}
use Rattle.lane_handlers.proofs.vstore.Goals as goal

pub returns-then-some_crosses : goal.returns-then-some_crosses
returns-then-some_crosses c =
    let a = c.args in
    record {
      code = crossed a.space _ a.off a.mask a.w a.g.now a.v.now (contents a.d.now a.l.now) (c.width.ensures.0 ∙ ap width_of c.lane_store_op-k.ensures) c.some_crosses.ensures (clash_row a.space a.off a.w) c.if-some_crosses.true;
      bytes = refl;
    }

pub returns : goal.returns
returns c =
    let a = c.args in
    stored_row a.space a.off a.mask a.w a.g.now a.v.now (contents a.d.now a.l.now) c.lane_addresses-o.result c.threads-n.ensures c.lane_addresses-o.ensures c.lane_store_op-k.ensures c.vs2.ensures.0
    (not_crossed a.space _ a.off a.mask a.w a.g.now a.v.now (contents a.d.now a.l.now) c.width.ensures.0 c.some_crosses.ensures c.if-some_crosses.false) c.store_lanes.ensures
