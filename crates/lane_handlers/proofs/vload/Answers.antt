use mathlib.Core.Path.{refl, ap, ◌∙◌}
use mathlib.Core.List.{[]}
use Rattle.memory.specs.Memories.{contents}
use Rattle.memory.specs.Memory.{size_of}
use Rattle.lane_handlers.proofs.Laws.{crossed, not_crossed, loaded_row}
use Rattle.lane_handlers.proofs.vload.Goals as goal

pub returns-then-some_crosses : goal.returns-then-some_crosses
returns-then-some_crosses c =
    let a = c.args in
    record {
      code = crossed a.space _ a.off a.mask a.w a.g.now a.v.now (contents a.d.now a.l.now) (c.size.ensures.0 ∙ ap size_of c.load_op-k.ensures) c.some_crosses.ensures (λ m. []) c.if-some_crosses.true;
      file = refl;
    }

pub returns-then-not-load_lanes : goal.returns-then-not-load_lanes
returns-then-not-load_lanes c =
    let a = c.args in
    loaded_row a.space a.off a.mask a.w a.g.now a.v.now (contents a.d.now a.l.now) c.lane_addresses-o.result c.threads-n.ensures c.lane_addresses-o.ensures (rw c.if-not-load_lanes.true refl) c.load_op-k.ensures c.vd.ensures.0
    (not_crossed a.space _ a.off a.mask a.w a.g.now a.v.now (contents a.d.now a.l.now) c.size.ensures.0 c.some_crosses.ensures c.if-some_crosses.false) c.load_lanes.ensures

pub returns : goal.returns
returns c =
    let a = c.args in
    loaded_row a.space a.off a.mask a.w a.g.now a.v.now (contents a.d.now a.l.now) c.lane_addresses-o.result c.threads-n.ensures c.lane_addresses-o.ensures (rw c.if-not-load_lanes.false refl) c.load_op-k.ensures c.vd.ensures.0
    (not_crossed a.space _ a.off a.mask a.w a.g.now a.v.now (contents a.d.now a.l.now) c.size.ensures.0 c.some_crosses.ensures c.if-some_crosses.false) c.load_lanes.ensures
