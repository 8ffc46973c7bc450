use Rattle.lanes.specs.Mask.{bit}
use Rattle.lanes.specs.Rows.{at}
use Rattle.lanes.proofs.Laws.{each_none}
use Rattle.lanes.proofs.RowLaws.{value_turn}
use Rattle.lanes.proofs.value.Goals as goal

pub loop-l-init : goal.loop-l-init
loop-l-init c = each_none _ _ _

pub loop-l-preserved : goal.loop-l-preserved
loop-l-preserved c =
    let s = c.args in
    value_turn (bit s.mask) (at s.a.now) c.loop-l.l c.loop-l.x c.choose-x.result c.active.result c.active.ensures c.choose-x.ensures c.loop-l.invariant
