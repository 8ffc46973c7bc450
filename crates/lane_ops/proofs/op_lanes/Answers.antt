use mathlib.Core.Path.{ap₂, ◌∙◌}
use Rattle.word.specs.Word.{apply_of}
use Rattle.lanes.specs.Lanes.{op_lane}
use Rattle.lanes.specs.Rows.{map_lane}
use Rattle.lanes.proofs.RowLaws.{row_written}
use Rattle.lane_ops.proofs.op_lanes.Goals as goal

pub returns : goal.returns
returns c = c.map_op.ensures
    ∙ row_written c.args.mask c.args.n c.args.d (map_lane c.args.op c.row-x.result c.operand_row-y.result) (op_lane c.args.op c.args.v.now c.args.a c.args.b) c.args.v.now c.requires.5 c.requires.4
    (λ l h. ap₂ (apply_of c.args.op) (c.row-x.ensures.1 l h) (c.operand_row-y.ensures.1 l h))
