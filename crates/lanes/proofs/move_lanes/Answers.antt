use mathlib.Core.Path.{◌∙◌}
use Rattle.lanes.specs.Lanes.{operand_of}
use Rattle.lanes.specs.Rows.{at}
use Rattle.lanes.proofs.RowLaws.{row_written}
use Rattle.lanes.proofs.move_lanes.Goals as goal

pub returns : goal.returns
returns c = c.put.ensures
    ∙ row_written c.args.mask c.args.n c.args.d (at c.operand_row-y.result) (operand_of c.args.v.now c.args.b) c.args.v.now c.requires.2 c.requires.1 c.operand_row-y.ensures.1
