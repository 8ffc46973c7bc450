use Rattle.std.proofs.Common.{rules}
use Rattle.lanes.specs.Lanes.{lane_of}
use Rattle.lanes.proofs.RowLaws.{row_made}
use Rattle.lanes.proofs.row.Goals as goal

pub returns : goal.returns
returns c = row_made _ (lane_of c.args.v.now c.args.r) _ (λ i y q e. search rules) c.from_fn.result c.from_fn.ensures.items
