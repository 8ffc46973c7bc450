use Rattle.lanes.proofs.RowLaws.{with_lane}
use Rattle.lanes.proofs.with.Goals as goal

pub returns : goal.returns
returns c = with_lane c.args.m c.args.l.0 c.choose.result c.args.t c.requires.0 c.requires.1 c.choose.ensures
