use Rattle.std.proofs.Common.{rules}
use Rattle.lanes.specs.Mask.{lane}
use Rattle.lane_clash.specs.Clash.{lane_with}
use Rattle.lane_clash.proofs.lane_agrees.Goals as goal

pub returns : goal.returns
returns c =
    let a = c.args in
    c.all_active.ensures (lane_with a.w a.o.now a.x.now (lane a.l)) (λ h t k e. search rules)
