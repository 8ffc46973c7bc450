use Rattle.warp.specs.Warp.{zero_warp}
use Rattle.launch_release.proofs.launched.Goals as goal

pub returns : goal.returns
unfolding zero_warp
returns c = rw c.zero_warp.ensures
