use Rattle.capi.proofs.Laws.{blanked}
use Rattle.capi.proofs.blank.Goals as goal

pub returns : goal.returns
returns c = blanked _ _ _ _ c.zero_warp.ensures c.save.ensures
