use mathlib.Core.Path.{refl}
use Rattle.lanes.specs.Mask.{bit_at}
use Rattle.lanes.proofs.active.Goals as goal

pub returns : goal.returns
unfolding bit_at
returns c = refl
