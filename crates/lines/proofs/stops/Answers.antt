use mathlib.Core.Path.{refl}
use Rattle.lines.specs.GroupLines.{stops_of}
use Rattle.lines.proofs.stops.Goals as goal

pub returns : goal.returns
unfolding stops_of
returns c = refl
