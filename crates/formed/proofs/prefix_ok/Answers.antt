use mathlib.Core.Bool.{and-true}
use Rattle.warp.specs.WellFormed.{prefix_ok_of}
use Rattle.formed.proofs.prefix_ok.Goals as goal

pub returns : goal.returns
unfolding prefix_ok_of
returns c = simp and-true
