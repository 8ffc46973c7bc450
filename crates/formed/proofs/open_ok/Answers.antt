use mathlib.Core.Bool.{and-true}
use Rattle.warp.specs.WellFormed.{split_ok_of}
use Rattle.formed.proofs.open_ok.Goals as goal

pub returns : goal.returns
unfolding split_ok_of
returns c = simp (c.running_part-r.ensures, and-true)
