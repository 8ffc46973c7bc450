use Rattle.layout.specs.Words.{warp_of}
use Rattle.layout.proofs.together.Goals as goal

pub returns : goal.returns
unfolding warp_of
returns c = rw (c.unflat.ensures, c.fixed_in.ensures)
