use mathlib.Core.Bool.{and-true}
use Rattle.layout.specs.Words.{sound_of}
use Rattle.saved.proofs.sound.Goals as goal

pub returns : goal.returns
unfolding sound_of
returns c = simp (c.phases_ok-phases.ensures, and-true)
