use mathlib.Core.Path.{refl}
use Rattle.printout.specs.Printout.{buffers_ok_of}
use Rattle.printout.proofs.buffers_ok.Goals as goal

pub returns : goal.returns
unfolding buffers_ok_of
returns c = refl
