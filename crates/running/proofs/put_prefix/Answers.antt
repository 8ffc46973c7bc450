use mathlib.Core.Path.{refl}
use Rattle.running.proofs.Goes.{prefix_goes}
use Rattle.running.proofs.put_prefix.Goals as goal

pub returns : goal.returns
returns c = λ g x s n. prefix_goes g c.args.h.now x s c.requires n _ c.args.kind c.args.bits refl
