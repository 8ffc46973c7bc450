use mathlib.Core.Path.{refl}
use Rattle.running.proofs.Goes.{link_goes}
use Rattle.running.proofs.link.Goals as goal

pub returns : goal.returns
returns c = λ g s n. link_goes g c.args.h.now c.args.x.now s c.requires.0 n _ _ c.args.rd c.args.p _ c.add-q.ensures c.put_x.ensures refl
