use Rattle.handlers.specs.Handles.{puts_in}
use Rattle.isa.specs.Fields.{fields_of}
use Rattle.isa.specs.Wide.{xd_in}
use Rattle.running.proofs.Goes.{next_goes, x_warp}
use Rattle.warp.specs.Warp.{next}
use mathlib.Core.Path.{ap}
use Rattle.handlers.proofs.gives.Goals as goal

pub returns : goal.returns
returns c = let a = c.args in let f = fields_of a.w in λ g s n. next_goes g a.h.now a.x.now s c.requires n _ _ (puts_in (xd_in a.w) a.y) c.next.ensures (ap next (rw (c.put_x.ensures, c.xd.ensures.0) (x_warp g a.h.now a.x.now s (xd_in a.w) a.y)))
