use mathlib.Core.Path.{◌≡◌}
use native.Mathlib.Omega.{arith}
use lib.ListN.{length}
use Rattle.group_machine.proofs.Taking.{together_all}
use Rattle.group_machine.proofs.together.Goals as goal

pub returns : goal.returns
returns c = let e : c.loop-i.i ≡ length c.args.ws.now = omega arith in together_all c.args.ws.now c.loop-i.warps (omega arith) (rw e at c.loop-i.invariant)
