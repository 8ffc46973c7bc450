use mathlib.Core.Path.{◌≡◌}
use native.Mathlib.Omega.{arith}
use lib.ListN.{length}
use Rattle.group_launch.proofs.Laws.{fixing_all}
use Rattle.group_launch.proofs.fixeds.Goals as goal

pub returns : goal.returns
returns c =
    let e : c.loop-i.i ≡ length c.args.ws.now = omega arith in
    fixing_all (length c.args.ws.now) c.loop-i.ws c.args.cards.now c.loop-i.auto.ws (rw e at c.loop-i.invariant)
