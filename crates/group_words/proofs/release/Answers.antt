use mathlib.Core.Path.{◌≡◌}
use native.Mathlib.Omega.{arith}
use lib.ListN.{length}
use Rattle.group_words.proofs.Words.{releasing_on, released_all}
use Rattle.group_words.proofs.release.Goals as goal

pub loop-w-preserved : goal.loop-w-preserved
loop-w-preserved c = releasing_on c.args.ws.now c.requires c.loop-w.w-index c.loop-w.ws c.loop-w.invariant (omega arith) _ c.free.ensures

pub returns : goal.returns
returns c = let e : c.loop-w.w-index ≡ length c.args.ws.now = omega arith in released_all c.args.ws.now c.requires c.loop-w.ws (rw e at c.loop-w.invariant)
