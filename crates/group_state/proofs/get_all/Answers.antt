use Prim.Native.Nat.{ℕ, ◌+◌, ◌-◌, ◌*◌}
use mathlib.Core.Path.{◌≡◌}
use native.Mathlib.Omega.{arith}
use lib.ListN.{length}
use Rattle.group_state.proofs.Joined.{got_none, got_more}
use Rattle.group_state.proofs.get_all.Goals as goal

-- the part that is lent has a warp's words
sized : (i : ℕ) → 1 + i * 241 + 241 - (1 + i * 241) ≡ 241
sized i = omega arith

pub loop-i-init : goal.loop-i-init
loop-i-init c = got_none _ _

pub loop-i-preserved : goal.loop-i-preserved
loop-i-preserved c = got_more c.loop-i.i _ c.loop-i.ws c.loop-i.invariant (omega arith) _ (rw (sized c.loop-i.i) at c.get.ensures)

pub returns : goal.returns
returns c = let e : c.loop-i.i ≡ length c.loop-i.ws = omega arith in rw e at c.loop-i.invariant
