use Prim.Native.Nat.{◌+◌, ◌*◌, ◌≤◌}
use mathlib.Core.Path.{◌≡◌, refl, ap, ◌∙◌}
use native.Mathlib.Omega.{arith}
use lib.ListN.{length, length-set}
use Rattle.group_launch.specs.GroupLaunchCall.{reading_at}
use Rattle.group_launch.proofs.Laws.{joined_none, put_long, joined_more, launched_long}
use Rattle.group_launch.proofs.put_warps.Invariants.{words}
use Rattle.group_launch.proofs.put_warps.Goals as goal

pub loop-i-init : goal.loop-i-init
loop-i-init c = (refl, joined_none c.args.state.now (words c.args.cards.now) (omega (arith, c.requires.2)))

pub loop-i-preserved : goal.loop-i-preserved
loop-i-preserved c =
    let i = c.loop-i.i in
    let cards = c.args.cards.now in
    let p = c.put_warp.new.part in
    let long : length c.loop-i.state ≡ length c.args.state.now = c.loop-i.invariant.0 ∙ length-set c.args.state.now 0 _ in
    let fits : 1 + i * 241 + 241 ≤ length c.loop-i.state = omega (arith, long, c.requires.2, c.loop-i-test.true) in
    let e : length p ≡ 241 = ap length c.put_warp.ensures ∙ launched_long (reading_at cards i).launch in (
      put_long c.loop-i.state p (1 + i * 241) fits e ∙ c.loop-i.invariant.0,
      joined_more c.loop-i.state p _ (words cards) i (1 + i * 241) (1 + (i + 1) * 241) (omega (arith, e)) (omega (arith, fits)) c.put_warp.ensures c.loop-i.invariant.1,
    )
