use mathlib.Core.Path.{◌≡◌, sym, ◌∙◌}
use native.Mathlib.Omega.{arith}
use lib.ListN.{length}
use Rattle.lanes.proofs.Laws.{below_not, below_none, below_more}
use Rattle.group_words.proofs.Testing.{place_ok, placed_is}
use Rattle.group_words.proofs.placed.Goals as goal

pub loop-i-init : goal.loop-i-init
loop-i-init c = below_none _

pub returns-then-not-in_place : goal.returns-then-not-in_place
returns-then-not-in_place c = let ws = c.args.ws.now in sym (placed_is ws ∙ below_not _ (place_ok ws) c.loop-i.i c.loop-i-test.true (sym c.in_place.ensures ∙ c.if-not-in_place.true))

pub loop-i-preserved : goal.loop-i-preserved
loop-i-preserved c = below_more (place_ok c.args.ws.now) c.loop-i.i c.loop-i.invariant (sym c.in_place.ensures ∙ c.if-not-in_place.false)

pub returns : goal.returns
returns c = let e : c.loop-i.i ≡ length c.args.ws.now = omega arith in sym (placed_is c.args.ws.now ∙ (rw e at c.loop-i.invariant))
