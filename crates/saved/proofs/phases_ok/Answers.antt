use mathlib.Core.Path.{sym, ◌∙◌}
use borrow.Author.Rules.{rules}
use Rattle.saved.proofs.Laws.{phases_stop, phases_go, phases_end}
use Rattle.saved.proofs.phases_ok.Goals as goal

pub returns-then-s-k-gt1 : goal.returns-then-s-k-gt1
returns-then-s-k-gt1 c = sym (c.loop-k.invariant ∙ phases_stop c.loop-k.k c.args.s.now (search rules) c.if-s-k-gt1.true)

pub loop-k-preserved : goal.loop-k-preserved
loop-k-preserved c = c.loop-k.invariant ∙ phases_go c.loop-k.k c.args.s.now (search rules) c.if-s-k-gt1.false

pub returns : goal.returns
returns c = sym (c.loop-k.invariant ∙ phases_end _ _ c.loop-k-test.false)
