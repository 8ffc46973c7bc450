use mathlib.Core.Path.{sym, ◌∙◌}
use borrow.Author.Rules.{rules}
use Rattle.formed.proofs.Formed.{open_stop, open_go, open_end}
use Rattle.formed.proofs.chain_ok.Goals as goal

pub returns-then-not-open_ok : goal.returns-then-not-open_ok
returns-then-not-open_ok c =
    let a = c.args in
    sym (c.loop-k.invariant ∙ open_stop a.launchMask a.s.now c.loop-k.k c.loop-k.m (search rules) (search rules) c.open_ok.result c.open_ok.ensures c.if-not-open_ok.true)

pub loop-k-preserved : goal.loop-k-preserved
loop-k-preserved c =
    let a = c.args in
    c.loop-k.invariant ∙ open_go a.launchMask a.s.now c.loop-k.k c.loop-k.m (search rules) (search rules) c.open_ok.result c.open_ok.ensures c.if-not-open_ok.false

pub returns : goal.returns
returns c = sym (c.loop-k.invariant ∙ open_end _ _ _ _ c.loop-k-test.false)
