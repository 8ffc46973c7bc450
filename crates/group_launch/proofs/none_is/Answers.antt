use mathlib.Core.Path.{sym, ap, ◌∙◌}
use mathlib.Core.Bool.{not}
use borrow.Author.Tests.{eq-eqb, ne_eqb}
use Rattle.lanes.proofs.Laws.{below_not, below_none, below_more}
use Rattle.group_launch.proofs.none_is.Goals as goal

pub loop-i-init : goal.loop-i-init
loop-i-init c = below_none _

pub returns-then-code_at-number : goal.returns-then-code_at-number
returns-then-code_at-number c = sym (below_not _ _ c.loop-i.i c.loop-i-test.true (ap not (eq-eqb _ _ (sym c.code_at.ensures ∙ c.if-code_at-number.true ∙ c.number.ensures))))

pub loop-i-preserved : goal.loop-i-preserved
loop-i-preserved c = below_more _ c.loop-i.i c.loop-i.invariant (ap not (ne_eqb _ _ (λ e. c.if-code_at-number.false (c.code_at.ensures ∙ e ∙ sym c.number.ensures))))
