use mathlib.Core.Path.{◌∙◌}
use borrow.Author.Tests.{eq-eqb, ne_eqb}
use Rattle.isa.specs.Kinds.{row_of}
use Rattle.vector_decoder.proofs.move_or_merge.Goals as goal

pub returns-then-vm-eq0 : goal.returns-then-vm-eq0
unfolding row_of
returns-then-vm-eq0 c = rw (eq-eqb _ _ c.if-vm-eq0.true)

pub returns : goal.returns
unfolding row_of
returns c = c.fixed.ensures c.args.w ∙ rw (ne_eqb _ _ c.if-vm-eq0.false)
