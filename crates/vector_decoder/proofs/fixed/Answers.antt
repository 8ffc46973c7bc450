use borrow.Author.Tests.{ne_eqb}
use Rattle.isa.specs.Kinds.{row_of}
use Rattle.vector_decoder.proofs.fixed.Goals as goal

pub returns-else-field-value : goal.returns-else-field-value
unfolding row_of
returns-else-field-value c w = rw (ne_eqb _ _ c.if-field-value.false)
