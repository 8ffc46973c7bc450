use Rattle.handlers.proofs.Laws.{csr_refused, csr_word_lem}
use Rattle.handlers.specs.Handles.{lists}
use Rattle.isa.specs.Fields.{fields_of, imm_i}
use Rattle.isa.specs.Wide.{xd_in, xs1_in, of_register}
use Rattle.isa.specs.Kinds.{csr_op_of}
use mathlib.Core.Path.{◌∙◌, sym}
use Rattle.handlers.proofs.csr.Goals as goal

pub returns-then-not-csr_ok : goal.returns-then-not-csr_ok
returns-then-not-csr_ok c = let a = c.args in let f = fields_of a.w in λ s v d n. csr_refused (of_register a.w) (csr_op_of f) (xd_in a.w) (xs1_in a.w) f.rs1 (imm_i f) (lists a.g.now a.h.now a.x.now s v d) c.requires.0 n (sym c.if-not-csr_ok.true ∙ c.csr_ok.ensures)

pub returns : goal.returns
returns c = let a = c.args in let f = fields_of a.w in λ s v d n. csr_word_lem (of_register a.w) (csr_op_of f) (xd_in a.w) (xs1_in a.w) f.rs1 (imm_i f) _ a.g.now a.h.now a.x.now s v d _ _ (sym c.if-not-csr_ok.false ∙ c.csr_ok.ensures) c.csr_operand-y.ensures (rw (← c.csr_op.ensures, ← c.imm_i.ensures.0, ← c.xd.ensures.0, ← c.csr_source.ensures) (c.csr.ensures s n))
