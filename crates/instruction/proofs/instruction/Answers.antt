use mathlib.Core.Path.{◌∙◌, sym, ap}
use mathlib.Core.List.{◌++◌}
use borrow.Author.Tests.{lt-leb}
use Rattle.isa.specs.declared.Instr.TheVariants.{Refused}
use Rattle.isa.specs.Fields.{fields_of}
use Rattle.isa.specs.Table.{on}
use Rattle.isa.specs.Kinds.{scalar_groups, lane_groups, of_registers, of_immediates, row_of}
use Rattle.isa.proofs.Laws.{past}
use Rattle.isa.proofs.Words.{csr_is, vector_is}
use Rattle.isa.specs.Prefix.{on_fields}
use Rattle.isa.specs.Wide.{numbers_in}
use Rattle.instruction.proofs.instruction.Goals as goal

pub returns-then-kind-ge-VECTOR : goal.returns-then-kind-ge-VECTOR
unfolding row_of
returns-then-kind-ge-VECTOR c = c.vector.ensures ∙ sym (vector_is c.args.kind c.args.w c.if-kind-ge-VECTOR.true)

pub returns-in-1 : goal.returns-in-1
unfolding row_of
returns-in-1 c = rw (c.in-1.is, c.xd.ensures.0, c.imm_u.ensures.0)

pub returns-in-2 : goal.returns-in-2
unfolding row_of
returns-in-2 c = rw (c.in-2.is, c.xd-in-2.ensures.0, c.imm_u-in-2.ensures.0)

pub returns-in-3 : goal.returns-in-3
unfolding row_of
returns-in-3 c = rw (c.in-3.is, c.xd-in-3.ensures.0, c.imm_j.ensures.0)

pub returns-in-4 : goal.returns-in-4
unfolding row_of
returns-in-4 c = rw (c.in-4.is, c.xd-in-4.ensures.0, c.xs1.ensures.0, c.imm_i.ensures.0)

pub returns-in-5 : goal.returns-in-5
unfolding row_of
returns-in-5 c = rw (c.in-5.is, c.cond.ensures, c.xs1-in-5.ensures.0, c.xs2.ensures.0, c.imm_b.ensures.0)

pub returns-in-6 : goal.returns-in-6
unfolding row_of
returns-in-6 c = rw (c.in-6.is, c.load_op.ensures, c.xd-in-6.ensures.0, c.xs1-in-6.ensures.0, c.imm_i-in-6.ensures.0)

pub returns-in-7 : goal.returns-in-7
unfolding row_of
returns-in-7 c = rw (c.in-7.is, c.store_op.ensures, c.xs1-in-7.ensures.0, c.xs2-in-7.ensures.0, c.imm_s.ensures.0)

pub returns-in-8 : goal.returns-in-8
unfolding row_of
returns-in-8 c = rw (c.in-8.is, c.rd.ensures.0, c.rs1.ensures.0, c.imm_i-in-8.ensures.0)

pub returns-in-9 : goal.returns-in-9
unfolding row_of
returns-in-9 c = c.csr.ensures ∙ sym (csr_is c.args.kind c.args.w c.in-9.is)

pub returns-in_default : goal.returns-in_default
unfolding row_of
returns-in_default c =
    let w = c.args.w in
    c.lane_word.ensures
    ∙ rw (lt-leb _ _ c.if-kind-ge-VECTOR.false)
    (ap (on_fields (numbers_in w)) (past (on (fields_of w)) Refused _ scalar_groups (lane_groups ++ of_registers ++ of_immediates) c.in_default.in_default-own.rest))
