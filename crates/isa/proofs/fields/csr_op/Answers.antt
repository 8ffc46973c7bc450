use lib.Dec.{ltb}
use lib.ListN.{take}
use Rattle.isa.specs.declared.CsrOp.TheVariants as R
use Rattle.isa.specs.Fields.{fields_of}
use Rattle.answer.specs.Rows.{◌⇒◌}
use Rattle.isa.specs.Scalar.{csr_ops, csr_immediates}
use Rattle.isa.specs.Kinds.{csr_op_of}
use Rattle.isa.proofs.Tables.{both_ways, at_last}
use Rattle.isa.proofs.fields.csr_op.Goals as goal

pub returns-in-1 : goal.returns-in-1
unfolding csr_op_of
returns-in-1 c = simp c.in-1.is

pub returns-in-2 : goal.returns-in-2
unfolding csr_op_of
returns-in-2 c = simp c.in-2.is

pub returns-in-5 : goal.returns-in-5
unfolding csr_op_of
returns-in-5 c = simp c.in-5.is

pub returns-in-6 : goal.returns-in-6
unfolding csr_op_of
returns-in-6 c = simp c.in-6.is

pub returns-in_default : goal.returns-in_default
unfolding csr_op_of
returns-in_default c =
    let n = c.in_default.in_default-own.rest in
    both_ways (ltb (fields_of c.args.w).funct3 4)
    (at_last _ (take 2 csr_ops) (3 ⇒ R.Rc) n.0.0)
    (at_last _ (take 2 csr_immediates) (7 ⇒ R.Rc) ((tt, n.0.1), n.1))
