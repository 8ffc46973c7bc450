use lib.ListN.{take}
use Rattle.isa.specs.Scalar.{loads}
use Rattle.isa.specs.Kinds.{load_op_of}
use Rattle.isa.proofs.Tables.{at_last}
use Rattle.isa.proofs.fields.load_op.Goals as goal

pub returns-in-0 : goal.returns-in-0
unfolding load_op_of
returns-in-0 c = simp c.in-0.is

pub returns-in-1 : goal.returns-in-1
unfolding load_op_of
returns-in-1 c = simp c.in-1.is

pub returns-in-2 : goal.returns-in-2
unfolding load_op_of
returns-in-2 c = simp c.in-2.is

pub returns-in-4 : goal.returns-in-4
unfolding load_op_of
returns-in-4 c = simp c.in-4.is

pub returns-in_default : goal.returns-in_default
unfolding load_op_of
returns-in_default c = at_last _ (take 4 loads) _ c.in_default.in_default-own.rest
