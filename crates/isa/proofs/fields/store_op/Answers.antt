use lib.ListN.{take}
use Rattle.isa.specs.Scalar.{stores}
use Rattle.isa.proofs.Tables.{at_last}
use Rattle.isa.specs.Kinds.{store_op_of}
use Rattle.isa.proofs.fields.store_op.Goals as goal

pub returns-in-0 : goal.returns-in-0
unfolding store_op_of
returns-in-0 c = simp c.in-0.is

pub returns-in-1 : goal.returns-in-1
unfolding store_op_of
returns-in-1 c = simp c.in-1.is

pub returns-in_default : goal.returns-in_default
unfolding store_op_of
returns-in_default c = at_last _ (take 2 stores) _ c.in_default.in_default-own.rest
