use lib.ListN.{take}
use Rattle.isa.specs.Ventus.{vstores}
use Rattle.isa.proofs.Tables.{at_last}
use Rattle.isa.specs.Kinds.{lane_store_op_of}
use Rattle.isa.proofs.fields.lane_store_op.Goals as goal

pub returns-in-7 : goal.returns-in-7
unfolding lane_store_op_of
returns-in-7 c = simp c.in-7.is

pub returns-in-3 : goal.returns-in-3
unfolding lane_store_op_of
returns-in-3 c = simp c.in-3.is

pub returns-in_default : goal.returns-in_default
unfolding lane_store_op_of
returns-in_default c = at_last _ (take 2 vstores) _ c.in_default.in_default-own.rest
