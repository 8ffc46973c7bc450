use lib.ListN.{take}
use Rattle.isa.specs.Scalar.{conditions}
use Rattle.isa.specs.Kinds.{cond_of}
use Rattle.isa.proofs.Tables.{at_last}
use Rattle.isa.proofs.fields.cond.Goals as goal

pub returns-in-0 : goal.returns-in-0
unfolding cond_of
returns-in-0 c = simp c.in-0.is

pub returns-in-1 : goal.returns-in-1
unfolding cond_of
returns-in-1 c = simp c.in-1.is

pub returns-in-4 : goal.returns-in-4
unfolding cond_of
returns-in-4 c = simp c.in-4.is

pub returns-in-5 : goal.returns-in-5
unfolding cond_of
returns-in-5 c = simp c.in-5.is

pub returns-in-6 : goal.returns-in-6
unfolding cond_of
returns-in-6 c = simp c.in-6.is

pub returns-in_default : goal.returns-in_default
unfolding cond_of
returns-in_default c = at_last _ (take 5 conditions) _ c.in_default.in_default-own.rest
