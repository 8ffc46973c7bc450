use lib.ListN.{take}
use Rattle.isa.specs.Number.{every_op, by_number, op_at}
use Rattle.isa.proofs.Tables.{at_last}
use Rattle.isa.proofs.fields.op_at.Goals as goal

pub returns-in-0 : goal.returns-in-0
unfolding op_at
returns-in-0 c = simp c.in-0.is

pub returns-in-1 : goal.returns-in-1
unfolding op_at
returns-in-1 c = simp c.in-1.is

pub returns-in-2 : goal.returns-in-2
unfolding op_at
returns-in-2 c = simp c.in-2.is

pub returns-in-3 : goal.returns-in-3
unfolding op_at
returns-in-3 c = simp c.in-3.is

pub returns-in-4 : goal.returns-in-4
unfolding op_at
returns-in-4 c = simp c.in-4.is

pub returns-in-5 : goal.returns-in-5
unfolding op_at
returns-in-5 c = simp c.in-5.is

pub returns-in-6 : goal.returns-in-6
unfolding op_at
returns-in-6 c = simp c.in-6.is

pub returns-in-7 : goal.returns-in-7
unfolding op_at
returns-in-7 c = simp c.in-7.is

pub returns-in-8 : goal.returns-in-8
unfolding op_at
returns-in-8 c = simp c.in-8.is

pub returns-in-9 : goal.returns-in-9
unfolding op_at
returns-in-9 c = simp c.in-9.is

pub returns-in-10 : goal.returns-in-10
unfolding op_at
returns-in-10 c = simp c.in-10.is

pub returns-in-11 : goal.returns-in-11
unfolding op_at
returns-in-11 c = simp c.in-11.is

pub returns-in-12 : goal.returns-in-12
unfolding op_at
returns-in-12 c = simp c.in-12.is

pub returns-in-13 : goal.returns-in-13
unfolding op_at
returns-in-13 c = simp c.in-13.is

pub returns-in-14 : goal.returns-in-14
unfolding op_at
returns-in-14 c = simp c.in-14.is

pub returns-in-15 : goal.returns-in-15
unfolding op_at
returns-in-15 c = simp c.in-15.is

pub returns-in-16 : goal.returns-in-16
unfolding op_at
returns-in-16 c = simp c.in-16.is

pub returns-in-17 : goal.returns-in-17
unfolding op_at
returns-in-17 c = simp c.in-17.is

pub returns-in-18 : goal.returns-in-18
unfolding op_at
returns-in-18 c = simp c.in-18.is

pub returns-in-19 : goal.returns-in-19
unfolding op_at
returns-in-19 c = simp c.in-19.is

pub returns-in-20 : goal.returns-in-20
unfolding op_at
returns-in-20 c = simp c.in-20.is

pub returns-in-21 : goal.returns-in-21
unfolding op_at
returns-in-21 c = simp c.in-21.is

pub returns-in-22 : goal.returns-in-22
unfolding op_at
returns-in-22 c = simp c.in-22.is

pub returns-in-23 : goal.returns-in-23
unfolding op_at
returns-in-23 c = simp c.in-23.is

pub returns-in-24 : goal.returns-in-24
unfolding op_at
returns-in-24 c = simp c.in-24.is

pub returns-in-25 : goal.returns-in-25
unfolding op_at
returns-in-25 c = simp c.in-25.is

pub returns-in-26 : goal.returns-in-26
unfolding op_at
returns-in-26 c = simp c.in-26.is

pub returns-in-27 : goal.returns-in-27
unfolding op_at
returns-in-27 c = simp c.in-27.is

pub returns-in_default : goal.returns-in_default
unfolding op_at
returns-in_default c = at_last _ (take 28 (by_number every_op)) _ c.in_default.in_default-own.rest
