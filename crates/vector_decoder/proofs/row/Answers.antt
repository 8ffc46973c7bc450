use mathlib.Core.List.{[]}
use Rattle.isa.specs.declared.Instr.TheVariants.{Refused}
use Rattle.isa.specs.Fields.{fields_of}
use Rattle.isa.specs.Vector.{vector_table}
use Rattle.isa.specs.Number.{op_at}
use Rattle.isa.specs.Kinds.{lane_op_word, row_of}
use Rattle.isa.proofs.Laws.{past}
use Rattle.vector_decoder.proofs.row.Goals as goal

pub returns-in-0 : goal.returns-in-0
unfolding row_of op_at
returns-in-0 c w = simp c.in-0.is

pub returns-in-2 : goal.returns-in-2
unfolding row_of op_at
returns-in-2 c w = simp c.in-2.is

pub returns-in-3 : goal.returns-in-3
unfolding row_of op_at
returns-in-3 c w = simp c.in-3.is

pub returns-in-4 : goal.returns-in-4
unfolding row_of op_at
returns-in-4 c w = simp c.in-4.is

pub returns-in-5 : goal.returns-in-5
unfolding row_of op_at
returns-in-5 c w = simp c.in-5.is

pub returns-in-6 : goal.returns-in-6
unfolding row_of op_at
returns-in-6 c w = simp c.in-6.is

pub returns-in-7 : goal.returns-in-7
unfolding row_of op_at
returns-in-7 c w = simp c.in-7.is

pub returns-in-9 : goal.returns-in-9
unfolding row_of op_at
returns-in-9 c w = simp c.in-9.is

pub returns-in-10 : goal.returns-in-10
unfolding row_of op_at
returns-in-10 c w = simp c.in-10.is

pub returns-in-11 : goal.returns-in-11
unfolding row_of op_at
returns-in-11 c w = simp c.in-11.is

pub returns-in-37 : goal.returns-in-37
unfolding row_of op_at
returns-in-37 c w = simp c.in-37.is

pub returns-in-40 : goal.returns-in-40
unfolding row_of op_at
returns-in-40 c w = simp c.in-40.is

pub returns-in-41 : goal.returns-in-41
unfolding row_of op_at
returns-in-41 c w = simp c.in-41.is

pub returns-in-24 : goal.returns-in-24
unfolding row_of op_at
returns-in-24 c w = simp c.in-24.is

pub returns-in-25 : goal.returns-in-25
unfolding row_of op_at
returns-in-25 c w = simp c.in-25.is

pub returns-in-26 : goal.returns-in-26
unfolding row_of op_at
returns-in-26 c w = simp c.in-26.is

pub returns-in-27 : goal.returns-in-27
unfolding row_of op_at
returns-in-27 c w = simp c.in-27.is

pub returns-in-28 : goal.returns-in-28
unfolding row_of op_at
returns-in-28 c w = simp c.in-28.is

pub returns-in-29 : goal.returns-in-29
unfolding row_of op_at
returns-in-29 c w = simp c.in-29.is

pub returns-in-30 : goal.returns-in-30
unfolding row_of op_at
returns-in-30 c w = simp c.in-30.is

pub returns-in-31 : goal.returns-in-31
unfolding row_of op_at
returns-in-31 c w = simp c.in-31.is

pub returns-in_default : goal.returns-in_default
unfolding row_of op_at
returns-in_default c w = past (λ f. lane_op_word f.op (fields_of w)) Refused _ vector_table [] c.in_default.in_default-own.rest
