use mathlib.Core.List.{[]}
use Rattle.isa.specs.declared.Instr.TheVariants.{Refused}
use Rattle.isa.specs.Fields.{fields_of}
use Rattle.isa.specs.Vector.{multiply_table}
use Rattle.isa.specs.Number.{op_at}
use Rattle.isa.specs.Kinds.{lane_op_word, row_of}
use Rattle.isa.proofs.Laws.{past}
use Rattle.vector_decoder.proofs.multiply_row.Goals as goal

pub returns-in-36 : goal.returns-in-36
unfolding row_of op_at
returns-in-36 c w = simp c.in-36.is

pub returns-in-37 : goal.returns-in-37
unfolding row_of op_at
returns-in-37 c w = simp c.in-37.is

pub returns-in-38 : goal.returns-in-38
unfolding row_of op_at
returns-in-38 c w = simp c.in-38.is

pub returns-in-39 : goal.returns-in-39
unfolding row_of op_at
returns-in-39 c w = simp c.in-39.is

pub returns-in-32 : goal.returns-in-32
unfolding row_of op_at
returns-in-32 c w = simp c.in-32.is

pub returns-in-33 : goal.returns-in-33
unfolding row_of op_at
returns-in-33 c w = simp c.in-33.is

pub returns-in-34 : goal.returns-in-34
unfolding row_of op_at
returns-in-34 c w = simp c.in-34.is

pub returns-in-35 : goal.returns-in-35
unfolding row_of op_at
returns-in-35 c w = simp c.in-35.is

pub returns-in_default : goal.returns-in_default
unfolding row_of op_at
returns-in_default c w = past (λ f. lane_op_word f.op (fields_of w)) Refused _ multiply_table [] c.in_default.in_default-own.rest
