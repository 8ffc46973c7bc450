use mathlib.Core.Path.{◌∙◌}
use mathlib.Core.List.{[], ◌∷◌}
use native.Mathlib.Omega.{arith}
use Rattle.isa.specs.Fields.{fields_of, funct6}
use Rattle.isa.specs.Vector.{vector_table, moves, from_i, plain_word}
use Rattle.isa.specs.Kinds.{source_in, row_of}
use Rattle.isa.proofs.Forms.{form_in}
use Rattle.vector_decoder.proofs.plain_vi.Goals as goal

pub returns-in-23 : goal.returns-in-23
unfolding row_of plain_word source_in
returns-in-23 c = c.move_or_merge.ensures ∙ simp (c.in-23.is, c.requires)

pub returns-in-2 : goal.returns-in-2
unfolding row_of plain_word source_in
returns-in-2 c = simp c.in-2.is

pub returns-in-4 : goal.returns-in-4
unfolding row_of plain_word source_in
returns-in-4 c = simp c.in-4.is

pub returns-in-5 : goal.returns-in-5
unfolding row_of plain_word source_in
returns-in-5 c = simp c.in-5.is

pub returns-in-6 : goal.returns-in-6
unfolding row_of plain_word source_in
returns-in-6 c = simp c.in-6.is

pub returns-in-7 : goal.returns-in-7
unfolding row_of plain_word source_in
returns-in-7 c = simp c.in-7.is

pub returns-in-26 : goal.returns-in-26
unfolding row_of plain_word source_in
returns-in-26 c = simp c.in-26.is

pub returns-in-27 : goal.returns-in-27
unfolding row_of plain_word source_in
returns-in-27 c = simp c.in-27.is

pub returns-in_default : goal.returns-in_default
unfolding row_of plain_word source_in
returns-in_default c =
    let f = fields_of c.args.w in
    let e = c.in_default.in_default-own.rest in
    c.row.ensures c.args.w
    ∙ form_in f (funct6 f) (from_i f) (simp c.requires) (moves (from_i f)) e.0.0.0.0.0.0.0
    vector_table (23 ∷ 2 ∷ 4 ∷ 5 ∷ 6 ∷ 7 ∷ 26 ∷ 27 ∷ []) 0 64 (omega arith) (omega arith) e tt
