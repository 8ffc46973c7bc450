use mathlib.Core.Path.{◌∙◌}
use mathlib.Core.List.{[], ◌∷◌}
use native.Mathlib.Omega.{arith}
use Rattle.isa.specs.Fields.{fields_of, funct6}
use Rattle.isa.specs.Vector.{vector_table, moves, from_v, plain_word}
use Rattle.isa.specs.Kinds.{source_in, row_of}
use Rattle.isa.proofs.Forms.{form_in}
use Rattle.vector_decoder.proofs.plain_vv.Goals as goal

pub returns-in-23 : goal.returns-in-23
unfolding row_of plain_word source_in
returns-in-23 c = c.move_or_merge.ensures ∙ simp (c.in-23.is, c.requires)

pub returns-in-3 : goal.returns-in-3
unfolding row_of plain_word source_in
returns-in-3 c = simp c.in-3.is

pub returns-in-30 : goal.returns-in-30
unfolding row_of plain_word source_in
returns-in-30 c = simp c.in-30.is

pub returns-in-31 : goal.returns-in-31
unfolding row_of plain_word source_in
returns-in-31 c = simp c.in-31.is

pub returns-in_default : goal.returns-in_default
unfolding row_of plain_word source_in
returns-in_default c =
    let f = fields_of c.args.w in
    let e = c.in_default.in_default-own.rest in
    c.row.ensures c.args.w
    ∙ form_in f (funct6 f) (from_v f) (simp c.requires) (moves (from_v f)) e.0.0.0
    vector_table (23 ∷ 3 ∷ 30 ∷ 31 ∷ []) 0 64 (omega arith) (omega arith) e tt
