use mathlib.Core.Path.{◌∙◌}
use mathlib.Core.List.{[], ◌∷◌}
use native.Mathlib.Omega.{arith}
use Rattle.isa.specs.Fields.{fields_of, funct6}
use Rattle.isa.specs.Vector.{vector_table, moves, from_x, plain_word}
use Rattle.isa.specs.Kinds.{source_in, row_of}
use Rattle.isa.proofs.Forms.{form_in}
use Rattle.vector_decoder.proofs.plain_vx.Goals as goal

pub returns-in-23 : goal.returns-in-23
unfolding row_of plain_word source_in
returns-in-23 c = c.move_or_merge.ensures ∙ simp (c.in-23.is, c.requires)

pub returns-in_default : goal.returns-in_default
unfolding row_of plain_word source_in
returns-in_default c =
    let f = fields_of c.args.w in
    c.row.ensures c.args.w
    ∙ form_in f (funct6 f) (from_x f) (simp c.requires) (moves (from_x f)) c.in_default.in_default-own.rest
    vector_table (23 ∷ []) 0 64 (omega arith) (omega arith) c.in_default.in_default-own.rest tt
