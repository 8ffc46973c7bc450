use mathlib.Core.Path.{◌∙◌}
use mathlib.Core.List.{[], ◌∷◌}
use native.Mathlib.Omega.{arith}
use Rattle.isa.specs.Fields.{fields_of, funct6}
use Rattle.isa.specs.Vector.{multiply_table, moves_m, from_v, multiply_word}
use Rattle.isa.specs.Kinds.{source_in, row_of}
use Rattle.isa.proofs.Forms.{form_in}
use Rattle.vector_decoder.proofs.multiply_vv.Goals as goal

pub returns-in-16 : goal.returns-in-16
unfolding row_of multiply_word source_in
returns-in-16 c = c.fixed-in-16.ensures c.args.w ∙ rw (c.fixed.ensures c.args.w) (simp c.in-16.is)

pub returns-in-20 : goal.returns-in-20
unfolding row_of multiply_word source_in
returns-in-20 c = c.fixed-in-20-2.ensures c.args.w ∙ rw (c.fixed-in-20.ensures c.args.w) (simp c.in-20.is)

pub returns-in_default : goal.returns-in_default
unfolding row_of multiply_word source_in
returns-in_default c =
    let f = fields_of c.args.w in
    c.multiply_row.ensures c.args.w
    ∙ form_in f (funct6 f) (from_v f) (simp c.requires) (moves_m (from_v f)) c.in_default.in_default-own.rest
    multiply_table (16 ∷ 20 ∷ []) 0 64 (omega arith) (omega arith) c.in_default.in_default-own.rest tt
