use Prim.Native.Nat.{ℕ}
use mathlib.Core.Path.{sym, ap, ◌∙◌}
use mathlib.Core.List.{[]}
use Rattle.isa.specs.declared.Instr.TheVariants.{Refused}
use Rattle.isa.specs.Fields.{fields_of}
use Rattle.isa.specs.Table.{on, word_at}
use Rattle.isa.specs.Vector.{operands, vector_word}
use Rattle.isa.specs.Kinds.{row_of}
use Rattle.isa.proofs.Laws.{past}
use Rattle.vector_decoder.proofs.vector.Goals as goal

pub returns-in-0 : goal.returns-in-0
unfolding row_of vector_word
returns-in-0 c = c.plain_vv.ensures ∙ simp (c.requires ∙ c.in-0.is)

pub returns-in-3 : goal.returns-in-3
unfolding row_of vector_word
returns-in-3 c = c.plain_vi.ensures ∙ simp (c.requires ∙ c.in-3.is)

pub returns-in-4 : goal.returns-in-4
unfolding row_of vector_word
returns-in-4 c = c.plain_vx.ensures ∙ simp (c.requires ∙ c.in-4.is)

pub returns-in-2 : goal.returns-in-2
unfolding row_of vector_word
returns-in-2 c = c.multiply_vv.ensures ∙ simp (c.requires ∙ c.in-2.is)

pub returns-in-6 : goal.returns-in-6
unfolding row_of vector_word
returns-in-6 c = c.multiply_vx.ensures ∙ simp (c.requires ∙ c.in-6.is)

pub returns-in_default : goal.returns-in_default
unfolding row_of vector_word
returns-in_default c =
    let f = fields_of c.args.w in
    past (on f) Refused _ operands [] c.in_default.in_default-own.rest ∙ ap (λ (n : ℕ). word_at f n operands) (sym c.requires)
