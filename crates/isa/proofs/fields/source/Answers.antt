use mathlib.Core.Path.{◌∙◌, ap}
use mathlib.Core.List.{[], ◌∷◌}
use Rattle.answer.specs.Rows.{◌⇒◌}
use Rattle.isa.specs.declared.Source.TheVariants as From
use Rattle.isa.specs.Fields.{fields_of}
use Rattle.isa.specs.Vector.{from_v, from_x, from_i}
use Rattle.isa.proofs.Laws.{past}
use Rattle.isa.specs.Kinds.{source_in}
use Rattle.isa.specs.Prefix.{on_source}
use Rattle.isa.specs.Wide.{numbers_in}
use Rattle.isa.proofs.fields.source.Goals as goal

pub returns-in-0 : goal.returns-in-0
unfolding source_in
returns-in-0 c = ap From.V c.vs1.ensures.0 ∙ simp c.in-0.is

pub returns-in-2 : goal.returns-in-2
unfolding source_in
returns-in-2 c = ap From.V c.vs1-in-2.ensures.0 ∙ simp c.in-2.is

pub returns-in-3 : goal.returns-in-3
unfolding source_in
returns-in-3 c = c.immediate.ensures ∙ simp c.in-3.is

pub returns-in_default : goal.returns-in_default
unfolding source_in
returns-in_default c =
    let f = fields_of c.args.w in
    ap From.X c.xs1.ensures.0
    ∙ ap (on_source (numbers_in c.args.w)) (past (λ s. s) (from_x f) _ (0b000 ⇒ from_v f ∷ 0b010 ⇒ from_v f ∷ 0b011 ⇒ from_i f ∷ []) [] c.in_default.in_default-own.rest)
