use Rattle.answer.specs.Rows.{◌⇒◌}
use Rattle.isa.specs.Fields.{fields_of}
use Rattle.isa.specs.Kinds.{source_in}
use Rattle.isa.proofs.Laws.{past}
use Rattle.isa.specs.Vector.{from_i, from_v, from_x}
use Rattle.layout.specs.Words.{warp_of}
use mathlib.Core.List.{[], ◌∷◌}
use mathlib.Core.Path.{◌≡◌, refl, ◌∙◌, sym}
use mathlib.Core.Bool.{Bool, true, false, cond}
use Prim.Native.Nat.{ℕ}
use Rattle.word.specs.Word.{extend_of}
use Rattle.isa.specs.declared.Source.TheVariants as From
use Rattle.isa.specs.Wide.{is_long}
use Rattle.lanes.specs.declared.Operand.TheVariants.{Word}
use Rattle.definition.specs.State.{State, state}
use Rattle.definition.specs.Exec.{source_of}
use Rattle.lane_handlers.proofs.operand.Goals as goal

immediate_operand : (f : ℕ → ℕ → ℕ) (b : Bool) (n i : ℕ) (m : State) → Word (cond b (f 11 n) (f 5 i)) ≡ source_of f (cond b (From.Long n) (From.I i)) m
immediate_operand f true n i m = refl
immediate_operand f false n i m = refl

pub returns-in-0 : goal.returns-in-0
unfolding source_in warp_of
returns-in-0 c = (c.vs1.ensures.1, λ g h s v d. rw c.vs1.ensures.0 (simp (sym c.funct3-funct3.ensures.0 ∙ c.in-0.is)))

pub returns-in-2 : goal.returns-in-2
unfolding source_in warp_of
returns-in-2 c = (c.vs1-in-2.ensures.1, λ g h s v d. rw c.vs1-in-2.ensures.0 (simp (sym c.funct3-funct3.ensures.0 ∙ c.in-2.is)))

pub returns-in-3 : goal.returns-in-3
unfolding source_in warp_of
returns-in-3 c = let a = c.args in (tt, λ g h s v d. rw c.vi_immediate.ensures (simp (sym c.funct3-funct3.ensures.0 ∙ c.in-3.is) (immediate_operand extend_of (is_long a.w) _ _ (state (warp_of g h a.x.now s) v d))))

pub returns-in_default : goal.returns-in_default
unfolding source_in warp_of
returns-in_default c = let a = c.args in let f = fields_of a.w in (tt, λ g h s v d. rw (c.first.ensures, ← c.funct3-funct3.ensures.0, ← past (λ a. a) (from_x f) _ (0b000 ⇒ from_v f ∷ 0b010 ⇒ from_v f ∷ 0b011 ⇒ from_i f ∷ []) [] c.in_default.in_default-own.rest))
