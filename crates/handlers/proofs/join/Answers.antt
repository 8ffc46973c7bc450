use Rattle.definition.specs.Exec.{effect_of}
use Rattle.definition.specs.Refuse.{refusals_of}
use Rattle.handlers.proofs.Laws.{moved}
use Rattle.isa.specs.declared.Instr.TheVariants as I
use Rattle.warp.specs.Splits.{join_of}
use mathlib.Core.Path.{refl}
use Rattle.handlers.proofs.join.Goals as goal

pub returns : goal.returns
unfolding effect_of refusals_of
returns c = let a = c.args in λ g x v d. moved I.Join join_of g a.h.now x a.s.now v d _ x _ (c.join.ensures g x) refl refl
