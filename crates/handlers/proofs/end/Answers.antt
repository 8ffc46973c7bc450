use Rattle.definition.specs.Exec.{effect_of}
use Rattle.definition.specs.Refuse.{refusals_of}
use Rattle.handlers.proofs.Laws.{moved, refused, row_fails, row_passes}
use Rattle.handlers.specs.Handles.{lists}
use Rattle.isa.specs.declared.Instr.TheVariants as I
use Rattle.running.proofs.Goes.{stop_goes}
use Rattle.layout.specs.Words.{warp_of}
use Rattle.warp.specs.Warp.{with_stop}
use borrow.Author.Tests.{eq-eqb, ne_eqb}
use mathlib.Core.Bool.{false, true}
use mathlib.Core.Path.{refl}
use native.Mathlib.Omega.{arith}
use Rattle.handlers.proofs.end.Goals as goal

pub returns-then-h-ne0 : goal.returns-then-h-ne0
unfolding warp_of refusals_of effect_of
returns-then-h-ne0 c = let a = c.args in λ g x s v d n. refused I.EndPrg 11 (lists g a.h.now x s v d) (λ z. omega arith) c.requires n (row_fails 11 _ (ne_eqb _ _ c.if-h-ne0.true))

pub returns : goal.returns
unfolding warp_of refusals_of effect_of
returns c = let a = c.args in λ g x s v d n. moved I.EndPrg (with_stop true false) g a.h.now x s v d _ x s (stop_goes g a.h.now x s c.requires n _ x true false refl) (row_passes 11 _ (eq-eqb _ _ c.if-h-ne0.false)) refl
