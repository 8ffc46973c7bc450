use Rattle.definition.specs.Exec.{effect_of}
use Rattle.definition.specs.Refuse.{refusals_of}
use Rattle.handlers.proofs.Laws.{moved, refused, row_fails, row_passes}
use Rattle.handlers.specs.Handles.{lists}
use Rattle.isa.specs.Fields.{fields_of}
use Rattle.isa.specs.declared.Instr.TheVariants as I
use Rattle.running.proofs.Goes.{goes_then, next_goes, stop_goes}
use Rattle.layout.specs.Words.{ended_at, waiting_at, warp_of}
use Rattle.warp.specs.Warp.{next, with_stop}
use borrow.Author.Tests.{eq-eqb, ne_eqb}
use lib.ListN.{set}
use mathlib.Core.Bool.{false, true}
use mathlib.Core.Path.{refl}
use native.Mathlib.Omega.{arith}
use Rattle.handlers.proofs.barrier.Goals as goal

pub returns-then-h-ne0 : goal.returns-then-h-ne0
unfolding warp_of refusals_of effect_of
returns-then-h-ne0 c = let a = c.args in let f = fields_of a.w in λ g x s v d n. refused (I.Barrier f.rs1) 11 (lists g a.h.now x s v d) (λ z. omega arith) c.requires n (row_fails 11 _ (ne_eqb _ _ c.if-h-ne0.true))

pub returns : goal.returns
unfolding warp_of refusals_of effect_of
returns c = let a = c.args in let f = fields_of a.w in λ g x s v d n. let h₁ = set (set a.h.now ended_at 0) waiting_at 1 in let st = stop_goes g a.h.now x s c.requires n h₁ x false true refl in moved (I.Barrier f.rs1) (λ u. next (with_stop false true u)) g a.h.now x s v d _ x s (goes_then (with_stop false true) next g a.h.now x s h₁ x s _ x s st (next_goes g h₁ x s st.long n _ x next c.next.ensures refl)) (row_passes 11 _ (eq-eqb _ _ c.if-h-ne0.false)) refl
