use Prim.Native.Nat.{ℕ}
use Rattle.definition.specs.Exec.{effect_of, goes}
use Rattle.definition.specs.Refuse.{astray, refusals_of}
use Rattle.definition.specs.State.{even_of}
use Rattle.handlers.proofs.Laws.{astray_not, astray_so, moved, refused, row_holds, row_silent}
use Rattle.handlers.specs.Handles.{lists}
use Rattle.isa.specs.Fields.{fields_of, imm_i}
use Rattle.isa.specs.Wide.{xd_in, xs1_in}
use Rattle.isa.specs.declared.Instr.TheVariants as I
use Rattle.memory.specs.Address.{plain_of}
use Rattle.layout.specs.Words.{warp_of}
use Rattle.warp.specs.Warp.{linked}
use lib.ListN.{get_or}
use mathlib.Core.Path.{◌∙◌, ap, ap₂, sym}
use native.Mathlib.Omega.{arith}
use Rattle.handlers.proofs.jalr.Goals as goal

pub returns-then-p-ne0 : goal.returns-then-p-ne0
unfolding effect_of refusals_of warp_of
returns-then-p-ne0 c = let a = c.args in let f = fields_of a.w in λ g s v d n. refused (I.Jalr (xd_in a.w) (xs1_in a.w) (imm_i f)) 8 (lists g a.h.now a.x.now s v d) (λ z. omega arith) c.requires n (row_holds 8 (astray (even_of (plain_of (get_or a.x.now (xs1_in a.w).0 0) (imm_i f)))) (astray_so (even_of (plain_of (get_or a.x.now (xs1_in a.w).0 0) (imm_i f))) _ (ap even_of (c.plain_address-a.ensures ∙ ap₂ plain_of c.first.ensures c.imm_i.ensures.0)) c.if-p-ne0.true))

pub returns : goal.returns
unfolding effect_of refusals_of warp_of
returns c = let a = c.args in let f = fields_of a.w in λ g s v d n. moved (I.Jalr (xd_in a.w) (xs1_in a.w) (imm_i f)) (linked c.xd.result (even_of c.plain_address-a.result)) g a.h.now a.x.now s v d _ _ s (c.link.ensures g s n) (row_silent 8 (astray (even_of (plain_of (get_or a.x.now (xs1_in a.w).0 0) (imm_i f)))) (astray_not (even_of (plain_of (get_or a.x.now (xs1_in a.w).0 0) (imm_i f))) _ (ap even_of (c.plain_address-a.ensures ∙ ap₂ plain_of c.first.ensures c.imm_i.ensures.0)) c.if-p-ne0.false)) (rw c.xd.ensures.0 (ap (λ (p : ℕ). goes (linked (xd_in a.w) p (warp_of g a.h.now a.x.now s))) (sym (ap even_of (c.plain_address-a.ensures ∙ ap₂ plain_of c.first.ensures c.imm_i.ensures.0)))))
