use Prim.Native.Nat.{ℕ}
use Rattle.definition.specs.Exec.{effect_of, goes}
use Rattle.definition.specs.Refuse.{astray, refusals_of}
use Rattle.handlers.proofs.Laws.{astray_not, astray_so, moved, refused, row_holds, row_silent}
use Rattle.handlers.specs.Handles.{lists}
use Rattle.isa.specs.Fields.{fields_of, imm_j}
use Rattle.isa.specs.Wide.{xd_in}
use Rattle.isa.specs.declared.Instr.TheVariants as I
use Rattle.layout.specs.Words.{pc_in, warp_of}
use Rattle.warp.specs.Warp.{linked}
use Rattle.word.specs.Word.{add_of, extend_of}
use mathlib.Core.Path.{◌∙◌, ap, sym}
use native.Mathlib.Omega.{arith}
use Rattle.handlers.proofs.jal.Goals as goal

pub returns-then-p-ne0 : goal.returns-then-p-ne0
unfolding effect_of refusals_of warp_of
returns-then-p-ne0 c = let a = c.args in let f = fields_of a.w in λ g s v d n. refused (I.Jal (xd_in a.w) (imm_j f)) 8 (lists g a.h.now a.x.now s v d) (λ z. omega arith) c.requires n (row_holds 8 (astray (add_of (pc_in a.h.now) (extend_of 21 (imm_j f)))) (astray_so (add_of (pc_in a.h.now) (extend_of 21 (imm_j f))) _ (c.offset-p.ensures ∙ ap (λ (z : ℕ). add_of (pc_in a.h.now) (extend_of 21 z)) c.imm_j.ensures.0) c.if-p-ne0.true))

pub returns : goal.returns
unfolding effect_of refusals_of warp_of
returns c = let a = c.args in let f = fields_of a.w in λ g s v d n. moved (I.Jal (xd_in a.w) (imm_j f)) (linked c.xd.result c.offset-p.result) g a.h.now a.x.now s v d _ _ s (c.link.ensures g s n) (row_silent 8 (astray (add_of (pc_in a.h.now) (extend_of 21 (imm_j f)))) (astray_not (add_of (pc_in a.h.now) (extend_of 21 (imm_j f))) _ (c.offset-p.ensures ∙ ap (λ (z : ℕ). add_of (pc_in a.h.now) (extend_of 21 z)) c.imm_j.ensures.0) c.if-p-ne0.false)) (rw c.xd.ensures.0 (ap (λ (p : ℕ). goes (linked (xd_in a.w) p (warp_of g a.h.now a.x.now s))) (sym (c.offset-p.ensures ∙ ap (λ (z : ℕ). add_of (pc_in a.h.now) (extend_of 21 z)) c.imm_j.ensures.0))))
