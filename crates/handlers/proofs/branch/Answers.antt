use Prim.Native.Nat.{ℕ}
use Rattle.definition.specs.Exec.{effect_of, goes}
use Rattle.definition.specs.Refuse.{astray, refusals_of}
use Rattle.handlers.proofs.Laws.{astray_not, astray_so, both_so, first_not, moved, refused, row_holds, row_silent, second_not}
use Rattle.handlers.specs.Handles.{lists}
use Rattle.isa.specs.Fields.{fields_of, imm_b}
use Rattle.isa.specs.Wide.{xs1_in, xs2_in}
use Rattle.isa.specs.Kinds.{cond_of}
use Rattle.isa.specs.declared.Instr.TheVariants as I
use Rattle.running.proofs.Goes.{go_goes, next_goes}
use Rattle.layout.specs.Words.{pc_in, warp_of}
use Rattle.warp.specs.Warp.{next, with_pc}
use Rattle.word.specs.Word.{add_of, extend_of, holds_of}
use lib.ListN.{get_or}
use mathlib.Core.Bool.{false, true}
use mathlib.Core.Path.{◌∙◌, ◌≡◌, ap, refl, sym}
use native.Mathlib.Omega.{arith}
use Rattle.handlers.proofs.branch.Goals as goal

pub returns-then-not-holds : goal.returns-then-not-holds
unfolding effect_of refusals_of warp_of
returns-then-not-holds c = let a = c.args in let f = fields_of a.w in let q : c.holds.result ≡ (holds_of (cond_of f) (get_or a.x.now (xs1_in a.w).0 0) (get_or a.x.now (xs2_in a.w).0 0)) = (c.holds.ensures ∙ rw (c.cond.ensures, c.first.ensures, c.second.ensures)) in let t : (holds_of (cond_of f) (get_or a.x.now (xs1_in a.w).0 0) (get_or a.x.now (xs2_in a.w).0 0)) ≡ false = sym q ∙ c.if-not-holds.true in λ g s v d n. moved (I.Branch (cond_of f) (xs1_in a.w) (xs2_in a.w) (imm_b f)) next g a.h.now a.x.now s v d _ a.x.now s (next_goes g a.h.now a.x.now s c.requires n _ a.x.now next c.next.ensures refl) (row_silent 8 _ (first_not (holds_of (cond_of f) (get_or a.x.now (xs1_in a.w).0 0) (get_or a.x.now (xs2_in a.w).0 0)) (astray (add_of (pc_in a.h.now) (extend_of 13 (imm_b f)))) t)) (rw t)

pub returns-then-p-ne0 : goal.returns-then-p-ne0
unfolding effect_of refusals_of warp_of
returns-then-p-ne0 c = let a = c.args in let f = fields_of a.w in let q : c.holds.result ≡ (holds_of (cond_of f) (get_or a.x.now (xs1_in a.w).0 0) (get_or a.x.now (xs2_in a.w).0 0)) = (c.holds.ensures ∙ rw (c.cond.ensures, c.first.ensures, c.second.ensures)) in let t : (holds_of (cond_of f) (get_or a.x.now (xs1_in a.w).0 0) (get_or a.x.now (xs2_in a.w).0 0)) ≡ true = sym q ∙ c.if-not-holds.false in λ g s v d n. refused (I.Branch (cond_of f) (xs1_in a.w) (xs2_in a.w) (imm_b f)) 8 (lists g a.h.now a.x.now s v d) (λ z. omega arith) c.requires n (row_holds 8 _ (both_so (holds_of (cond_of f) (get_or a.x.now (xs1_in a.w).0 0) (get_or a.x.now (xs2_in a.w).0 0)) (astray (add_of (pc_in a.h.now) (extend_of 13 (imm_b f)))) t (astray_so (add_of (pc_in a.h.now) (extend_of 13 (imm_b f))) _ (c.offset-p.ensures ∙ ap (λ (z : ℕ). add_of (pc_in a.h.now) (extend_of 13 z)) c.imm_b.ensures.0) c.if-p-ne0.true)))

pub returns : goal.returns
unfolding effect_of refusals_of warp_of
returns c = let a = c.args in let f = fields_of a.w in let q : c.holds.result ≡ (holds_of (cond_of f) (get_or a.x.now (xs1_in a.w).0 0) (get_or a.x.now (xs2_in a.w).0 0)) = (c.holds.ensures ∙ rw (c.cond.ensures, c.first.ensures, c.second.ensures)) in let t : (holds_of (cond_of f) (get_or a.x.now (xs1_in a.w).0 0) (get_or a.x.now (xs2_in a.w).0 0)) ≡ true = sym q ∙ c.if-not-holds.false in λ g s v d n. moved (I.Branch (cond_of f) (xs1_in a.w) (xs2_in a.w) (imm_b f)) (with_pc c.offset-p.result) g a.h.now a.x.now s v d _ a.x.now s (go_goes g a.h.now a.x.now s c.requires n _ a.x.now (with_pc c.offset-p.result) _ c.go_to.ensures refl) (row_silent 8 _ (second_not (holds_of (cond_of f) (get_or a.x.now (xs1_in a.w).0 0) (get_or a.x.now (xs2_in a.w).0 0)) (astray (add_of (pc_in a.h.now) (extend_of 13 (imm_b f)))) (astray_not (add_of (pc_in a.h.now) (extend_of 13 (imm_b f))) _ (c.offset-p.ensures ∙ ap (λ (z : ℕ). add_of (pc_in a.h.now) (extend_of 13 z)) c.imm_b.ensures.0) c.if-p-ne0.false))) (rw t (ap (λ (p : ℕ). goes (with_pc p (warp_of g a.h.now a.x.now s))) (sym (c.offset-p.ensures ∙ ap (λ (z : ℕ). add_of (pc_in a.h.now) (extend_of 13 z)) c.imm_b.ensures.0))))
