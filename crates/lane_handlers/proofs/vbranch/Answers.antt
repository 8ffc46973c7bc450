use Prim.Native.Nat.{ℕ}
use Rattle.definition.specs.Exec.{effect_of, goes}
use Rattle.definition.specs.Refuse.{refusals_of}
use Rattle.handlers.proofs.Laws.{moved, refused, row_holds, row_silent}
use Rattle.lane_handlers.proofs.Laws.{lanes_fit, split_test}
use Rattle.handlers.specs.Handles.{lists}
use Rattle.isa.specs.Fields.{fields_of, imm_b}
use Rattle.isa.specs.Wide.{vs1_in, vs2_in}
use Rattle.isa.specs.Kinds.{cond_of}
use Rattle.isa.specs.declared.Instr.TheVariants as I
use Rattle.lanes.specs.Lanes.{mask_of, wants_of}
use Rattle.lanes.proofs.MaskLaws.{part_in}
use Rattle.layout.specs.Words.{fixed_in, mask_in, pc_in, warp_of}
use Rattle.warp.specs.Splits.{parted}
use Rattle.word.specs.Word.{add_of, extend_of}
use mathlib.Core.Bool.{false, true}
use mathlib.Core.Path.{◌∙◌, ap, ap₂, sym}
use native.Mathlib.Omega.{arith}
use Rattle.lane_handlers.proofs.vbranch.Goals as goal

pub returns-then-e-p : goal.returns-then-e-p
unfolding warp_of effect_of refusals_of
returns-then-e-p c = let a = c.args in let f = fields_of a.w in λ x d. refused (I.VBranch (cond_of f) (vs1_in a.w) (vs2_in a.w) (imm_b f)) 8 (lists a.g.now a.h.now x a.s.now a.v.now d) (λ z. omega arith) c.requires.0.long c.requires.1 (row_holds 8 _ (split_test _ (mask_of (fixed_in a.g.now).numt (wants_of a.v.now (mask_in a.h.now) (cond_of f) (vs1_in a.w) (vs2_in a.w))) _ (add_of (pc_in a.h.now) (extend_of 13 (imm_b f))) true (c.else_mask-e.ensures ∙ rw (c.threads.ensures, c.cond.ensures, c.vs1.ensures.0, c.vs2.ensures.0)) (c.offset-p.ensures ∙ ap (λ (z : ℕ). add_of (pc_in a.h.now) (extend_of 13 z)) c.imm_b.ensures.0) c.if-e-p.true))

pub part-requires : goal.part-requires
unfolding warp_of effect_of refusals_of
part-requires c = let a = c.args in (c.requires.0.long, c.requires.1, c.requires.2, rw c.else_mask-e.ensures (part_in (mask_in a.h.now) _ _ (lanes_fit c.requires.0.at c.threads.ensures).1))

pub returns : goal.returns
unfolding warp_of effect_of refusals_of
returns c = let a = c.args in let f = fields_of a.w in λ x d. moved (I.VBranch (cond_of f) (vs1_in a.w) (vs2_in a.w) (imm_b f)) (parted c.else_mask-e.result c.offset-p.result) a.g.now a.h.now x a.s.now a.v.now d _ x _ (c.part.ensures a.g.now x) (row_silent 8 _ (split_test _ (mask_of (fixed_in a.g.now).numt (wants_of a.v.now (mask_in a.h.now) (cond_of f) (vs1_in a.w) (vs2_in a.w))) _ (add_of (pc_in a.h.now) (extend_of 13 (imm_b f))) false (c.else_mask-e.ensures ∙ rw (c.threads.ensures, c.cond.ensures, c.vs1.ensures.0, c.vs2.ensures.0)) (c.offset-p.ensures ∙ ap (λ (z : ℕ). add_of (pc_in a.h.now) (extend_of 13 z)) c.imm_b.ensures.0) c.if-e-p.false)) (ap₂ (λ (e p : ℕ). goes (parted e p (warp_of a.g.now a.h.now x a.s.now))) (sym (c.else_mask-e.ensures ∙ rw (c.threads.ensures, c.cond.ensures, c.vs1.ensures.0, c.vs2.ensures.0))) (sym (c.offset-p.ensures ∙ ap (λ (z : ℕ). add_of (pc_in a.h.now) (extend_of 13 z)) c.imm_b.ensures.0)))
