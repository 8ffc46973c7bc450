use Rattle.definition.specs.Refuse.{refusals_of}
use Rattle.scalar_ops.proofs.Laws.{imm_arm}
use Rattle.handlers.proofs.Laws.{refused, told}
use Rattle.handlers.specs.Handles.{lists}
use Rattle.isa.specs.Fields.{fields_of, imm_i}
use Rattle.isa.specs.Prefix.{on_fields}
use Rattle.isa.specs.Wide.{numbers_in}
use Rattle.isa.specs.Kinds.{of_immediates, row_of}
use Rattle.isa.proofs.Laws.{past}
use Rattle.isa.specs.Table.{on}
use Rattle.isa.specs.declared.Instr.TheVariants as I
use Rattle.isa.specs.declared.Instr.TheVariants.{Refused}
use Rattle.word.specs.Word.{apply_of}
use Rattle.word.specs.declared.Op.TheVariants as O
use mathlib.Core.List.{[]}
use mathlib.Core.Path.{◌∙◌, ap, ap₂, refl, sym}
use native.Mathlib.Omega.{arith}
use Rattle.scalar_ops.proofs.op_imm.Goals as goal

pub returns-in-34 : goal.returns-in-34
unfolding row_of refusals_of
returns-in-34 c = let a = c.args in let f = fields_of a.w in imm_arm a.kind a.w O.Add (imm_i f) _ a.h.now a.x.now _ _ (rw c.in-34.is) (c.add.ensures ∙ ap₂ (apply_of O.Add) c.first.ensures c.immediate.ensures) c.gives.ensures

pub returns-in-35 : goal.returns-in-35
unfolding row_of refusals_of
returns-in-35 c = let a = c.args in let f = fields_of a.w in imm_arm a.kind a.w O.Sll f.rs2 _ a.h.now a.x.now _ _ (rw c.in-35.is) (c.sll.ensures ∙ ap₂ (apply_of O.Sll) c.first-in-35.ensures c.amount.ensures) c.gives-in-35.ensures

pub returns-in-36 : goal.returns-in-36
unfolding row_of refusals_of
returns-in-36 c = let a = c.args in let f = fields_of a.w in imm_arm a.kind a.w O.Srl f.rs2 _ a.h.now a.x.now _ _ (rw c.in-36.is) (c.srl.ensures ∙ ap₂ (apply_of O.Srl) c.first-in-36.ensures c.amount-in-36.ensures) c.gives-in-36.ensures

pub returns-in-37 : goal.returns-in-37
unfolding row_of refusals_of
returns-in-37 c = let a = c.args in let f = fields_of a.w in imm_arm a.kind a.w O.Sra f.rs2 _ a.h.now a.x.now _ _ (rw c.in-37.is) (c.sra.ensures ∙ ap₂ (apply_of O.Sra) c.first-in-37.ensures c.amount-in-37.ensures) c.gives-in-37.ensures

pub returns-in-38 : goal.returns-in-38
unfolding row_of refusals_of
returns-in-38 c = let a = c.args in let f = fields_of a.w in imm_arm a.kind a.w O.Slt (imm_i f) _ a.h.now a.x.now _ _ (rw c.in-38.is) (c.slt.ensures ∙ ap₂ (apply_of O.Slt) c.first-in-38.ensures c.immediate-in-38.ensures) c.gives-in-38.ensures

pub returns-in-39 : goal.returns-in-39
unfolding row_of refusals_of
returns-in-39 c = let a = c.args in let f = fields_of a.w in imm_arm a.kind a.w O.Sltu (imm_i f) _ a.h.now a.x.now _ _ (rw c.in-39.is) (c.sltu.ensures ∙ ap₂ (apply_of O.Sltu) c.first-in-39.ensures c.immediate-in-39.ensures) c.gives-in-39.ensures

pub returns-in-40 : goal.returns-in-40
unfolding row_of refusals_of
returns-in-40 c = let a = c.args in let f = fields_of a.w in imm_arm a.kind a.w O.And (imm_i f) _ a.h.now a.x.now _ _ (rw c.in-40.is) (ap₂ (apply_of O.And) c.first-in-40.ensures c.immediate-in-40.ensures) c.gives-in-40.ensures

pub returns-in-41 : goal.returns-in-41
unfolding row_of refusals_of
returns-in-41 c = let a = c.args in let f = fields_of a.w in imm_arm a.kind a.w O.Or (imm_i f) _ a.h.now a.x.now _ _ (rw c.in-41.is) (ap₂ (apply_of O.Or) c.first-in-41.ensures c.immediate-in-41.ensures) c.gives-in-41.ensures

pub returns-in-42 : goal.returns-in-42
unfolding row_of refusals_of
returns-in-42 c = let a = c.args in let f = fields_of a.w in imm_arm a.kind a.w O.Xor (imm_i f) _ a.h.now a.x.now _ _ (rw c.in-42.is) (ap₂ (apply_of O.Xor) c.first-in-42.ensures c.immediate-in-42.ensures) c.gives-in-42.ensures

pub returns-in_default : goal.returns-in_default
unfolding row_of refusals_of
returns-in_default c = let a = c.args in let f = fields_of a.w in λ g s v d n. told (ap (on_fields (numbers_in a.w)) (c.requires.1 ∙ sym (past (on f) Refused _ of_immediates [] c.in_default.in_default-own.rest))) (refused I.Refused 6 (lists g a.h.now a.x.now s v d) (λ z. omega arith) c.requires.0 n refl)
