use Rattle.definition.specs.Refuse.{refusals_of}
use Rattle.scalar_ops.proofs.Laws.{reg_arm}
use Rattle.isa.specs.Kinds.{row_of}
use Rattle.word.specs.Word.{apply_of}
use Rattle.word.specs.declared.Op.TheVariants as O
use mathlib.Core.Path.{◌∙◌, ap₂}
use Rattle.scalar_ops.proofs.op_reg.Goals as goal

pub returns-in-16 : goal.returns-in-16
unfolding row_of refusals_of
returns-in-16 c = let a = c.args in reg_arm a.kind a.w O.Add _ a.h.now a.x.now _ _ (rw c.in-16.is) (c.add.ensures ∙ ap₂ (apply_of O.Add) c.first.ensures c.second.ensures) c.gives.ensures

pub returns-in-17 : goal.returns-in-17
unfolding row_of refusals_of
returns-in-17 c = let a = c.args in reg_arm a.kind a.w O.Sub _ a.h.now a.x.now _ _ (rw c.in-17.is) (c.sub.ensures ∙ ap₂ (apply_of O.Sub) c.first-in-17.ensures c.second-in-17.ensures) c.gives-in-17.ensures

pub returns-in-18 : goal.returns-in-18
unfolding row_of refusals_of
returns-in-18 c = let a = c.args in reg_arm a.kind a.w O.Sll _ a.h.now a.x.now _ _ (rw c.in-18.is) (c.sll.ensures ∙ ap₂ (apply_of O.Sll) c.first-in-18.ensures c.second-in-18.ensures) c.gives-in-18.ensures

pub returns-in-19 : goal.returns-in-19
unfolding row_of refusals_of
returns-in-19 c = let a = c.args in reg_arm a.kind a.w O.Srl _ a.h.now a.x.now _ _ (rw c.in-19.is) (c.srl.ensures ∙ ap₂ (apply_of O.Srl) c.first-in-19.ensures c.second-in-19.ensures) c.gives-in-19.ensures

pub returns-in-20 : goal.returns-in-20
unfolding row_of refusals_of
returns-in-20 c = let a = c.args in reg_arm a.kind a.w O.Sra _ a.h.now a.x.now _ _ (rw c.in-20.is) (c.sra.ensures ∙ ap₂ (apply_of O.Sra) c.first-in-20.ensures c.second-in-20.ensures) c.gives-in-20.ensures

pub returns-in-21 : goal.returns-in-21
unfolding row_of refusals_of
returns-in-21 c = let a = c.args in reg_arm a.kind a.w O.Slt _ a.h.now a.x.now _ _ (rw c.in-21.is) (c.slt.ensures ∙ ap₂ (apply_of O.Slt) c.first-in-21.ensures c.second-in-21.ensures) c.gives-in-21.ensures

pub returns-in-22 : goal.returns-in-22
unfolding row_of refusals_of
returns-in-22 c = let a = c.args in reg_arm a.kind a.w O.Sltu _ a.h.now a.x.now _ _ (rw c.in-22.is) (c.sltu.ensures ∙ ap₂ (apply_of O.Sltu) c.first-in-22.ensures c.second-in-22.ensures) c.gives-in-22.ensures

pub returns-in-23 : goal.returns-in-23
unfolding row_of refusals_of
returns-in-23 c = let a = c.args in reg_arm a.kind a.w O.And _ a.h.now a.x.now _ _ (rw c.in-23.is) (ap₂ (apply_of O.And) c.first-in-23.ensures c.second-in-23.ensures) c.gives-in-23.ensures

pub returns-in-24 : goal.returns-in-24
unfolding row_of refusals_of
returns-in-24 c = let a = c.args in reg_arm a.kind a.w O.Or _ a.h.now a.x.now _ _ (rw c.in-24.is) (ap₂ (apply_of O.Or) c.first-in-24.ensures c.second-in-24.ensures) c.gives-in-24.ensures

pub returns-in-25 : goal.returns-in-25
unfolding row_of refusals_of
returns-in-25 c = let a = c.args in reg_arm a.kind a.w O.Xor _ a.h.now a.x.now _ _ (rw c.in-25.is) (ap₂ (apply_of O.Xor) c.first-in-25.ensures c.second-in-25.ensures) c.gives-in-25.ensures
