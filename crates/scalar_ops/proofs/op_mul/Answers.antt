use Rattle.definition.specs.Refuse.{refusals_of}
use Rattle.scalar_ops.proofs.Laws.{reg_arm}
use Rattle.isa.specs.Kinds.{row_of}
use Rattle.word.specs.Word.{apply_of}
use Rattle.word.specs.declared.Op.TheVariants as O
use mathlib.Core.Path.{◌∙◌, ap₂}
use Rattle.scalar_ops.proofs.op_mul.Goals as goal

pub returns-in-26 : goal.returns-in-26
unfolding row_of refusals_of
returns-in-26 c = let a = c.args in reg_arm a.kind a.w O.Mul _ a.h.now a.x.now _ _ (rw c.in-26.is) (c.mul.ensures ∙ ap₂ (apply_of O.Mul) c.first.ensures c.second.ensures) c.gives.ensures

pub returns-in-27 : goal.returns-in-27
unfolding row_of refusals_of
returns-in-27 c = let a = c.args in reg_arm a.kind a.w O.Mulh _ a.h.now a.x.now _ _ (rw c.in-27.is) (c.mulh.ensures ∙ ap₂ (apply_of O.Mulh) c.first-in-27.ensures c.second-in-27.ensures) c.gives-in-27.ensures

pub returns-in-28 : goal.returns-in-28
unfolding row_of refusals_of
returns-in-28 c = let a = c.args in reg_arm a.kind a.w O.Mulhsu _ a.h.now a.x.now _ _ (rw c.in-28.is) (c.mulhsu.ensures ∙ ap₂ (apply_of O.Mulhsu) c.first-in-28.ensures c.second-in-28.ensures) c.gives-in-28.ensures

pub returns-in-29 : goal.returns-in-29
unfolding row_of refusals_of
returns-in-29 c = let a = c.args in reg_arm a.kind a.w O.Mulhu _ a.h.now a.x.now _ _ (rw c.in-29.is) (c.mulhu.ensures ∙ ap₂ (apply_of O.Mulhu) c.first-in-29.ensures c.second-in-29.ensures) c.gives-in-29.ensures

pub returns-in-30 : goal.returns-in-30
unfolding row_of refusals_of
returns-in-30 c = let a = c.args in reg_arm a.kind a.w O.Div _ a.h.now a.x.now _ _ (rw c.in-30.is) (c.div.ensures ∙ ap₂ (apply_of O.Div) c.first-in-30.ensures c.second-in-30.ensures) c.gives-in-30.ensures

pub returns-in-31 : goal.returns-in-31
unfolding row_of refusals_of
returns-in-31 c = let a = c.args in reg_arm a.kind a.w O.Divu _ a.h.now a.x.now _ _ (rw c.in-31.is) (c.divu.ensures ∙ ap₂ (apply_of O.Divu) c.first-in-31.ensures c.second-in-31.ensures) c.gives-in-31.ensures

pub returns-in-32 : goal.returns-in-32
unfolding row_of refusals_of
returns-in-32 c = let a = c.args in reg_arm a.kind a.w O.Rem _ a.h.now a.x.now _ _ (rw c.in-32.is) (c.rem.ensures ∙ ap₂ (apply_of O.Rem) c.first-in-32.ensures c.second-in-32.ensures) c.gives-in-32.ensures

pub returns-in-33 : goal.returns-in-33
unfolding row_of refusals_of
returns-in-33 c = let a = c.args in reg_arm a.kind a.w O.Remu _ a.h.now a.x.now _ _ (rw c.in-33.is) (c.remu.ensures ∙ ap₂ (apply_of O.Remu) c.first-in-33.ensures c.second-in-33.ensures) c.gives-in-33.ensures
