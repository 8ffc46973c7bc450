use mathlib.Core.Path.{◌∙◌, sym}
use native.Mathlib.Omega.{arith}
use Rattle.answer.proofs.Numbers.{done_zero, refused_some}
use Rattle.drive.proofs.Runs.{going_on, drives_stop, drives_end}
use Rattle.drive.proofs.drive.Goals as goal

pub loop-steps-preserved : goal.loop-steps-preserved
loop-steps-preserved c =
    let s = c.step-answer.ensures in
    let i = c.loop-steps.invariant in
    (s.0 ∙ i.0, going_on _ _ _ _ _ i.1 (omega arith) _ _ s.1 (done_zero _ (sym c.is_err.ensures.value ∙ c.if-is_err.false)))

pub returns-then-is_err : goal.returns-then-is_err
returns-then-is_err c =
    let s = c.step-answer.ensures in
    let i = c.loop-steps.invariant in
    (s.0 ∙ i.0, drives_stop _ _ _ _ _ i.1 (omega arith) _ _ s.1 (refused_some _ (sym c.is_err.ensures.value ∙ c.if-is_err.true)))

pub returns : goal.returns
returns c = (c.loop-steps.invariant.0, drives_end _ _ _ _ _ c.loop-steps.invariant.1 c.loop-steps-test.false)
