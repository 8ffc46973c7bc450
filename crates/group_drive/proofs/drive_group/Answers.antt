use mathlib.Core.Path.{sym, ◌∙◌}
use native.Mathlib.Omega.{arith}
use Rattle.answer.proofs.Numbers.{done_zero, refused_some}
use Rattle.group_drive.proofs.Driving.{going_on, drives_end, drives_stop}
use Rattle.group_drive.proofs.drive_group.Goals as goal

pub loop-t-preserved : goal.loop-t-preserved
loop-t-preserved c =
    going_on _ _ _ _ _ _ _ _ _ _ _ c.loop-t.invariant (omega arith) _ _ _ _ _ c.step_group-r.ensures
    (done_zero _ (sym c.is_err.ensures.value ∙ c.if-is_err.false)) _ c.next-at.ensures.0 c.next-at.ensures.1

pub returns : goal.returns
returns c = drives_end _ _ _ _ _ _ _ _ _ _ _ c.loop-t.invariant c.loop-t-test.false

pub returns-then-is_err : goal.returns-then-is_err
returns-then-is_err c =
    drives_stop _ _ _ _ _ _ _ _ _ _ _ c.loop-t.invariant (omega arith) _ _ _ _ _ c.step_group-r.ensures (refused_some _ (sym c.is_err.ensures.value ∙ c.if-is_err.true))
