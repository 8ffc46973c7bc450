use mathlib.Core.Path.{◌≡◌, refl, sym, ◌∙◌}
use native.Mathlib.Omega.{arith}
use lib.Seq.{length-sets}
use Rattle.answer.proofs.Numbers.{done_zero, refused_some}
use Rattle.machine.proofs.Runs.{one_step}
use Rattle.sheet_lines.specs.Sheet.{step_limit}
use Rattle.sheet.proofs.Tracing.{tracing_start, tracing_end, tracing_stop, tracing_on}
use Rattle.sheet.proofs.trace.Goals as goal

pub loop-n-init : goal.loop-n-init
loop-n-init c = (tracing_start _ _ _, refl)

pub loop-n-preserved : goal.loop-n-preserved
loop-n-preserved c =
    let inv = c.loop-n.invariant in (
      tracing_on _ _ _ _ _ _ inv.0 c.loop-n-test.true _ (one_step _ _ _ _ c.run-end.ensures.1) (done_zero _ (sym c.is_err.ensures.value ∙ c.if-is_err.false)) _ c.word_on-word.ensures _ c.put_line.ensures,
      rw (c.put_line.ensures, length-sets) inv.1,
    )

pub returns-then-is_err : goal.returns-then-is_err
returns-then-is_err c = tracing_stop _ _ _ _ _ _ c.loop-n.invariant.0 c.loop-n-test.true _ (one_step _ _ _ _ c.run-end.ensures.1) (refused_some _ (sym c.is_err.ensures.value ∙ c.if-is_err.true))

pub returns : goal.returns
returns c =
    let i = c.loop-n in
    let e : i.n ≡ step_limit = omega (arith, i.invariant.0.few) in
    rw (← e) (tracing_end _ _ _ _ _ _ i.invariant.0 c.loop-n-test.false)
