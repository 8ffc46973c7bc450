use native.Mathlib.Omega.{arith}
use mathlib.Core.Path.{sym, ◌∙◌}
use mathlib.Core.Bool.{true≢false}
use Rattle.sheet_lines.proofs.Compares.{width, alike_more, alike_differs, alike_short, alike_long, alike_full}
use Rattle.sheet_lines.proofs.compare.Goals as goal

pub returns-then-m-i : goal.returns-then-m-i
returns-then-m-i c = alike_short _ _ _ _ _ c.loop-i.invariant.1 (omega arith) (omega arith)

pub returns-then-not-same : goal.returns-then-not-same
returns-then-not-same c = alike_differs _ _ _ _ _ c.loop-i.invariant.1 (omega arith) (omega arith)
    (λ e. true≢false (sym (c.same.ensures.1 (rw (width c.loop-i.i) e)) ∙ c.if-not-same.true))

pub loop-i-preserved : goal.loop-i-preserved
loop-i-preserved c = (omega arith, alike_more _ _ _ _ _ c.loop-i.invariant.1 (omega arith) (omega arith) (rw (width c.loop-i.i) at (c.same.ensures.0 c.if-not-same.false)))

pub returns-then-n-m : goal.returns-then-n-m
returns-then-n-m c = alike_long _ _ _ _ _ c.loop-i.invariant.1 (omega arith) (omega arith)

pub returns : goal.returns
returns c = alike_full _ _ _ _ _ c.loop-i.invariant.1 (omega arith) (omega arith)
