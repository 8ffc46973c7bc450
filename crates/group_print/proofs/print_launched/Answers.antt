use native.Mathlib.Omega.{arith}
use Rattle.text.proofs.Laws.{puts_as}
use Rattle.group_print.proofs.Laws.{launch_refused, launch_ran}
use Rattle.group_print.proofs.print_launched.Goals as goal

pub returns-then-code-ne0 : goal.returns-then-code-ne0
returns-then-code-ne0 c = (puts_as (launch_refused _ _ _ _ _ _ _ c.bench_group_launch-code.ensures c.if-code-ne0.true) c.put_code_line.ensures.0, omega (arith, c.put_code_line.ensures.1))

pub returns : goal.returns
returns c = (puts_as (launch_ran _ _ _ _ _ _ _ c.bench_group_launch-code.ensures c.if-code-ne0.false _ c.bench_group_run-end.ensures.1) c.put_group.ensures.0, c.put_group.ensures.1)
