use Rattle.printout.proofs.Cases.{launch_refused, launch_ran, put_report}
use Rattle.printout.specs.Printout.{ran_report}
use native.Mathlib.Omega.{arith}
use mathlib.Core.Path.{refl, sym, ap, ◌∙◌}
use Rattle.answer.proofs.Numbers.{some_number}
use Rattle.printout.proofs.print_kernel.Goals as goal

pub returns-in-Err : goal.returns-in-Err
returns-in-Err c =
    let put = c.put_code_line.ensures in
    (put_report put.0 (launch_refused _ _ _ _ _ (rw c.in-Err.is at c.launch.ensures) _ c.number.ensures (λ z. some_number _ (sym c.number.ensures ∙ z))), omega arith)

pub returns : goal.returns
returns c =
    let put = c.put_five_lines.ensures in
    let launched = launch_ran _ _ _ _ _ (rw c.in-Ok.is at c.launch.ensures) _ refl refl in
    (put_report put.0 (launched ∙ ap ran_report (sym c.run-ran.ensures.1) ∙ rw c.number-2.ensures), put.1)
