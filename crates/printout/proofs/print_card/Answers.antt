use mathlib.Core.List.{List}
use Prim.Native.Nat.{ℕ, ◌≤◌}
use mathlib.Core.Path.{refl, sym, ap, ◌∙◌}
use Rattle.answer.proofs.Numbers.{some_number}
use native.Mathlib.Omega.{arith}
use lib.ListN.{length}
use Rattle.launch_files.proofs.Laws.{kernel_fits}
use Rattle.launch_files.specs.LaunchFiles.{kernel_bytes}
use Rattle.printout.specs.Printout.{kernel_report, put_into}
use Rattle.printout.proofs.Cases.{files_refused, files_taken, put_report}
use Rattle.printout.proofs.print_card.Goals as goal

pub returns-in-Err : goal.returns-in-Err
returns-in-Err c =
    let put = c.put_code_line.ensures in
    (put_report put.0 (files_refused _ _ _ _ _ (rw c.in-Err.is at c.read_files-read.ensures) _ c.number.ensures (λ z. some_number _ (sym c.number.ensures ∙ z))), omega arith)

pub kernel_words-kernel-requires : goal.kernel_words-kernel-requires
kernel_words-kernel-requires c =
    let fits : length c.args.kernel.now ≤ kernel_bytes = kernel_fits _ _ _ _ c.read_files-read.ensures (rw c.in_default.is) in
    omega (arith, fits)

pub returns : goal.returns
returns c =
    let a = c.args in (
      c.print_kernel.ensures.0
          ∙ ap (put_into a.out.now)
          (sym (files_taken _ _ _ _ _ c.read_files-read.ensures _ refl (rw c.in_default.is)
          ∙ ap (λ (ws : List ℕ). kernel_report ws c.read_files-read.result.launch a.vector.now a.bytes.now) (sym c.kernel_words-kernel.ensures))),
      c.print_kernel.ensures.1,
    )
