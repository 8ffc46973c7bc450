use Prim.Native.Nat.{◌≤◌}
use mathlib.Core.Path.{◌≡◌, ◌∙◌}
use native.Mathlib.Omega.{arith}
use lib.ListN.{length}
use borrow.Author.Rules.{rules}
use Rattle.std.specs.Prelude.{Err}
use Rattle.answer.proofs.Numbers.{some_number}
use Rattle.launch_files.specs.LaunchFiles.{kernel_bytes}
use Rattle.launch_files.proofs.Laws.{kernel_fits}
use Rattle.sheet_files.proofs.Cases.{model_refused, model_taken}
use Rattle.sheet_files.proofs.model_files.Goals as goal

pub returns-in_err-read : goal.returns-in_err-read
returns-in_err-read c =
    let e : c.from_residual.result ≡ Err c.in_err-read.field-0.0 = search rules in
    rw e (model_refused _ _ _ _ _ _ (rw c.in_err-read.was at c.read_files-read.ensures) (some_number _))

pub kernel_words-kernel-requires : goal.kernel_words-kernel-requires
kernel_words-kernel-requires c =
    let fits : length c.args.kernel.now ≤ kernel_bytes = kernel_fits _ _ _ _ c.read_files-read.ensures (rw c.in_ok-read.was) in
    omega (arith, fits)

pub returns : goal.returns
returns c = c.model.ensures ∙ model_taken _ _ _ _ _ _ c.read_files-read.ensures (rw c.in_ok-read.was) _ c.kernel_words-kernel.ensures
