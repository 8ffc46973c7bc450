use mathlib.Core.Path.{◌≡◌}
use Prim.Native.Nat.{◌/◌}
use native.Mathlib.Omega.{arith}
use lib.ListN.{length}
use Rattle.launch_files.specs.LaunchFiles.{kernel_words_of}
use Rattle.launch_files.proofs.put_words.Goals as goal

pub returns : goal.returns
unfolding kernel_words_of
returns c =
    let i = c.loop-i in
    let e : i.i ≡ length c.args.kernel.now / 4 = omega arith in
    rw (← e) i.invariant.1
