use mathlib.Core.Path.{◌≡◌}
use lib.ListN.{length, take}
use Rattle.launch_files.specs.LaunchFiles.{first_words}
use Rattle.launch_files.proofs.put_words.Given as goal

abbrev pub invariant-loop-i : goal.invariant-loop-i
invariant-loop-i l = (length l.words ≡ length l.initial.words) × (take l.i l.words ≡ first_words l.i l.kernel)
