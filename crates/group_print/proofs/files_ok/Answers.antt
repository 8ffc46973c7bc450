use mathlib.Core.Bool.{and-true}
use Rattle.std.proofs.Math.Bool.{and_assoc}
use Rattle.launch_files.specs.LaunchFiles.{files_ok_of}
use Rattle.group_print.specs.GroupPrint.{group_files_ok}
use Rattle.group_print.proofs.files_ok.Goals as goal

pub returns : goal.returns
unfolding group_files_ok files_ok_of
returns c = rw c.files_ok.ensures (simp (and-true, and_assoc))
