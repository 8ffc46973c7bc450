use mathlib.Core.Bool.{and-true}
use Rattle.launch_files.specs.LaunchFiles.{files_ok_of}
use Rattle.launch_files.proofs.files_ok.Goals as goal

pub returns : goal.returns
unfolding files_ok_of
returns c = simp and-true
