-- A run's lines put into a target as it goes.
use Rattle.std.specs.Prelude.{ℕ, ◌≤◌, ◌≡◌, length}
use mathlib.Core.List.{List, flatten}
use Rattle.std.proofs.lemmas.List.Edits.{sets}
use Rattle.definition.specs.State.{State}
use Rattle.definition.specs.Calls.{run_of}
use Rattle.sheet_lines.specs.Sheet.{head_size, step_limit, lines_of}

-- n steps from the state m on: their lines stand in the target, t before and u after, and vector file and data, v and d, are as the run leaves them
pub record Traces (k : List ℕ) (m : State) (n : ℕ) (v d t u : List ℕ) : Type 0 where
  pub few : n ≤ step_limit
  pub count : n ≡ length (lines_of k step_limit m)
  pub lines : u ≡ sets t head_size (flatten (lines_of k step_limit m))
  pub vector : v ≡ (run_of k step_limit m).ends.left.vector
  pub bytes : d ≡ (run_of k step_limit m).ends.left.bytes.data_bytes
