-- What a run's own sheet is: its steps, one by one, in 13 bytes each.
use Rattle.std.specs.Prelude.{ℕ, ◌^◌, ◌<◌, ◌≤◌, ◌≡◌, List, [], length, get_or}
use Rattle.big_endian.specs.Layout.{values_at, bytes_of}
use Rattle.definition.specs.State.{State, outcome}
use Rattle.definition.specs.Step.{step_of}
use Rattle.definition.specs.Calls.{run_of}
use Rattle.promises.specs.Runs.{Steps}
use Rattle.sheet_lines.specs.Sheet.{line, line_size, line_values, line_bytes, lines_of}

-- every element is a byte, as those of a lent run of bytes are
abbrev pub AllBytes : List ℕ → Type 0
AllBytes s = (i : ℕ) → get_or s i 0 < 256

-- A step's bytes read back give the step: PC, word, mask and open splits. And any 13 bytes written back are those bytes.
abbrev pub LineBack : Type 0
LineBack =
    (pc word mask splits : ℕ) → pc < 2 ^ 32 → word < 2 ^ 32 → mask < 2 ^ 32 → splits < 256
    → values_at line (bytes_of (line_values pc word mask splits)) 0 ≡ line_values pc word mask splits

abbrev pub LineForth : Type 0
LineForth = (b : List ℕ) → AllBytes b → length b ≡ line_size → bytes_of (values_at line b 0) ≡ b

-- A run has as many lines as steps.
abbrev pub LinesCount : Type 0
LinesCount = (k : List ℕ) (n : ℕ) (m : State) → 1 ≤ n → length (lines_of k n m) ≡ (run_of k n m).steps

-- The line at place t, counted from 0, is that of the step after t taken steps.
abbrev pub LineOfStep : Type 0
LineOfStep = (k : List ℕ) (n t : ℕ) (m u x : State) → t < n → Steps k t m u → step_of k u ≡ outcome 0 x → get_or (lines_of k n m) t [] ≡ line_bytes k u x
