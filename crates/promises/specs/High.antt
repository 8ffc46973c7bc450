-- The machine has 64 scalar registers: x64 and above are never read or written. Stated by putting more registers behind them.
use Rattle.std.specs.Prelude.{ℕ, ◌≡◌, List, ◌++◌, length}
use Rattle.isa.specs.Bounds.{scalar_registers}
use Rattle.warp.specs.Warp.{with_x}
use Rattle.definition.specs.State.{State, state, outcome}
use Rattle.definition.specs.Step.{step_of}

-- m with the words t behind its scalar registers
abbrev pub with_more : List ℕ → State → State
with_more t m = state (with_x (m.warp.x ++ t) m.warp) m.vector m.bytes

-- ---- the promise

-- a step does the same with them, and leaves them
abbrev pub HighUntouched : Type 0
HighUntouched = (k t : List ℕ) (m : State) → length m.warp.x ≡ scalar_registers → step_of k (with_more t m) ≡ outcome (step_of k m).code (with_more t (step_of k m).left)
