-- A machine, as far as the statements on duds and the tables of cases look at it: its step and its run, over the definition's types.
use Rattle.std.specs.Prelude.{ℕ, List}
use Rattle.definition.specs.State.{State, Outcome}
use Rattle.definition.specs.Step.{step_of}
use Rattle.definition.specs.Calls.{Ran, run_of}

pub record Machine : Type 0 where
  pub step : List ℕ → State → Outcome
  pub run : List ℕ → ℕ → State → Ran

-- the definition's, which the code's contracts are equations with
abbrev pub ours : Machine
ours = record { step = step_of; run = run_of }
