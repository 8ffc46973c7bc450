-- Demand 2: a run is the iteration of the step.
use Rattle.std.specs.Prelude.{ℕ, ◌+◌, ◌<◌, ◌≡◌, List, length}
use Rattle.answer.specs.Rows.{first}
use Rattle.warp.specs.declared.Launch.{Launch}
use Rattle.warp.specs.Warp.{split_count}
use Rattle.definition.specs.State.{State, outcome}
use Rattle.definition.specs.Refuse.{state_tests}
use Rattle.definition.specs.Step.{step_of}
use Rattle.definition.specs.Calls.{Ran, ran, run_of}
use Rattle.promises.specs.Reached.{Reached}

-- the number of the first test of 1 and 2 that holds, 0 where none does
abbrev pub tested : List ℕ → State → ℕ
tested k s = first (state_tests k s)

-- t taken steps lead from s to u
pub data Steps (k : List ℕ) : ℕ → State → State → Type 0 where
  start : {s : State} → Steps k 0 s s
  more : {t : ℕ} {s u x : State} → Steps k t s u → step_of k u ≡ outcome 0 x → Steps k (t + 1) s x

-- a run b after a run a
abbrev pub followed_by : Ran → Ran → Ran
followed_by a b = ran (a.steps + b.steps) b.ends

-- ---- promises

-- the run r of at most n steps from s, of which neither 1 nor 2 holds
pub record Iterates (k : List ℕ) (n : ℕ) (s : State) (r : Ran) : Type 0 where
  -- the count is that of steps taken, one by one, and their effects stay
  pub taken : Steps k r.steps s r.ends.left
  -- answered 0: all were taken
  pub whole : r.ends.code ≡ 0 → r.steps ≡ n
  -- answered otherwise: fewer, and the next step is refused with this number
  pub early : (r.ends.code ≡ 0 → ⊥) → r.steps < n
  pub refused : (r.ends.code ≡ 0 → ⊥) → step_of k r.ends.left ≡ r.ends

abbrev pub RunIterates : Type 0
RunIterates = (k : List ℕ) (n : ℕ) (s : State) → tested k s ≡ 0 → Iterates k n s (run_of k n s)

-- Every run tests 1 and 2 first, one of 0 steps too, and one of 0 steps does no more.
abbrev pub RunTests : Type 0
RunTests = (k : List ℕ) (n : ℕ) (s : State) → (tested k s ≡ 0 → ⊥) → run_of k n s ≡ ran 0 (outcome (tested k s) s)

abbrev pub RunZero : Type 0
RunZero = (k : List ℕ) (s : State) → run_of k 0 s ≡ ran 0 (outcome (tested k s) s)

-- The state after each count of taken steps is one state, and a run of that count answers 0 and leaves it.
abbrev pub StepsFixed : Type 0
StepsFixed = (k : List ℕ) (t : ℕ) (s u x : State) → Steps k t s u → Steps k t s x → u ≡ x

abbrev pub RunFixed : Type 0
RunFixed = (k : List ℕ) (t : ℕ) (s u : State) → tested k s ≡ 0 → Steps k t s u → run_of k t s ≡ ran t (outcome 0 u)

-- A run of n steps and then one of m is the run of n + m, wherever the first answers 0.
abbrev pub RunMore : Type 0
RunMore =
    (k : List ℕ) (n m : ℕ) (s : State) → length s.warp.splits ≡ split_count → (run_of k n s).ends.code ≡ 0
    → run_of k (n + m) s ≡ followed_by (run_of k n s) (run_of k m (run_of k n s).ends.left)

-- Refusals 1 and 2 come only before a run's first step: a run from any state that passes their tests, reached or not, is never refused with them.
pub record Passes (r : Ran) : Type 0 where
  pub not1 : r.ends.code ≡ 1 → ⊥
  pub not2 : r.ends.code ≡ 2 → ⊥

abbrev pub RunPasses : Type 0
RunPasses = (k : List ℕ) (n : ℕ) (s : State) → length s.warp.splits ≡ split_count → tested k s ≡ 0 → Passes (run_of k n s)

-- What a run leaves of a reached state is reached, and a run from there is never refused with 1 or 2.
pub record Stays (k : List ℕ) (l : Launch) (r : Ran) : Type 0 where
  pub reached : Reached k l r.ends.left
  pub passes : Passes r

abbrev pub RunReaches : Type 0
RunReaches = (k : List ℕ) (l : Launch) (n : ℕ) (s : State) → Reached k l s → Stays k l (run_of k n s)
