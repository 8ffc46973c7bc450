-- Five machines that a weak statement would let pass, and for each the statement that it breaks.
use Rattle.std.specs.Prelude.{ℕ, zero, suc, ◌<◌, ◌≡◌, List}
use Rattle.answer.specs.Rows.{first}
use Rattle.memory.specs.Memories.{Contents}
use Rattle.warp.specs.declared.Launch.{Launch}
use Rattle.definition.specs.State.{State, outcome}
use Rattle.definition.specs.Refuse.{tests_of}
use Rattle.definition.specs.Step.{step_of}
use Rattle.definition.specs.Calls.{Ran, ran, launch_of, run_of}
use Rattle.traces.specs.Machine.{Machine, ours}
use Rattle.promises.specs.Reached.{Reached}
use Rattle.promises.specs.Runs.{tested, Steps, Iterates}
use Rattle.promises.specs.Splits.{Disagree}
use Rattle.traces.specs.Trace.{p3, CaseHolds, Cards}

-- ---- what is asked of a machine: StepTable, RunIterates, RunFixed and a part of SplitWhen, with its step and its run in place of ours

-- Demand 1: a step answers the number of the first row that holds, 0 where none does.
abbrev pub Table : Machine → Type 0
Table M = (k : List ℕ) (m : State) → (M.step k m).code ≡ first (tests_of k m)

-- Demand 2: a run is so many of the definition's steps, and counts them.
abbrev pub Iterated : Machine → Type 0
Iterated M = (k : List ℕ) (n : ℕ) (s : State) → tested k s ≡ 0 → Iterates k n s (M.run k n s)

-- Demand 2: the state after each count of the definition's steps is the one that a run of that count leaves.
abbrev pub FixedCount : Machine → Type 0
FixedCount M = (k : List ℕ) (t : ℕ) (s u : State) → tested k s ≡ 0 → Steps k t s u → M.run k t s ≡ ran t (outcome 0 u)

-- Demand 3, over demand 2's steps: wherever these lead, and one more is taken over which the active lanes disagree, the machine's step opens a split.
abbrev pub Opened : Machine → Type 0
Opened M = (k : List ℕ) (l : Launch) (s : State) → Reached k l s → (step_of k s).code ≡ 0 → Disagree k s → s.warp.depth < (M.step k s).left.warp.depth

pub record Meets (M : Machine) : Type 0 where
  pub cards : Cards M
  pub table : Table M
  pub iterated : Iterated M
  pub fixed : FixedCount M
  pub opened : Opened M

-- ---- the duds

-- refuses everything, with the number n + 1
abbrev pub refuses : ℕ → Machine
refuses n = record { step = λ k m. outcome (suc n) m; run = λ k b m. ran 0 (outcome (suc n) m) }

-- gives the same state u each time
abbrev pub same : State → Machine
same u = record { step = λ k m. outcome 0 u; run = λ k b m. ran b (outcome 0 u) }

-- does nothing, and says that all was done
abbrev pub idle : Machine
idle = record { step = λ k m. outcome 0 m; run = λ k b m. ran b (outcome 0 m) }

-- does all of n steps in the first one and coasts: numbers and counts are the definition's, and so is the state after n steps
abbrev coasting : ℕ → List ℕ → ℕ → State → Ran
coasting n k zero m = run_of k 0 m
coasting n k (suc b) m = ran (run_of k (suc b) m).steps (outcome (run_of k (suc b) m).ends.code (run_of k n m).ends.left)

abbrev pub coasts : ℕ → Machine
coasts n = record { step = λ k m. outcome (step_of k m).code (run_of k n m).ends.left; run = coasting n }

-- makes up its count as f says, and is right in all else
abbrev pub claims : (List ℕ → ℕ → State → ℕ) → Machine
claims f = record { step = step_of; run = λ k b m. ran (f k b m) (run_of k b m).ends }

-- ---- promises

-- Ours meets them all.
abbrev pub OursMeets : Type 0
OursMeets = Meets ours

-- What refuses everything breaks P3, and the table's 'only when'.
abbrev pub RefusesBreaks : Type 0
RefusesBreaks = (n : ℕ) → (CaseHolds (p3 (refuses n)) → ⊥) × (Table (refuses n) → ⊥)

-- The same state each time breaks demand 2.
abbrev pub SameBreaks : Type 0
SameBreaks = (u : State) → Iterated (same u) → ⊥

-- To do nothing breaks demand 3 over demand 2's steps.
abbrev pub IdleBreaks : Type 0
IdleBreaks = Opened idle → ⊥

-- Over its own steps it would not: whatever demand 3 says of reached states holds of all that these reach.
pub data Own (M : Machine) (k : List ℕ) (l : Launch) : State → Type 0 where
  begins : {s : State} (v : List ℕ) (c : Contents) → launch_of k l v c ≡ outcome 0 s → Own M k l s
  moves : {s t : State} → Own M k l s → M.step k s ≡ outcome 0 t → Own M k l t

abbrev pub IdleReaches : Type 0
IdleReaches = (k : List ℕ) (l : Launch) (s : State) → Own idle k l s → Reached k l s

-- To coast breaks the state after a count.
abbrev pub CoastsBreaks : Type 0
CoastsBreaks = (n : ℕ) → FixedCount (coasts n) → ⊥

-- A made-up count that differs from the definition's, in any run that tests 1 and 2 let through, breaks demand 2.
abbrev pub ClaimsBreaks : Type 0
ClaimsBreaks =
    (f : List ℕ → ℕ → State → ℕ) (k : List ℕ) (n : ℕ) (s : State) → tested k s ≡ 0 → (f k n s ≡ (run_of k n s).steps → ⊥) → Iterated (claims f) → ⊥

-- Demand 2 leaves one run, where tests 1 and 2 let it through: a machine that meets it is ours in number, count and state.
abbrev pub OneRun : Type 0
OneRun = (M : Machine) → Iterated M → (k : List ℕ) (n : ℕ) (s : State) → tested k s ≡ 0 → M.run k n s ≡ run_of k n s
