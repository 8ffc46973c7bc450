-- Demand 1: the answer's number, when and only when; and what a refusal leaves.
use Rattle.std.specs.Prelude.{ℕ, ◌≤◌, ◌≡◌, Bool, true, false, not, ◌&&◌, List, ◌∷◌, take, replicate}
use Rattle.answer.specs.Rows.{first, one_of, Iff}
use Rattle.lanes.specs.Lanes.{file_words}
use Rattle.memory.specs.Memories.{Contents}
use Rattle.warp.specs.declared.Launch.{Launch}
use Rattle.warp.specs.declared.Warp.{Warp}
use Rattle.warp.specs.Warp.{zero_warp, with_stop, answered}
use Rattle.warp.specs.WellFormed.{launch_ok_of, well_formed_of}
use Rattle.definition.specs.State.{State, state, outcome, fixed_of, instr_at}
use Rattle.definition.specs.Refuse.{runs_ok_of, on_kernel, refusals_of, step_tests, tests_of, step_numbers}
use Rattle.definition.specs.Step.{step_of}
use Rattle.definition.specs.Calls.{launched_of, launch_of, run_of, release_of}

-- ---- a step and a run

-- The answer of a step is the number of the first row that holds, 0 where none does.
abbrev pub StepTable : Type 0
StepTable = (k : List ℕ) (m : State) → (step_of k m).code ≡ first (tests_of k m)

-- a step answers n when, and only when, none of the first i tests holds and the test t does
abbrev pub Exactly : List ℕ → State → ℕ → ℕ → Bool → Type 0
Exactly k m i n t = Iff ((step_of k m).code ≡ n) ((first (take i (step_tests k m)) ≡ 0) × (t ≡ true))

-- the refusal table for a step, row by row
pub record StepRows (k : List ℕ) (m : State) : Type 0 where
  -- a lent run's size or a base plus length breaks the sizes, or the memories overlap
  pub row1 : Exactly k m 0 1 (not (runs_ok_of (fixed_of m) k m.vector m.bytes))
  -- the state handed in isn't well formed
  pub row2 : Exactly k m 1 2 (not (well_formed_of m.warp))
  -- the warp has ended
  pub row3 : Exactly k m 2 3 m.warp.ended
  -- the warp waits at a barrier
  pub row4 : Exactly k m 3 4 m.warp.waiting
  -- the PC lies on no kernel word
  pub row5 : Exactly k m 4 5 (not (on_kernel k m.warp))
  -- from 6 on: none of these holds, and it is the number of the instruction's own rows
  pub own : (n : ℕ) → 6 ≤ n → Iff ((step_of k m).code ≡ n) ((first (step_tests k m) ≡ 0) × (first (refusals_of (instr_at k m) m) ≡ n))

abbrev pub StepRefusals : Type 0
StepRefusals = (k : List ℕ) (m : State) → StepRows k m

-- A step and a run answer 0 or a number of a step's table.
abbrev pub StepAnswers : Type 0
StepAnswers = (k : List ℕ) (m : State) → one_of (0 ∷ step_numbers) (step_of k m).code ≡ true

abbrev pub RunAnswers : Type 0
RunAnswers = (k : List ℕ) (n : ℕ) (m : State) → one_of (0 ∷ step_numbers) (run_of k n m).ends.code ≡ true

-- A refused step leaves the warp, the vector file and the memories as handed in.
abbrev pub StepKeeps : Type 0
StepKeeps = (k : List ℕ) (m : State) → ((step_of k m).code ≡ 0 → ⊥) → step_of k m ≡ outcome (step_of k m).code m

-- ---- a launch and a release

-- the lent runs' sizes and the launch values are in range
abbrev pub launch_fits : List ℕ → Launch → List ℕ → Contents → Bool
launch_fits k l v c = runs_ok_of l.fixed k v c && launch_ok_of l

-- a launch: 1 when, and only when, a run's size, a base plus length or a launch value is out of range or the memories overlap; else 0
pub record LaunchRows (k : List ℕ) (l : Launch) (v : List ℕ) (c : Contents) : Type 0 where
  pub row0 : Iff ((launch_of k l v c).code ≡ 0) (launch_fits k l v c ≡ true)
  pub row1 : Iff ((launch_of k l v c).code ≡ 1) (launch_fits k l v c ≡ false)
  pub answers : ((launch_of k l v c).code ≡ 0 → ⊥) → (launch_of k l v c).code ≡ 1
  -- a refused launch returns a warp of all zeros, and no lent word or byte changes
  pub keeps : ((launch_of k l v c).code ≡ 0 → ⊥) → launch_of k l v c ≡ outcome 1 (state zero_warp v c)
  -- an accepted one zeroes the vector file and keeps the memories as lent
  pub gives : (launch_of k l v c).code ≡ 0 → launch_of k l v c ≡ outcome 0 (state (launched_of l) (replicate file_words 0) c)

abbrev pub LaunchRefusals : Type 0
LaunchRefusals = (k : List ℕ) (l : Launch) (v : List ℕ) (c : Contents) → LaunchRows k l v c

-- a release: 2 where the warp isn't well formed; then 12 where it doesn't wait; else 0
pub record ReleaseRows (w : Warp) : Type 0 where
  pub row0 : Iff ((release_of w).code ≡ 0) ((well_formed_of w ≡ true) × (w.waiting ≡ true))
  pub row2 : Iff ((release_of w).code ≡ 2) (well_formed_of w ≡ false)
  pub row12 : Iff ((release_of w).code ≡ 12) ((well_formed_of w ≡ true) × (w.waiting ≡ false))
  pub answers : ((release_of w).code ≡ 0 → ⊥) → ((release_of w).code ≡ 2 → ⊥) → (release_of w).code ≡ 12
  pub keeps : ((release_of w).code ≡ 0 → ⊥) → release_of w ≡ answered (release_of w).code w
  -- a release lets the warp run, and changes nothing else
  pub gives : (release_of w).code ≡ 0 → release_of w ≡ answered 0 (with_stop false false w)

abbrev pub ReleaseRefusals : Type 0
ReleaseRefusals = (w : Warp) → ReleaseRows w
