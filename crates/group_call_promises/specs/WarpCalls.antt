-- The calls on a group by value, and the one over a lent run of warps: two results that a contract allows are equal.
use Rattle.std.specs.Prelude.{ℕ, ◌≡◌, List}
use Rattle.answer.specs.Answer.{number_of}
use Rattle.memory.specs.Memories.{Contents}
use Rattle.warp.specs.declared.Warp.{Warp}
use Rattle.group.specs.Group.{group}
use Rattle.group.specs.GroupCalls.{GroupOutcome, group_outcome, group_ran, group_step_of}
use Rattle.group_machine.specs.declared.Group.{Group}
use Rattle.group_machine.specs.declared.GroupLeft.{GroupLeft}
use Rattle.group_machine.specs.declared.GroupRunLeft.{GroupRunLeft}
use Rattle.group_machine.specs.Held.{held, held_step_of, held_run_of, Kept}
use Rattle.group_row.specs.declared.Stepped.{Stepped}
use Rattle.promises.specs.Determined.{DeterminedWhole}

-- ---- a group by value

-- a call's result, with the lent runs afterwards
pub record Leaves (R : Type 0) : Type 0 where
  pub result : R
  pub vector : List ℕ
  pub bytes : Contents

-- what a contract says of the group g that is handed in, the group u that comes back, and all that is seen of the result
pub record HeldAllows {S : Type 0} (g u : Group) (seen given : S) : Type 0 where
  pub kept : Kept g u
  pub is : seen ≡ given

-- of group_machine's step and run
abbrev pub StepAllows : List ℕ → Group → List ℕ → Contents → Leaves GroupLeft → Type 0
StepAllows k g v c r =
    HeldAllows g r.result.group (group_outcome (number_of r.result.answer) r.result.stopped (held r.result.group r.vector r.bytes)) (held_step_of k g v c)

abbrev pub RunAllows : List ℕ → ℕ → Group → List ℕ → Contents → Leaves GroupRunLeft → Type 0
RunAllows k b g v c r =
    HeldAllows g r.result.group
    (group_ran r.result.steps (group_outcome (number_of r.result.answer) r.result.stopped (held r.result.group r.vector r.bytes))) (held_run_of k b g v c)

-- ---- a lent run of warps

-- the result, with the warps and the lent runs afterwards
pub record RowLeaves : Type 0 where
  pub result : Stepped
  pub warps : List Warp
  pub vector : List ℕ
  pub bytes : Contents

-- what the contract sees of it
abbrev pub row_seen : RowLeaves → GroupOutcome
row_seen r = group_outcome r.result.code r.result.stopped (group r.result.turn r.warps r.vector r.bytes)

-- ---- promises

-- Two results that are allowed of a step or a run by value are equal: the warps past the count too.
abbrev pub HeldStepDetermined : Type 0
HeldStepDetermined = (k : List ℕ) (g : Group) (v : List ℕ) (c : Contents) (r t : Leaves GroupLeft) → StepAllows k g v c r → StepAllows k g v c t → r ≡ t

abbrev pub HeldRunDetermined : Type 0
HeldRunDetermined = (k : List ℕ) (b : ℕ) (g : Group) (v : List ℕ) (c : Contents) (r t : Leaves GroupRunLeft) → RunAllows k b g v c r → RunAllows k b g v c t → r ≡ t

abbrev pub RowStepDetermined : Type 0
RowStepDetermined = (k : List ℕ) → DeterminedWhole row_seen (group_step_of k)
