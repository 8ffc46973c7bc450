-- The barrier: the step after which no warp runs releases all that wait, and no other step releases one.
use Rattle.std.specs.Prelude.{ℕ, ◌<◌, ◌≡◌, true, false, List}
use Rattle.answer.specs.Rows.{Iff}
use Rattle.warp.specs.declared.Warp.{Warp}
use Rattle.definition.specs.State.{State, outcome}
use Rattle.definition.specs.Step.{step_of}
use Rattle.group.specs.Group.{Group, count_of, warp_at, state_at, runs}
use Rattle.group.specs.GroupCalls.{group_outcome, group_step_of}
use Rattle.group_promises.specs.Steps.{Picked}

-- with warp i as w, which its step left, no warp runs: the last that ran arrived or ended
pub record NoneRuns (m : Group) (i : ℕ) (w : Warp) : Type 0 where
  pub own : runs w ≡ false
  pub others : (j : ℕ) → j < count_of m → (j ≡ i → ⊥) → runs (warp_at j m) ≡ false

-- a step of warp i from m to n, which left it as w before any release
pub record Barrier (m : Group) (i : ℕ) (w : Warp) (n : Group) : Type 0 where
  -- another warp that waits runs after the step when, and only when, no warp runs
  pub when : (j : ℕ) → j < count_of m → (j ≡ i → ⊥) → (warp_at j m).waiting ≡ true → Iff (runs (warp_at j n) ≡ true) (NoneRuns m i w)
  -- then every warp that hasn't ended runs, the one that stepped too
  pub all : NoneRuns m i w → (j : ℕ) → j < count_of m → (j ≡ i → ⊥) → (warp_at j m).ended ≡ false → runs (warp_at j n) ≡ true
  pub own : NoneRuns m i w → w.ended ≡ false → runs (warp_at i n) ≡ true
  -- else nothing is released: every other warp is as it was, and warp i as its step left it
  pub none : (NoneRuns m i w → ⊥) → (warp_at i n ≡ w) × ((j : ℕ) → j < count_of m → (j ≡ i → ⊥) → warp_at j n ≡ warp_at j m)
  -- an ended warp stays as it is
  pub ended : (j : ℕ) → j < count_of m → (j ≡ i → ⊥) → (warp_at j m).ended ≡ true → warp_at j n ≡ warp_at j m

-- ---- the promise

abbrev pub BarrierReleases : Type 0
BarrierReleases =
    (k : List ℕ) (m n : Group) (i : ℕ) (s : State) → group_step_of k m ≡ group_outcome 0 0 n → Picked m i → step_of k (state_at i m) ≡ outcome 0 s → Barrier m i s.warp n
