-- Which warp takes a group's step, and what the step leaves.
use Rattle.std.specs.Prelude.{ℕ, ◌+◌, ◌%◌, ◌<◌, ◌≡◌, true, false, List, length}
use Rattle.answer.specs.Rows.{first}
use Rattle.warp.specs.declared.Warp.{Warp}
use Rattle.warp.specs.Warp.{with_stop}
use Rattle.definition.specs.State.{State, outcome}
use Rattle.definition.specs.Step.{step_of}
use Rattle.group.specs.Group.{Group, count_of, warp_at, file_at, state_at, runs, pick_of}
use Rattle.group.specs.GroupRefuse.{group_step_tests}
use Rattle.group.specs.GroupCalls.{group_outcome, group_step_of}

-- the number of the warp d places after the turn, cyclically
abbrev pub place_after : ℕ → Group → ℕ
place_after d m = (m.turn + d) % count_of m

-- the step is warp i's: it neither waits nor has ended, and every warp from the turn on, cyclically, before it waits or has ended
pub record Picked (m : Group) (i : ℕ) : Type 0 where
  -- how many are before it
  pub far : ℕ
  pub short : far < count_of m
  pub is : i ≡ place_after far m
  pub below : i < count_of m
  pub running : runs (warp_at i m) ≡ true
  pub skipped : (d : ℕ) → d < far → runs (warp_at (place_after d m) m) ≡ false

-- a warp that was w is u: the same, or it waited and is released, which changes nothing else
pub data Kept (w u : Warp) : Type 0 where
  same : u ≡ w → Kept w u
  released : w.waiting ≡ true → u ≡ with_stop false false w → Kept w u

-- a taken step of warp i leads from m to n
pub record Leads (k : List ℕ) (m : Group) (i : ℕ) (n : Group) : Type 0 where
  -- it is a taken step of a single warp: warp i with its own vector file and both memories as they stand
  pub after : State
  pub taken : step_of k (state_at i m) ≡ outcome 0 after
  -- the turn is the next number
  pub turn : n.turn ≡ (i + 1) % count_of m
  -- warp i and the memories are what the step left, every other warp is as it was, but for a release; every other vector file is untouched
  pub count : count_of n ≡ count_of m
  pub own : Kept after.warp (warp_at i n)
  pub others : (j : ℕ) → j < count_of m → (j ≡ i → ⊥) → Kept (warp_at j m) (warp_at j n)
  pub file : file_at i n.vector ≡ after.vector
  pub files : (j : ℕ) → (j ≡ i → ⊥) → file_at j n.vector ≡ file_at j m.vector
  pub words : length n.vector ≡ length m.vector
  pub bytes : n.bytes ≡ after.bytes

-- ---- promises

-- Where none of 1, 2 and 3 holds, just one warp is the one whose step it is.
abbrev pub OnePicked : Type 0
OnePicked = (k : List ℕ) (m : Group) → first (group_step_tests k m) ≡ 0 → Picked m (pick_of m) × ((i : ℕ) → Picked m i → i ≡ pick_of m)

-- A taken step of a group is a taken step of that warp.
pub record Stepped (k : List ℕ) (m n : Group) : Type 0 where
  pub which : ℕ
  pub picked : Picked m which
  pub leads : Leads k m which n

abbrev pub GroupStepIs : Type 0
GroupStepIs = (k : List ℕ) (m n : Group) → group_step_of k m ≡ group_outcome 0 0 n → Stepped k m n
