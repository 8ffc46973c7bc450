-- Demand 3 for a group, the splits of each of its warps (Splits.antt of promises), over the group's own steps.
use Rattle.std.specs.Prelude.{ℕ, ◌+◌, ◌≤◌, ◌<◌, ◌≡◌, List}
use Rattle.std.specs.Int.Count.{ones}
use Rattle.lanes.specs.declared.Lane.{Lane}
use Rattle.lanes.specs.Mask.{bit_at}
use Rattle.warp.specs.declared.Launch.{Launch}
use Rattle.warp.specs.Parked.{parked_in}
use Rattle.definition.specs.State.{State, outcome}
use Rattle.definition.specs.Step.{step_of}
use Rattle.promises.specs.Splits.{Opens}
use Rattle.group.specs.Group.{Group, count_of, warp_at, state_at}
use Rattle.group.specs.GroupCalls.{group_outcome, group_step_of}
use Rattle.group_promises.specs.Reached.{GroupGoesOn, GroupReached, launch_at}

-- any number of taken group steps and changes by the host from m to n, through all of which more than d splits of warp i are open
pub data GroupAbove (k : List ℕ) (i d : ℕ) : Group → Group → Type 0 where
  here : {m : Group} → d < (warp_at i m).depth → GroupAbove k i d m m
  on : {m n u : Group} → GroupAbove k i d m n → GroupGoesOn k n u → d < (warp_at i u).depth → GroupAbove k i d m u

-- ---- promises

-- Each launched lane of a warp is active or parked in just one open split, and no other lane is either.
abbrev pub GroupCovered : Type 0
GroupCovered =
    (k : List ℕ) (ls : List Launch) (m : Group) (i : ℕ) → GroupReached k ls m → i < count_of m
    → (l : Lane) → bit_at l.0 (warp_at i m).mask + parked_in l (warp_at i m).splits (warp_at i m).depth ≡ bit_at l.0 (launch_at i ls).fixed.launchMask

-- Fewer splits of a warp are open than lanes of it were launched.
abbrev pub GroupFewer : Type 0
GroupFewer = (k : List ℕ) (ls : List Launch) (m : Group) (i : ℕ) → GroupReached k ls m → i < count_of m → (warp_at i m).depth < ones (launch_at i ls).fixed.launchMask

-- A split cuts the warp's active mask in two: wherever the count of its open splits rises over its own step.
abbrev pub GroupSplitCuts : Type 0
GroupSplitCuts =
    (k : List ℕ) (ls : List Launch) (m : Group) (i : ℕ) (t : State) → GroupReached k ls m → i < count_of m → step_of k (state_at i m) ≡ outcome 0 t
    → (warp_at i m).depth < t.warp.depth → Opens k (state_at i m) t

-- When the count of a warp's open splits first falls back to what it was before a split, its mask is the one held just before it, whatever the other warps did meanwhile:
-- from m a group step to a opens a split of warp i, up to b it stays open, and from b to n the count falls.
abbrev pub GroupRestored : Type 0
GroupRestored =
    (k : List ℕ) (ls : List Launch) (m a b n : Group) (i : ℕ) → GroupReached k ls m → i < count_of m → group_step_of k m ≡ group_outcome 0 0 a
    → (warp_at i m).depth < (warp_at i a).depth → GroupAbove k i (warp_at i m).depth a b → GroupGoesOn k b n → (warp_at i n).depth ≤ (warp_at i m).depth
    → ((warp_at i n).depth ≡ (warp_at i m).depth) × ((warp_at i n).mask ≡ (warp_at i m).mask)
