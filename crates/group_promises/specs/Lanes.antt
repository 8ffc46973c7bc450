-- Demand 3 for a group, the lanes of each of its warps (Lanes.antt of promises): an inactive lane keeps its registers, writes no byte and influences nothing, whichever warp steps.
use Rattle.std.specs.Prelude.{ℕ, ◌<◌, ◌≡◌, false, List, length, get_or}
use Rattle.lanes.specs.declared.Lane.{Lane}
use Rattle.lanes.specs.Lanes.{lanes_max}
use Rattle.memory.specs.Memories.{Region, bytes_at}
use Rattle.definition.specs.State.{instr_at}
use Rattle.promises.specs.Lanes.{is_active, SameLane, Agree, all_but, address_in, Touches}
use Rattle.group.specs.Group.{Group, group, file_at, state_at}
use Rattle.group.specs.GroupCalls.{GroupOutcome, group_step_of}
use Rattle.group_promises.specs.Steps.{Picked}

-- runs of vector files of one length, the same but for lane h of warp i
pub record ButLane (i : ℕ) (h : Lane) (v u : List ℕ) : Type 0 where
  pub words : length v ≡ length u
  pub own : Agree (all_but h) (file_at i v) (file_at i u)
  pub others : (j : ℕ) → (j ≡ i → ⊥) → file_at j v ≡ file_at j u

-- two outcomes: one answer, turn and row of warps, the memories' bytes the same, and so the vector files but for lane h of warp i
pub record GroupAlike (i : ℕ) (h : Lane) (o p : GroupOutcome) : Type 0 where
  pub code : o.code ≡ p.code
  pub stopped : o.stopped ≡ p.stopped
  pub turn : o.left.turn ≡ p.left.turn
  pub warps : o.left.warps ≡ p.left.warps
  pub bytes : o.left.bytes ≡ p.left.bytes
  pub vector : ButLane i h o.left.vector p.left.vector

-- ---- promises: for every kernel k and group m, whatever the step answers

-- A warp's inactive lane keeps all its vector registers over a group's step, whichever warp's step it is.
abbrev pub GroupLaneKept : Type 0
GroupLaneKept =
    (k : List ℕ) (m : Group) (i : ℕ) (l : Lane) → l.0 < lanes_max → is_active (state_at i m) l ≡ false
    → SameLane l (file_at i (group_step_of k m).left.vector) (file_at i m.vector)

-- No byte is written for it: every byte of either memory outside the accesses of the stepping warp's active lanes, and its scalar store's, stays.
abbrev pub GroupUnwritten : Type 0
GroupUnwritten =
    (k : List ℕ) (m : Group) (i : ℕ) → Picked m i → (r : Region) (j : ℕ) → (Touches (state_at i m) (address_in r j (state_at i m)) (instr_at k (state_at i m)) → ⊥)
    → j < length (bytes_at r m.bytes) → get_or (bytes_at r (group_step_of k m).left.bytes) j 0 ≡ get_or (bytes_at r m.bytes) j 0

-- If an inactive lane's vector registers had held anything else, the group's step would give the same answer, turn, warps and memories, and the same vector files but for that lane.
abbrev pub GroupUnfelt : Type 0
GroupUnfelt =
    (k : List ℕ) (m : Group) (u : List ℕ) (i : ℕ) (h : Lane) → is_active (state_at i m) h ≡ false → ButLane i h m.vector u
    → GroupAlike i h (group_step_of k m) (group_step_of k (group m.turn m.warps u m.bytes))
