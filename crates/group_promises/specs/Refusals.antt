-- Demand 1 for a group: the answer's number, when and only when; who stopped it; and what a refusal leaves.
use Rattle.std.specs.Prelude.{ℕ, ◌≤◌, ◌<◌, ◌≡◌, Bool, true, false, ◌&&◌, List, [], ◌∷◌, map, length, replicate}
use Rattle.answer.specs.Rows.{first, one_of, Iff}
use Rattle.memory.specs.Memories.{Contents}
use Rattle.warp.specs.declared.Fixed.{Fixed}
use Rattle.warp.specs.declared.Launch.{Launch}
use Rattle.warp.specs.Warp.{zero_warp}
use Rattle.warp.specs.WellFormed.{launch_ok_of}
use Rattle.definition.specs.Step.{step_of}
use Rattle.definition.specs.Calls.{launched_of}
use Rattle.group.specs.Group.{Group, group, warp_at, fixeds_of, file_start, state_at, all_ended}
use Rattle.lanes.specs.Lanes.{all_below}
use Rattle.group.specs.GroupRefuse.{fixed_at, sizes_ok_of, placed_of, formed_of, group_step_tests}
use Rattle.group.specs.Places.{InPlace}
use Rattle.group.specs.GroupCalls.{GroupOutcome, group_outcome, group_step_of, group_run_of, group_launch_of}
use Rattle.group_promises.specs.Steps.{Picked}
use Rattle.group_promises.specs.Reached.{launch_at}

-- ---- a step

-- the refusal table for a group step that answers o, row by row
pub record GroupRows (k : List ℕ) (m : Group) (o : GroupOutcome) : Type 0 where
  -- a lent run's size, a base plus length or the count of warps breaks the sizes, or the memories overlap
  pub row1 : Iff (o.code ≡ 1) (sizes_ok_of k (fixeds_of m) m.vector m.bytes ≡ false)
  -- the group isn't well formed
  pub row2 : Iff (o.code ≡ 2) ((sizes_ok_of k (fixeds_of m) m.vector m.bytes ≡ true) × (formed_of m ≡ false))
  -- all warps have ended
  pub row3 : Iff (o.code ≡ 3) ((sizes_ok_of k (fixeds_of m) m.vector m.bytes ≡ true) × ((formed_of m ≡ true) × (all_ended m.warps ≡ true)))
  -- any other number, 0 too: none of these holds, and it is that of the picked warp's own step
  pub own : (i : ℕ) → Picked m i → (n : ℕ) → (n ≡ 1 → ⊥) → (n ≡ 2 → ⊥) → (n ≡ 3 → ⊥) → Iff (o.code ≡ n) ((first (group_step_tests k m) ≡ 0) × ((step_of k (state_at i m)).code ≡ n))
  -- from 4 on the picked warp, whose WID is its number, stopped the group; else none did
  pub stops : (i : ℕ) → Picked m i → 3 < o.code → (o.stopped ≡ i) × ((warp_at i m).fixed.wid ≡ i)
  pub stops_not : o.code ≤ 3 → o.stopped ≡ 0

abbrev pub GroupRefusals : Type 0
GroupRefusals = (k : List ℕ) (m : Group) → GroupRows k m (group_step_of k m)

-- the numbers of a group's step and run; a picked warp neither waits nor has ended: 4 is none of them
abbrev pub group_numbers : List ℕ
group_numbers = 1 ∷ 2 ∷ 3 ∷ 5 ∷ 6 ∷ 7 ∷ 8 ∷ 9 ∷ 10 ∷ 11 ∷ 14 ∷ 15 ∷ []

-- A group's step and run answer 0 or one of these.
abbrev pub GroupAnswers : Type 0
GroupAnswers = (k : List ℕ) (m : Group) → one_of (0 ∷ group_numbers) (group_step_of k m).code ≡ true

abbrev pub GroupRunAnswers : Type 0
GroupRunAnswers = (k : List ℕ) (n : ℕ) (m : Group) → one_of (0 ∷ group_numbers) (group_run_of k n m).ends.code ≡ true

-- A refused step leaves the group as handed in, the turn too.
abbrev pub GroupKeeps : Type 0
GroupKeeps = (k : List ℕ) (m : Group) → ((group_step_of k m).code ≡ 0 → ⊥) → (group_step_of k m).left ≡ m

-- Refusals 1 at a launch and 2 after it ask of the warps' launch values: WID i and NUMW in warp i of as many, and NUMT, code base, data base and LDS as warp 0 has them.
abbrev pub GroupPlaces : Type 0
GroupPlaces = (fs : List Fixed) → Iff (placed_of fs ≡ true) ((i : ℕ) → i < length fs → InPlace (length fs) (fixed_at fs 0) i (fixed_at fs i))

-- ---- a launch

-- sizes, launch values in range, and the warps' values in their places
abbrev pub group_fits : List ℕ → List Launch → List ℕ → Contents → Bool
group_fits k ls v c = sizes_ok_of k (map (λ (l : Launch). l.fixed) ls) v c && (all_below (length ls) (λ i. launch_ok_of (launch_at i ls)) && placed_of (map (λ (l : Launch). l.fixed) ls))

-- a launch: 1 when, and only when, one of these isn't so; else 0
pub record GroupLaunchRows (k : List ℕ) (ls : List Launch) (v : List ℕ) (c : Contents) : Type 0 where
  pub row0 : Iff ((group_launch_of k ls v c).code ≡ 0) (group_fits k ls v c ≡ true)
  pub row1 : Iff ((group_launch_of k ls v c).code ≡ 1) (group_fits k ls v c ≡ false)
  pub answers : ((group_launch_of k ls v c).code ≡ 0 → ⊥) → (group_launch_of k ls v c).code ≡ 1
  -- a refused launch returns warps of all zeros, and no lent word or byte changes
  pub keeps : ((group_launch_of k ls v c).code ≡ 0 → ⊥) → group_launch_of k ls v c ≡ group_outcome 1 0 (group 0 (replicate (length ls) zero_warp) v c)
  -- an accepted one launches each warp, zeroes all vector files and keeps the memories as lent; warp 0's turn
  pub gives : (group_launch_of k ls v c).code ≡ 0 → group_launch_of k ls v c ≡ group_outcome 0 0 (group 0 (map launched_of ls) (replicate (file_start (length ls)) 0) c)

abbrev pub GroupLaunchRefusals : Type 0
GroupLaunchRefusals = (k : List ℕ) (ls : List Launch) (v : List ℕ) (c : Contents) → GroupLaunchRows k ls v c
