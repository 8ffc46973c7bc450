-- What a group reaches: an accepted launch, and then any number of taken group steps and changes by the host, over any kernel and any memories. Each of its warps reaches what
-- a single warp does, so that every promise over a single warp's reached states holds of it.
use Rattle.std.specs.Prelude.{ℕ, ◌<◌, ◌≡◌, true, List, map, length, get_or}
use Rattle.memory.specs.Memories.{Region, Contents, bytes_at}
use Rattle.warp.specs.declared.Launch.{Launch}
use Rattle.warp.specs.Warp.{split_count, zero_launch}
use Rattle.promises.specs.Reached.{Reached}
use Rattle.group.specs.Group.{Group, group, count_of, warp_at, fixeds_of, state_at}
use Rattle.group.specs.GroupRefuse.{sizes_ok_of, formed_of}
use Rattle.group.specs.GroupCalls.{group_outcome, group_step_of, group_run_of, group_launch_of}

-- from m on: a group step that was taken; the host changes the contents of vector files and memories between two calls, and no size
pub data GroupGoesOn (k : List ℕ) (m : Group) : Group → Type 0 where
  steps : {n : Group} → group_step_of k m ≡ group_outcome 0 0 n → GroupGoesOn k m n
  changes : {v : List ℕ} {c : Contents} → length v ≡ length m.vector → ((r : Region) → length (bytes_at r c) ≡ length (bytes_at r m.bytes)) → GroupGoesOn k m (group m.turn m.warps v c)

-- what the launches ls reach with the kernel k
pub data GroupReached (k : List ℕ) (ls : List Launch) : Group → Type 0 where
  launched : {m : Group} (v : List ℕ) (c : Contents) → group_launch_of k ls v c ≡ group_outcome 0 0 m → GroupReached k ls m
  goes : {m n : Group} → GroupReached k ls m → GroupGoesOn k m n → GroupReached k ls n

-- warp i's launch
abbrev pub launch_at : ℕ → List Launch → Launch
launch_at i ls = get_or ls i zero_launch

-- ---- promises

-- Each warp of a reached group is reached by its own launch: to it, the other warps' stores are changes that the host makes, and a release by the group is a release.
abbrev pub WarpReached : Type 0
WarpReached = (k : List ℕ) (ls : List Launch) (m : Group) (i : ℕ) → GroupReached k ls m → i < count_of m → Reached k (launch_at i ls) (state_at i m)

-- what every call keeps: the sizes, the group well formed, the count of warps, what their launches fixed
pub record GroupSound (k : List ℕ) (ls : List Launch) (m : Group) : Type 0 where
  pub sizes : sizes_ok_of k (fixeds_of m) m.vector m.bytes ≡ true
  pub formed : formed_of m ≡ true
  pub count : count_of m ≡ length ls
  pub fixed : fixeds_of m ≡ map (λ (l : Launch). l.fixed) ls
  pub splits : (i : ℕ) → i < count_of m → length (warp_at i m).splits ≡ split_count

abbrev pub GroupReachedSound : Type 0
GroupReachedSound = (k : List ℕ) (ls : List Launch) (m : Group) → GroupReached k ls m → GroupSound k ls m

-- A reached group is never refused with 1 or 2: by a step, or by a run.
pub record GroupAccepted (k : List ℕ) (m : Group) : Type 0 where
  pub step1 : (group_step_of k m).code ≡ 1 → ⊥
  pub step2 : (group_step_of k m).code ≡ 2 → ⊥
  pub run1 : (n : ℕ) → (group_run_of k n m).ends.code ≡ 1 → ⊥
  pub run2 : (n : ℕ) → (group_run_of k n m).ends.code ≡ 2 → ⊥

abbrev pub GroupNeverMalformed : Type 0
GroupNeverMalformed = (k : List ℕ) (ls : List Launch) (m : Group) → GroupReached k ls m → GroupAccepted k m
