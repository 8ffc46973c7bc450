-- What a machine reaches: an accepted launch, and then any number of taken steps, answered releases and changes by the host, over any kernel and any memories.
use Rattle.std.specs.Prelude.{ℕ, ◌≡◌, true, List, length}
use Rattle.memory.specs.Memories.{Region, Contents, bytes_at}
use Rattle.warp.specs.declared.Launch.{Launch}
use Rattle.warp.specs.declared.Warp.{Warp}
use Rattle.isa.specs.Bounds.{scalar_registers}
use Rattle.warp.specs.Warp.{split_count, answered}
use Rattle.warp.specs.WellFormed.{well_formed_of}
use Rattle.definition.specs.State.{State, state, outcome, fixed_of}
use Rattle.definition.specs.Refuse.{runs_ok_of}
use Rattle.definition.specs.Step.{step_of}
use Rattle.definition.specs.Calls.{launch_of, release_of}

-- from s on: a step that was taken; a release that was answered 0; the host, or another warp of the group, changes the contents of vector file and memories between two calls, and no size
pub data GoesOn (k : List ℕ) (s : State) : State → Type 0 where
  steps : {t : State} → step_of k s ≡ outcome 0 t → GoesOn k s t
  releases : {w : Warp} → release_of s.warp ≡ answered 0 w → GoesOn k s (state w s.vector s.bytes)
  changes : {v : List ℕ} {c : Contents} → length v ≡ length s.vector → ((r : Region) → length (bytes_at r c) ≡ length (bytes_at r s.bytes)) → GoesOn k s (state s.warp v c)

-- what the launch l reaches with the kernel k
pub data Reached (k : List ℕ) (l : Launch) : State → Type 0 where
  launched : {s : State} (v : List ℕ) (c : Contents) → launch_of k l v c ≡ outcome 0 s → Reached k l s
  goes : {s t : State} → Reached k l s → GoesOn k s t → Reached k l t

-- ---- promises

-- what every call keeps: the warp well formed, its arrays and the lent runs of their sizes, what the launch fixed
pub record Sound (k : List ℕ) (l : Launch) (s : State) : Type 0 where
  pub formed : well_formed_of s.warp ≡ true
  pub splits : length s.warp.splits ≡ split_count
  pub registers : length s.warp.x ≡ scalar_registers
  pub runs : runs_ok_of (fixed_of s) k s.vector s.bytes ≡ true
  pub fixed : fixed_of s ≡ l.fixed

-- Every reached state is sound.
abbrev pub ReachedSound : Type 0
ReachedSound = (k : List ℕ) (l : Launch) (s : State) → Reached k l s → Sound k l s

-- A reached state is never refused with 1 or 2: by a step, or by a release.
pub record Accepted (k : List ℕ) (s : State) : Type 0 where
  pub step1 : (step_of k s).code ≡ 1 → ⊥
  pub step2 : (step_of k s).code ≡ 2 → ⊥
  pub release2 : (release_of s.warp).code ≡ 2 → ⊥

abbrev pub NeverMalformed : Type 0
NeverMalformed = (k : List ℕ) (l : Launch) (s : State) → Reached k l s → Accepted k s
