-- What a caller is promised of a group's calls. What a call leaves (`GroupLaunchCalled`, `GroupCalled`) is all that its caller sees.
use Rattle.std.specs.Prelude.{ℕ, ◌≡◌, true, List, [], ◌∷◌, length, get_or}
use Rattle.answer.specs.Rows.{one_of}
use Rattle.memory.specs.Memories.{Contents}
use Rattle.group_launch.specs.GroupLaunchCall.{cards_in, group_launch_called, group_blank_of, group_launch_call_of}
use Rattle.group_state.specs.GroupState.{GroupCalled, group_called, group_step_call_of, group_run_call_of}
use Rattle.promises.specs.Determined.{DeterminedWhole}
use Rattle.group_promises.specs.Refusals.{group_numbers}

-- ---- answers

-- A launch answers 0, 1 or 13; a step and a run 0 or a number of a group's table.
abbrev pub GroupLaunchCallAnswers : Type 0
GroupLaunchCallAnswers = (cs k v : List ℕ) (c : Contents) (s : List ℕ) → one_of (0 ∷ 1 ∷ 13 ∷ []) (group_launch_call_of cs k v c s).number ≡ true

abbrev pub GroupStepCallAnswers : Type 0
GroupStepCallAnswers = (s k v : List ℕ) (c : Contents) (t : List ℕ) → one_of (0 ∷ group_numbers) (group_step_call_of s k v c t).number ≡ true

abbrev pub GroupRunCallAnswers : Type 0
GroupRunCallAnswers = (s k : List ℕ) (b : ℕ) (v : List ℕ) (c : Contents) (t : List ℕ) → one_of (0 ∷ group_numbers) (group_run_call_of s k b v c t).number ≡ true

-- ---- what a refusal leaves

-- A refused launch zeroes a state of as many warps as there are whole cards, leaves one of another length, and leaves the vector files.
abbrev pub GroupLaunchCallKeeps : Type 0
GroupLaunchCallKeeps =
    (cs k v : List ℕ) (c : Contents) (s : List ℕ) → ((group_launch_call_of cs k v c s).number ≡ 0 → ⊥)
    → group_launch_call_of cs k v c s ≡ group_launch_called (group_launch_call_of cs k v c s).number (group_blank_of (cards_in cs) s) v

-- the state, the vector files and the memories are as they were lent
pub record AsLent (s v : List ℕ) (c : Contents) (r : GroupCalled) : Type 0 where
  pub state : r.state ≡ s
  pub vector : r.vector ≡ v
  pub bytes : r.bytes ≡ c

-- A refused step leaves all as lent but the word for the WID, whatever the words are; and so does a run that takes no step, but its two words.
abbrev pub GroupStepCallKeeps : Type 0
GroupStepCallKeeps = (s k v : List ℕ) (c : Contents) (t : List ℕ) → ((group_step_call_of s k v c t).number ≡ 0 → ⊥) → AsLent s v c (group_step_call_of s k v c t)

abbrev pub GroupRunCallKeeps : Type 0
GroupRunCallKeeps =
    (s k : List ℕ) (b : ℕ) (v : List ℕ) (c : Contents) (t : List ℕ) → length t ≡ 2 → get_or (group_run_call_of s k b v c t).told 0 0 ≡ 0
    → AsLent s v c (group_run_call_of s k b v c t)

-- A call whose answer's words have no room leaves all as lent, these too, and answers 1.
abbrev pub GroupStepCallRoom : Type 0
GroupStepCallRoom = (s k v : List ℕ) (c : Contents) (t : List ℕ) → (length t ≡ 1 → ⊥) → group_step_call_of s k v c t ≡ group_called 1 s v c t

abbrev pub GroupRunCallRoom : Type 0
GroupRunCallRoom = (s k : List ℕ) (b : ℕ) (v : List ℕ) (c : Contents) (t : List ℕ) → (length t ≡ 2 → ⊥) → group_run_call_of s k b v c t ≡ group_called 1 s v c t

-- ---- two results that a contract allows are equal

-- a caller sees all of a result
abbrev pub whole : {R : Type 0} → R → R
whole r = r

abbrev pub GroupLaunchCallDetermined : Type 0
GroupLaunchCallDetermined = (cs k v : List ℕ) (c : Contents) → DeterminedWhole whole (group_launch_call_of cs k v c)

abbrev pub GroupStepCallDetermined : Type 0
GroupStepCallDetermined = (k v : List ℕ) (c : Contents) (t : List ℕ) → DeterminedWhole whole (λ (s : List ℕ). group_step_call_of s k v c t)

abbrev pub GroupRunCallDetermined : Type 0
GroupRunCallDetermined = (k : List ℕ) (b : ℕ) (v : List ℕ) (c : Contents) (t : List ℕ) → DeterminedWhole whole (λ (s : List ℕ). group_run_call_of s k b v c t)
