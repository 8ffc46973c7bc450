-- From reached group to reached group: a host that launches a group and then steps and runs its words is never refused with 1 or 2.
use Rattle.std.specs.Prelude.{ℕ, ◌≡◌, List, [], ◌∷◌, length}
use Rattle.memory.specs.Memories.{Contents}
use Rattle.warp.specs.declared.Launch.{Launch}
use Rattle.warp.specs.declared.Warp.{Warp}
use Rattle.group.specs.Group.{Group, group}
use Rattle.group.specs.GroupCalls.{GroupOutcome, group_step_of, group_run_of}
use Rattle.group_words.specs.StateWords.{state_words_of}
use Rattle.group_launch.specs.GroupLaunchCall.{cards_in, launches_of, group_launch_call_of}
use Rattle.group_state.specs.GroupState.{GroupCalled, group_called, group_step_call_of, group_run_call_of}
use Rattle.group_promises.specs.Reached.{GroupReached}

-- the words s, with the vector files v and the memories c, are those of a group that the launches ls reach
pub record GroupHolds (k : List ℕ) (ls : List Launch) (s v : List ℕ) (c : Contents) : Type 0 where
  pub turn : ℕ
  pub warps : List Warp
  pub words : s ≡ state_words_of (group turn warps v c)
  pub reached : GroupReached k ls (group turn warps v c)

-- the group that they hold
abbrev pub held_in : {k : List ℕ} {ls : List Launch} {s v : List ℕ} {c : Contents} → GroupHolds k ls s v c → Group
held_in {v = v} {c = c} h = group h.turn h.warps v c

-- the outcome o as a call leaves it, with the answer's words t
abbrev pub leaving_of : GroupOutcome → List ℕ → GroupCalled
leaving_of o t = group_called o.code (state_words_of o.left) o.left.vector o.left.bytes t

-- r is that outcome; it holds a reached group, refused or not, and its number is neither 1 nor 2
pub record GroupOn (k : List ℕ) (ls : List Launch) (o : GroupOutcome) (t : List ℕ) (r : GroupCalled) : Type 0 where
  pub is : r ≡ leaving_of o t
  pub leaves : GroupHolds k ls r.state r.vector r.bytes
  pub not1 : r.number ≡ 1 → ⊥
  pub not2 : r.number ≡ 2 → ⊥

-- ---- promises

-- A launch answered 0 leaves the words of a reached group.
abbrev pub GroupLaunchCallReaches : Type 0
GroupLaunchCallReaches =
    (cs k v : List ℕ) (c : Contents) (s : List ℕ) → (group_launch_call_of cs k v c s).number ≡ 0
    → GroupHolds k (launches_of (cards_in cs) cs) (group_launch_call_of cs k v c s).state (group_launch_call_of cs k v c s).vector c

-- A step and a run on the words of a reached group are the definition's, where the answer has its words.
abbrev pub GroupStepCallReaches : Type 0
GroupStepCallReaches =
    (k : List ℕ) (ls : List Launch) (s v : List ℕ) (c : Contents) (t : List ℕ) (h : GroupHolds k ls s v c) → length t ≡ 1
    → GroupOn k ls (group_step_of k (held_in h)) ((group_step_of k (held_in h)).stopped ∷ []) (group_step_call_of s k v c t)

abbrev pub GroupRunCallReaches : Type 0
GroupRunCallReaches =
    (k : List ℕ) (ls : List Launch) (b : ℕ) (s v : List ℕ) (c : Contents) (t : List ℕ) (h : GroupHolds k ls s v c) → length t ≡ 2
    → GroupOn k ls (group_run_of k b (held_in h)).ends ((group_run_of k b (held_in h)).steps ∷ (group_run_of k b (held_in h)).ends.stopped ∷ []) (group_run_call_of s k b v c t)
