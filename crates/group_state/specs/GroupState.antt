-- The group that a state's words stand for, and the calls on a state.
use Rattle.std.specs.Prelude.{ℕ, ◌+◌, ◌-◌, ◌*◌, ◌/◌, Bool, not, cond, ◌&&◌, List, [], ◌∷◌, eqb, length, get_or, take, drop}
use Rattle.answer.specs.Rows.{Row, ◌⇒◌, first, between}
use Rattle.memory.specs.Memories.{Contents}
use Rattle.warp.specs.declared.Warp.{Warp}
use Rattle.layout.specs.Words.{state_words, warp_in, sound_in}
use Rattle.group.specs.Group.{Group, group, fixeds_of}
use Rattle.lanes.specs.Lanes.{all_below}
use Rattle.group.specs.GroupRefuse.{warps_limit, sizes_ok_of}
use Rattle.group.specs.GroupCalls.{GroupOutcome, group_step_of, GroupRan, group_run_of}
use Rattle.group_words.specs.Row.{tabulate}
use Rattle.group_words.specs.StateWords.{group_words, state_words_of}

-- ---- what words stand for: how many warps a state has room for, and whether it is a group's of 1 to 32 warps

abbrev pub count_in : List ℕ → ℕ
count_in s = (length s - 1) / state_words

abbrev pub is_group : List ℕ → Bool
is_group s = eqb (length s) (group_words (count_in s)) && between 1 (count_in s) warps_limit

-- warp i's words
abbrev pub words_in : ℕ → List ℕ → List ℕ
words_in i s = take state_words (drop (1 + i * state_words) s)

abbrev pub warps_in : List ℕ → List Warp
warps_in s = tabulate (count_in s) (λ i. warp_in (words_in i s))

abbrev pub group_in : List ℕ → List ℕ → Contents → Group
group_in s v c = group (get_or s 0 0) (warps_in s) v c

-- every warp's words are a warp's
abbrev pub all_sound_in : List ℕ → Bool
all_sound_in s = all_below (count_in s) (λ i. sound_in (words_in i s))

-- ---- the calls on them

-- what a call leaves: its number, the state, the vector files and the memories, and its answer's words
pub record GroupCalled : Type 0 where
  pub number : ℕ
  pub state : List ℕ
  pub vector : List ℕ
  pub bytes : Contents
  pub told : List ℕ

abbrev pub group_called : ℕ → List ℕ → List ℕ → Contents → List ℕ → GroupCalled
group_called n s v c t = record { number = n; state = s; vector = v; bytes = c; told = t }

-- refusals 1 and 2 of the state as words; the definition's own tests come after them
abbrev pub group_words_tests : List ℕ → List ℕ → List ℕ → Contents → List (Row Bool)
group_words_tests s k v c = 1 ⇒ not (is_group s) ∷ 1 ⇒ not (sizes_ok_of k (fixeds_of (group_in s v c)) v c) ∷ 2 ⇒ not (all_sound_in s) ∷ []

-- the words w where the answer's run has room for just these
abbrev pub told_in : List ℕ → List ℕ → List ℕ
told_in w t = cond (eqb (length t) (length w)) w t

-- a refusal n before the first step leaves all as it was handed in; else what the definition leaves
abbrev pub group_leaving : ℕ → GroupOutcome → List ℕ → List ℕ → List ℕ → Contents → List ℕ → List ℕ → GroupCalled
group_leaving n o told s v c refused t =
    cond (eqb n 0) (group_called o.code (state_words_of o.left) o.left.vector o.left.bytes (told_in told t)) (group_called n s v c (told_in refused t))

-- a step: its answer's run has one word, the WID of the warp that stopped the group
unfoldable pub group_step_call_of : List ℕ → List ℕ → List ℕ → Contents → List ℕ → GroupCalled
group_step_call_of s k v c t =
    let o : GroupOutcome = group_step_of k (group_in s v c) in
    group_leaving (first (1 ⇒ not (eqb (length t) 1) ∷ group_words_tests s k v c)) o (o.stopped ∷ []) s v c (0 ∷ []) t

-- a run: two words, the steps taken and that WID
unfoldable pub group_run_call_of : List ℕ → List ℕ → ℕ → List ℕ → Contents → List ℕ → GroupCalled
group_run_call_of s k b v c t =
    let r : GroupRan = group_run_of k b (group_in s v c) in
    group_leaving (first (1 ⇒ not (eqb (length t) 2) ∷ group_words_tests s k v c)) r.ends (r.steps ∷ r.ends.stopped ∷ []) s v c (0 ∷ 0 ∷ []) t
