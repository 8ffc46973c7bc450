-- The calls for C and Rust: a warp is lent as a state of 241 words.
use Rattle.std.specs.Prelude.{ℕ, Bool, not, cond, List, [], ◌∷◌, eqb, length, replicate}
use Rattle.answer.specs.Rows.{Row, ◌⇒◌, first}
use Rattle.memory.specs.Memories.{alone}
use Rattle.warp.specs.Warp.{Answered}
use Rattle.layout.specs.Words.{state_words, is_state, words_of, warp_in, sound_in}
use Rattle.definition.specs.State.{state, Outcome}
use Rattle.definition.specs.Refuse.{runs_ok_of}
use Rattle.definition.specs.Step.{step_of}
use Rattle.definition.specs.Calls.{launch_of, Ran, run_of, release_of}
use Rattle.card.specs.Card.{Reading, read_card_of}
use Rattle.saved.specs.Saved.{Saving, saving, restore_tests}

-- what a call leaves: its number, the state, the vector file and the data memory
pub record Called : Type 0 where
  pub number : ℕ
  pub state : List ℕ
  pub vector : List ℕ
  pub bytes : List ℕ

abbrev pub called : ℕ → List ℕ → List ℕ → List ℕ → Called
called n s v d = record { number = n; state = s; vector = v; bytes = d }

-- what the definition leaves
abbrev pub leaving : Outcome → Called
leaving o = called o.code (words_of o.left.warp) o.left.vector o.left.bytes.data_bytes

-- the refusal n, which leaves all as it was handed in; or, where n is 0, what the definition leaves
abbrev pub unless_called : ℕ → Outcome → List ℕ → List ℕ → List ℕ → Called
unless_called n o s v d = cond (eqb n 0) (leaving o) (called n s v d)

-- ---- launch, from a card c

-- a refused launch leaves a state of 241 words all zeros, and one of another length as it was
abbrev pub blank_of : List ℕ → List ℕ
blank_of s = cond (is_state s) (replicate state_words 0) s

unfoldable pub launch_call_of : List ℕ → List ℕ → List ℕ → List ℕ → List ℕ → Called
launch_call_of c k v d s =
    let r : Reading = read_card_of c in
    let o : Outcome = launch_of k r.launch v (alone d) in
    let n : ℕ = first (r.number ⇒ not (eqb r.number 0) ∷ 1 ⇒ not (is_state s) ∷ o.code ⇒ not (eqb o.code 0) ∷ []) in
    unless_called n o (blank_of s) v d

-- ---- step and run

-- refusals 1 and 2 of the state as words; the definition's own tests of the warp come after them
abbrev pub words_tests : List ℕ → List ℕ → List ℕ → List ℕ → List (Row Bool)
words_tests s k v d = 1 ⇒ not (is_state s) ∷ 1 ⇒ not (runs_ok_of (warp_in s).fixed k v (alone d)) ∷ 2 ⇒ not (sound_in s) ∷ []

unfoldable pub step_call_of : List ℕ → List ℕ → List ℕ → List ℕ → Called
step_call_of s k v d = unless_called (first (words_tests s k v d)) (step_of k (state (warp_in s) v (alone d))) s v d

-- what a run leaves: also the run of one word for the count
pub record RunCalled : Type 0 where
  pub call : Called
  pub steps : List ℕ

abbrev pub run_called : Called → List ℕ → RunCalled
run_called c t = record { call = c; steps = t }

-- the count n where it fits
abbrev pub count_in : ℕ → List ℕ → List ℕ
count_in n t = cond (eqb (length t) 1) (n ∷ []) t

-- a count of 0 where a run was refused before its first step
unfoldable pub run_call_of : List ℕ → List ℕ → ℕ → List ℕ → List ℕ → List ℕ → RunCalled
run_call_of s k budget v d t =
    let n : ℕ = first (1 ⇒ not (eqb (length t) 1) ∷ words_tests s k v d) in
    let r : Ran = run_of k budget (state (warp_in s) v (alone d)) in
    run_called (unless_called n r.ends s v d) (count_in (cond (eqb n 0) r.steps 0) t)

-- ---- release, which lends no run but the state: refused as restoring it is

unfoldable pub release_call_of : List ℕ → Saving
release_call_of s =
    let n : ℕ = first (restore_tests s) in
    let a : Answered = release_of (warp_in s) in
    cond (eqb n 0) (saving a.code (words_of a.warp)) (saving n s)
