-- What a C host is promised of the calls on a state of 241 words. What a call leaves (`Called`, `RunCalled`, `Saving`) is all that its caller sees.
use Rattle.std.specs.Prelude.{ℕ, ◌≡◌, true, List, [], ◌∷◌, length}
use Rattle.answer.specs.Rows.{one_of}
use Rattle.memory.specs.Memories.{alone}
use Rattle.warp.specs.declared.Launch.{Launch}
use Rattle.warp.specs.declared.Warp.{Warp}
use Rattle.layout.specs.Words.{words_of}
use Rattle.definition.specs.State.{State, state}
use Rattle.definition.specs.Refuse.{step_numbers}
use Rattle.definition.specs.Step.{step_of}
use Rattle.definition.specs.Calls.{run_of, release_of}
use Rattle.card.specs.Card.{read_card_of}
use Rattle.saved.specs.Saved.{Saving, saving}
use Rattle.capi.specs.Calls.{Called, called, leaving, blank_of, launch_call_of, step_call_of, RunCalled, run_called, run_call_of, release_call_of}
use Rattle.capi_words.specs.Words.{decode_call_of}
use Rattle.promises.specs.Determined.{DeterminedWhole}
use Rattle.promises.specs.Reached.{Reached}

-- ---- answers

-- A launch answers 0, 1 or 13; a step and a run 0 or a number of a step's table; a release 0, 1, 2 or 12; a decoding 0 or 6.
abbrev pub LaunchCallAnswers : Type 0
LaunchCallAnswers = (c k v d s : List ℕ) → one_of (0 ∷ 1 ∷ 13 ∷ []) (launch_call_of c k v d s).number ≡ true

abbrev pub StepCallAnswers : Type 0
StepCallAnswers = (s k v d : List ℕ) → one_of (0 ∷ step_numbers) (step_call_of s k v d).number ≡ true

abbrev pub RunCallAnswers : Type 0
RunCallAnswers = (s k : List ℕ) (n : ℕ) (v d t : List ℕ) → one_of (0 ∷ step_numbers) (run_call_of s k n v d t).call.number ≡ true

abbrev pub ReleaseCallAnswers : Type 0
ReleaseCallAnswers = (s : List ℕ) → one_of (0 ∷ 1 ∷ 2 ∷ 12 ∷ []) (release_call_of s).number ≡ true

abbrev pub DecodeCallAnswers : Type 0
DecodeCallAnswers = (w : ℕ) → one_of (0 ∷ 6 ∷ []) (decode_call_of w) ≡ true

-- ---- what a refusal leaves

-- A refused launch leaves a state of 241 words all zeros, one of another length as it was, and vector file and data as lent.
abbrev pub LaunchCallKeeps : Type 0
LaunchCallKeeps = (c k v d s : List ℕ) → ((launch_call_of c k v d s).number ≡ 0 → ⊥) → launch_call_of c k v d s ≡ called (launch_call_of c k v d s).number (blank_of s) v d

-- A refused step leaves all as lent.
abbrev pub StepCallKeeps : Type 0
StepCallKeeps = (s k v d : List ℕ) → ((step_call_of s k v d).number ≡ 0 → ⊥) → step_call_of s k v d ≡ called (step_call_of s k v d).number s v d

-- A run refused before its first step leaves all as lent but the count's word, which is 0; one whose count has no room leaves that too.
abbrev pub RunCallKeeps : Type 0
RunCallKeeps =
    (s k : List ℕ) (n : ℕ) (v d t : List ℕ) → ((run_call_of s k n v d t).call.number ≡ 0 → ⊥) → (run_call_of s k n v d t).steps ≡ 0 ∷ []
    → (run_call_of s k n v d t).call ≡ called (run_call_of s k n v d t).call.number s v d

abbrev pub RunCallRoom : Type 0
RunCallRoom = (s k : List ℕ) (n : ℕ) (v d t : List ℕ) → (length t ≡ 1 → ⊥) → run_call_of s k n v d t ≡ run_called (called 1 s v d) t

-- A refused release leaves the state as lent.
abbrev pub ReleaseCallKeeps : Type 0
ReleaseCallKeeps = (s : List ℕ) → ((release_call_of s).number ≡ 0 → ⊥) → release_call_of s ≡ saving (release_call_of s).number s

-- ---- two results that a contract allows are equal

-- a caller sees all of a result
abbrev pub whole : {R : Type 0} → R → R
whole r = r

abbrev pub LaunchCallDetermined : Type 0
LaunchCallDetermined = (c k v d : List ℕ) → DeterminedWhole whole (launch_call_of c k v d)

abbrev pub StepCallDetermined : Type 0
StepCallDetermined = (k v d : List ℕ) → DeterminedWhole whole (λ (s : List ℕ). step_call_of s k v d)

abbrev pub RunCallDetermined : Type 0
RunCallDetermined = (k : List ℕ) (n : ℕ) (v d t : List ℕ) → DeterminedWhole whole (λ (s : List ℕ). run_call_of s k n v d t)

abbrev pub ReleaseCallDetermined : Type 0
ReleaseCallDetermined = DeterminedWhole whole release_call_of

abbrev pub DecodeCallDetermined : Type 0
DecodeCallDetermined = DeterminedWhole whole decode_call_of

-- ---- from reached state to reached state

-- the words s, with the vector file v and the data d, are those of a state that the launch l reaches
pub record Holds (k : List ℕ) (l : Launch) (s v d : List ℕ) : Type 0 where
  pub warp : Warp
  pub words : s ≡ words_of warp
  pub reached : Reached k l (state warp v (alone d))

-- what a call leaves holds a reached state
abbrev pub CallLeaves : List ℕ → Launch → Called → Type 0
CallLeaves k l r = Holds k l r.state r.vector r.bytes

-- A launch answered 0 leaves the words of a reached state.
abbrev pub LaunchCallReaches : Type 0
LaunchCallReaches = (c k v d s : List ℕ) → (launch_call_of c k v d s).number ≡ 0 → CallLeaves k (read_card_of c).launch (launch_call_of c k v d s)

-- A step on the words of a reached state is the definition's step, leaves the words of a reached state, refused or not, and is never refused with 1 or 2.
pub record StepOn (k : List ℕ) (l : Launch) (m : State) (r : Called) : Type 0 where
  pub is : r ≡ leaving (step_of k m)
  pub leaves : CallLeaves k l r
  pub not1 : r.number ≡ 1 → ⊥
  pub not2 : r.number ≡ 2 → ⊥

abbrev pub StepCallReaches : Type 0
StepCallReaches = (k : List ℕ) (l : Launch) (s v d : List ℕ) (h : Holds k l s v d) → StepOn k l (state h.warp v (alone d)) (step_call_of s k v d)

-- So is a run, its count the definition's, where the count has its word.
pub record RunOn (k : List ℕ) (l : Launch) (n : ℕ) (m : State) (r : RunCalled) : Type 0 where
  pub is : r ≡ run_called (leaving (run_of k n m).ends) ((run_of k n m).steps ∷ [])
  pub leaves : CallLeaves k l r.call
  pub not1 : r.call.number ≡ 1 → ⊥
  pub not2 : r.call.number ≡ 2 → ⊥

abbrev pub RunCallReaches : Type 0
RunCallReaches =
    (k : List ℕ) (l : Launch) (n : ℕ) (s v d t : List ℕ) (h : Holds k l s v d) → length t ≡ 1 → RunOn k l n (state h.warp v (alone d)) (run_call_of s k n v d t)

-- So is a release: it answers 0 or 12.
pub record ReleaseOn (k : List ℕ) (l : Launch) (m : State) (r : Saving) : Type 0 where
  pub is : r ≡ saving (release_of m.warp).code (words_of (release_of m.warp).warp)
  pub leaves : Holds k l r.state m.vector m.bytes.data_bytes
  pub not1 : r.number ≡ 1 → ⊥
  pub not2 : r.number ≡ 2 → ⊥

abbrev pub ReleaseCallReaches : Type 0
ReleaseCallReaches = (k : List ℕ) (l : Launch) (s v d : List ℕ) (h : Holds k l s v d) → ReleaseOn k l (state h.warp v (alone d)) (release_call_of s)
