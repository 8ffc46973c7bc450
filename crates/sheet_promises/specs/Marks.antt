-- What marking promises. k is the kernel, l the launch, v the vector file, d the data, s the sheet handed in, t a target for the model sheet.
use Rattle.std.specs.Prelude.{ℕ, suc, ◌<◌, ◌≤◌, ◌≡◌, true, false, List, [], ◌∷◌, ◌++◌, length, take, drop, replicate, Result}
use Rattle.std.specs.Result.{result_unwrap_or}
use Rattle.answer.specs.declared.Refusal.{Refusal}
use Rattle.answer.specs.Answer.{number_of}
use Rattle.answer.specs.Rows.{Iff}
use Rattle.lanes.specs.Lanes.{file_words}
use Rattle.memory.specs.Memories.{alone}
use Rattle.warp.specs.declared.Launch.{Launch}
use Rattle.definition.specs.State.{State}
use Rattle.definition.specs.Calls.{launch_of, run_of}
use Rattle.promises.specs.Determined.{DeterminedWhole}
use Rattle.sheet_lines.specs.declared.Marks.{Marks}
use Rattle.sheet_lines.specs.declared.Marks.TheVariants.{NoMarks, Full, Differs, Short, Long}
use Rattle.sheet_lines.specs.Sheet.{head_size, step_limit, sheet_of, sheet_ok_of, lines_in}
use Rattle.sheet.specs.declared.Marked.{Marked}
use Rattle.sheet.specs.Mark.{own_start, own_of, no_steps, LentRuns, lent_runs, Marking, marking, mark_of, Modelling, modelling, model_of, sheet_room, unmarked}
use Rattle.sheet_promises.specs.Sheets.{AllBytes}

-- the bytes that the model call wrote
abbrev pub written_of : Modelling → List ℕ
written_of r = take r.written r.target

-- ---- full marks

-- Full marks exactly when the sheet is, byte for byte, what the model call writes.
abbrev pub FullExactly : Type 0
FullExactly =
    (k : List ℕ) (l : Launch) (v d s t : List ℕ) → AllBytes s → sheet_room ≤ length t
    → Iff ((mark_of k l v d s).marks ≡ Full) (((model_of k l v d t).number ≡ 0) × (s ≡ written_of (model_of k l v d t)))

-- The model sheet gets full marks.
abbrev pub ModelFull : Type 0
ModelFull = (k : List ℕ) (l : Launch) (v d t : List ℕ) → (model_of k l v d t).number ≡ 0 → (mark_of k l v d (written_of (model_of k l v d t))).marks ≡ Full

-- An empty file is refused with 16 wherever the launch isn't refused, and never gets full marks.
abbrev pub EmptyRefused : Type 0
EmptyRefused = (k : List ℕ) (l : Launch) (v d : List ℕ) → (launch_of k l v (alone d)).code ≡ 0 → mark_of k l v d [] ≡ marking 16 NoMarks 0 (lent_runs v d)

abbrev pub EmptyNever : Type 0
EmptyNever = (k : List ℕ) (l : Launch) (v d : List ℕ) → (mark_of k l v d []).marks ≡ Full → ⊥

-- A sheet of no steps never does, nor does the model sheet cut anywhere.
abbrev pub NoStepsNever : Type 0
NoStepsNever = (k : List ℕ) (l : Launch) (v d s : List ℕ) → length s ≡ head_size → (mark_of k l v d s).marks ≡ Full → ⊥

abbrev pub CutNever : Type 0
CutNever =
    (k : List ℕ) (l : Launch) (v d t : List ℕ) (n : ℕ) → (model_of k l v d t).number ≡ 0 → n < (model_of k l v d t).written
    → (mark_of k l v d (take n (model_of k l v d t).target)).marks ≡ Full → ⊥

-- ---- each mark, when and only when

-- the run's own lines and those of the sheet part after the lines `common`
pub record Parts (n : ℕ) (own given : List (List ℕ)) : Type 0 where
  pub common : List (List ℕ)
  pub a : List ℕ
  pub b : List ℕ
  pub own_rest : List (List ℕ)
  pub given_rest : List (List ℕ)
  pub own_is : own ≡ common ++ (a ∷ own_rest)
  pub given_is : given ≡ common ++ (b ∷ given_rest)
  pub differ : a ≡ b → ⊥
  pub step : n ≡ suc (length common)

-- `whole` goes on after `part`
pub record Beyond (whole part : List (List ℕ)) : Type 0 where
  pub next : List ℕ
  pub rest : List (List ℕ)
  pub is : whole ≡ part ++ (next ∷ rest)

-- Differs names the first differing step, counted from 1: those before it are the same, and it is not. Short and long: all lines of the one are the first lines of the other.
pub record Says (own given : List (List ℕ)) (m : Marks) : Type 0 where
  pub full : Iff (m ≡ Full) (own ≡ given)
  pub differs : (n : ℕ) → Iff (m ≡ Differs n) (Parts n own given)
  pub short : Iff (m ≡ Short) (Beyond own given)
  pub long : Iff (m ≡ Long) (Beyond given own)
  pub some : m ≡ NoMarks → ⊥

abbrev pub MarkSays : Type 0
MarkSays = (k : List ℕ) (l : Launch) (v d s : List ℕ) → (mark_of k l v d s).number ≡ 0 → Says (own_of k l v d) (lines_in s) (mark_of k l v d s).marks

-- ---- each number, when and only when

pub record MarkNumbers (k : List ℕ) (l : Launch) (v d s : List ℕ) : Type 0 where
  pub done : Iff ((mark_of k l v d s).number ≡ 0) (((launch_of k l v (alone d)).code ≡ 0) × (sheet_ok_of s ≡ true) × (no_steps k l v d ≡ false))
  pub size : Iff ((mark_of k l v d s).number ≡ 1) ((launch_of k l v (alone d)).code ≡ 1)
  pub sheet : Iff ((mark_of k l v d s).number ≡ 16) (((launch_of k l v (alone d)).code ≡ 0) × (sheet_ok_of s ≡ false))
  pub none : Iff ((mark_of k l v d s).number ≡ 17) (((launch_of k l v (alone d)).code ≡ 0) × (sheet_ok_of s ≡ true) × (no_steps k l v d ≡ true))

abbrev pub MarkAnswers : Type 0
MarkAnswers = (k : List ℕ) (l : Launch) (v d s : List ℕ) → MarkNumbers k l v d s

pub record ModelNumbers (k : List ℕ) (l : Launch) (v d t : List ℕ) : Type 0 where
  pub done : Iff ((model_of k l v d t).number ≡ 0) (((launch_of k l v (alone d)).code ≡ 0) × (sheet_room ≤ length t) × (no_steps k l v d ≡ false))
  pub none : Iff ((model_of k l v d t).number ≡ 17) (((launch_of k l v (alone d)).code ≡ 0) × (sheet_room ≤ length t) × (no_steps k l v d ≡ true))
  pub others : ((model_of k l v d t).number ≡ 0 → ⊥) → ((model_of k l v d t).number ≡ 17 → ⊥) → (model_of k l v d t).number ≡ 1

abbrev pub ModelAnswers : Type 0
ModelAnswers = (k : List ℕ) (l : Launch) (v d t : List ℕ) → ModelNumbers k l v d t

-- ---- what is left

-- the vector file and the data after the run
abbrev pub ran_lent : List ℕ → State → LentRuns
ran_lent k m = lent_runs (run_of k step_limit m).ends.left.vector (run_of k step_limit m).ends.left.bytes.data_bytes

-- the number n, and what is left
pub record LeftBy (k : List ℕ) (l : Launch) (v d : List ℕ) (n : ℕ) (e : LentRuns) : Type 0 where
  pub done : n ≡ 0 → e ≡ ran_lent k (own_start k l v d)
  pub size : n ≡ 1 → e ≡ lent_runs v d
  pub sheet : n ≡ 16 → e ≡ lent_runs v d
  pub none : n ≡ 17 → e ≡ lent_runs (replicate file_words 0) d

abbrev pub MarkLeaves : Type 0
MarkLeaves = (k : List ℕ) (l : Launch) (v d s : List ℕ) → LeftBy k l v d (mark_of k l v d s).number (mark_of k l v d s).left

abbrev pub ModelLeaves : Type 0
ModelLeaves = (k : List ℕ) (l : Launch) (v d t : List ℕ) → LeftBy k l v d (model_of k l v d t).number (model_of k l v d t).left

-- A refused model call leaves the target as it was; any other puts the sheet at its start and leaves the rest.
abbrev pub TargetKept : Type 0
TargetKept = (k : List ℕ) (l : Launch) (v d t : List ℕ) → ((model_of k l v d t).number ≡ 0 → ⊥) → (model_of k l v d t).target ≡ t

abbrev pub TargetWritten : Type 0
TargetWritten = (k : List ℕ) (l : Launch) (v d t : List ℕ) → (model_of k l v d t).number ≡ 0 → (model_of k l v d t).target ≡ sheet_of (own_of k l v d) ++ drop (length (sheet_of (own_of k l v d))) t

-- ---- two results that a contract allows are equal

pub record MarkLeft : Type 0 where
  pub result : Result Marked Refusal
  pub left : LentRuns

pub record ModelLeft : Type 0 where
  pub result : Result ℕ Refusal
  pub target : List ℕ
  pub left : LentRuns

abbrev pub mark_seen : MarkLeft → Marking
mark_seen r = marking (number_of r.result) (result_unwrap_or r.result unmarked).marks (result_unwrap_or r.result unmarked).steps r.left

abbrev pub model_seen : ModelLeft → Modelling
model_seen r = modelling (number_of r.result) (result_unwrap_or r.result 0) r.target r.left

abbrev pub MarkDetermined : Type 0
MarkDetermined = (k v d s : List ℕ) → DeterminedWhole mark_seen (λ (l : Launch). mark_of k l v d s)

abbrev pub ModelDetermined : Type 0
ModelDetermined = (k v d t : List ℕ) → DeterminedWhole model_seen (λ (l : Launch). model_of k l v d t)
