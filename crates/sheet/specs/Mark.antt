-- Marking a sheet, and writing the model sheet: what the two calls answer and leave.
use Rattle.std.specs.Prelude.{ℕ, Bool, not, cond, List, [], ◌∷◌, ◌++◌, eqb, leb, length}
use Rattle.std.proofs.lemmas.List.Edits.{sets}
use Rattle.answer.specs.Rows.{Row, ◌⇒◌, first}
use Rattle.memory.specs.Memories.{alone}
use Rattle.warp.specs.declared.Launch.{Launch}
use Rattle.definition.specs.State.{State}
use Rattle.definition.specs.Refuse.{launch_tests}
use Rattle.definition.specs.Calls.{launch_of, run_of}
use Rattle.sheet_lines.specs.declared.Marks.{Marks}
use Rattle.sheet_lines.specs.declared.Marks.TheVariants.{NoMarks}
use Rattle.sheet.specs.declared.Marked.{Marked}
use Rattle.sheet_lines.specs.Sheet.{step_limit, sheet_size, lines_of, sheet_of, sheet_ok_of, lines_in}
use Rattle.sheet_lines.specs.Compare.{compare_of}

-- ---- the run that is marked: kernel k, launch l, vector file v, data memory d

-- from the state that the launch leaves, to the first refusal or 4,096 steps
abbrev pub own_start : List ℕ → Launch → List ℕ → List ℕ → State
own_start k l v d = (launch_of k l v (alone d)).left

unfoldable pub own_of : List ℕ → Launch → List ℕ → List ℕ → List (List ℕ)
own_of k l v d = lines_of k step_limit (own_start k l v d)

unfoldable pub own_end : List ℕ → Launch → List ℕ → List ℕ → State
own_end k l v d = (run_of k step_limit (own_start k l v d)).ends.left

-- a run of no steps is 17
abbrev pub no_steps : List ℕ → Launch → List ℕ → List ℕ → Bool
no_steps k l v d = eqb (length (own_of k l v d)) 0

-- vector file and data memory afterwards
pub record LentRuns : Type 0 where
  pub vector : List ℕ
  pub bytes : List ℕ

abbrev pub lent_runs : List ℕ → List ℕ → LentRuns
lent_runs v d = record { vector = v; bytes = d }

-- not refused: as the run leaves them; 17: as the launch does, the file cleared and the data as lent; any other refusal: as lent
unfoldable pub lent_runs_of : ℕ → List ℕ → Launch → List ℕ → List ℕ → LentRuns
lent_runs_of n k l v d =
    let e : State = own_end k l v d in
    let m : State = own_start k l v d in
    cond (eqb n 0) (lent_runs e.vector e.bytes.data_bytes) (cond (eqb n 17) (lent_runs m.vector m.bytes.data_bytes) (lent_runs v d))

-- ---- marking a sheet s

-- the number, the marks, how many steps the run has, and what is left
pub record Marking : Type 0 where
  pub number : ℕ
  pub marks : Marks
  pub steps : ℕ
  pub left : LentRuns

-- what a refused one is worth
abbrev pub unmarked : Marked
unmarked = record { marks = NoMarks; steps = 0 }

abbrev pub marking : ℕ → Marks → ℕ → LentRuns → Marking
marking n a t e = record { number = n; marks = a; steps = t; left = e }

abbrev pub mark_tests : List ℕ → Launch → List ℕ → List ℕ → List ℕ → List (Row Bool)
mark_tests k l v d s = launch_tests k l v (alone d) ++ (16 ⇒ not (sheet_ok_of s) ∷ 17 ⇒ no_steps k l v d ∷ [])

-- refused: no marks, no steps
unfoldable pub mark_of : List ℕ → Launch → List ℕ → List ℕ → List ℕ → Marking
mark_of k l v d s =
    let n : ℕ = first (mark_tests k l v d s) in
    let own : List (List ℕ) = own_of k l v d in
    let e : LentRuns = lent_runs_of n k l v d in
    cond (eqb n 0) (marking n (compare_of 1 own (lines_in s)) (length own) e) (marking n NoMarks 0 e)

-- ---- the model sheet, into a target t

-- the number, the bytes written, the target and what is left
pub record Modelling : Type 0 where
  pub number : ℕ
  pub written : ℕ
  pub target : List ℕ
  pub left : LentRuns

abbrev pub modelling : ℕ → ℕ → List ℕ → LentRuns → Modelling
modelling n w t e = record { number = n; written = w; target = t; left = e }

-- room for the largest sheet
abbrev pub sheet_room : ℕ
sheet_room = sheet_size step_limit

abbrev pub model_tests : List ℕ → Launch → List ℕ → List ℕ → List ℕ → List (Row Bool)
model_tests k l v d t = launch_tests k l v (alone d) ++ (1 ⇒ not (leb sheet_room (length t)) ∷ 17 ⇒ no_steps k l v d ∷ [])

-- refused: nothing is written; the bytes past the sheet stay
unfoldable pub model_of : List ℕ → Launch → List ℕ → List ℕ → List ℕ → Modelling
model_of k l v d t =
    let n : ℕ = first (model_tests k l v d t) in
    let s : List ℕ = sheet_of (own_of k l v d) in
    let e : LentRuns = lent_runs_of n k l v d in
    cond (eqb n 0) (modelling n (length s) (sets t 0 s) e) (modelling n 0 t e)
