-- Marking a sheet, and writing the model sheet, from the files' bytes: what the two calls answer and leave.
use Rattle.std.specs.Prelude.{ℕ, Bool, ◌&&◌, cond, List, eqb, length}
use Rattle.lanes.specs.Lanes.{file_words}
use Rattle.launch_files.specs.LaunchFiles.{kernel_words_of, read_files_of}
use Rattle.sheet_lines.specs.declared.Marks.TheVariants.{NoMarks}
use Rattle.sheet_lines.specs.Sheet.{steps_in}
use Rattle.sheet_lines.specs.Compare.{marks_step}
use Rattle.sheet.specs.Mark.{LentRuns, lent_runs, Marking, marking, mark_of, Modelling, modelling, model_of}
use Rattle.sheet_text.specs.Put.{Put, room_for, mark_line_into}

-- ---- the files c, k and d, with the vector file v lent: their tests first, then what the calls for a launch say

-- of the sheet s
unfoldable pub marked_of : List ℕ → List ℕ → List ℕ → List ℕ → List ℕ → Marking
marked_of c k d v s =
    let r = read_files_of c k d in
    cond (eqb r.number 0) (mark_of (kernel_words_of k) r.launch v d s) (marking r.number NoMarks 0 (lent_runs v d))

-- into the target t
unfoldable pub modelled_of : List ℕ → List ℕ → List ℕ → List ℕ → List ℕ → Modelling
modelled_of c k d v t =
    let r = read_files_of c k d in
    cond (eqb r.number 0) (model_of (kernel_words_of k) r.launch v d t) (modelling r.number 0 t (lent_runs v d))

-- ---- the line of the sheet s under a name, at the start of o

-- its length, the refusal's number, the differing step (0: none), the buffer, and what is left
pub record Lined : Type 0 where
  pub size : ℕ
  pub number : ℕ
  pub step : ℕ
  pub out : List ℕ
  pub left : LentRuns

abbrev pub lined : ℕ → ℕ → ℕ → List ℕ → LentRuns → Lined
lined size n i o e = record { size = size; number = n; step = i; out = o; left = e }

abbrev pub lined_of : List ℕ → List ℕ → List ℕ → Marking → Lined
lined_of s name o a =
    let p : Put = mark_line_into name a.number a.marks (steps_in s) a.steps o in
    lined p.size a.number (marks_step a.marks) p.out a.left

-- a whole vector file, and room for every line of the name
unfoldable pub line_buffers_ok : List ℕ → List ℕ → List ℕ → Bool
line_buffers_ok v name o = eqb (length v) file_words && room_for name o

-- else 1: nothing is put and nothing changes
unfoldable pub mark_files_of : List ℕ → List ℕ → List ℕ → List ℕ → List ℕ → List ℕ → List ℕ → Lined
mark_files_of c k d v s name o = cond (line_buffers_ok v name o) (lined_of s name o (marked_of c k d v s)) (lined 0 1 0 o (lent_runs v d))
