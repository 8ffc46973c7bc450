-- Marking and modelling from files by cases, in the order in which the files are tested.
use Prim.Native.Nat.{ℕ}
use mathlib.Core.Path.{◌≡◌}
use mathlib.Core.Bool.{true, false}
use mathlib.Core.List.{List}
use borrow.Author.Tests.{ne_eqb}
use Rattle.card.specs.Card.{Reading}
use Rattle.launch_files.specs.LaunchFiles.{kernel_words_of, read_files_of}
use Rattle.sheet_lines.specs.declared.Marks.TheVariants.{NoMarks}
use Rattle.sheet_lines.specs.Sheet.{steps_in}
use Rattle.sheet_lines.specs.Compare.{marks_step}
use Rattle.sheet.specs.Mark.{lent_runs, Marking, marking, mark_of, modelling, model_of}
use Rattle.sheet_text.specs.Put.{Put, mark_line_into}
use Rattle.sheet_files.specs.SheetFiles.{marked_of, modelled_of, lined, line_buffers_ok, mark_files_of}

-- t the sheet that is marked, or the target
module _ (c k d v t : List ℕ) (r : Reading) (e : r ≡ read_files_of c k d) where
  pub mark_refused : (r.number ≡ 0 → ⊥) → marking r.number NoMarks 0 (lent_runs v d) ≡ marked_of c k d v t
  unfolding marked_of
  mark_refused h = rw (← e, ne_eqb r.number 0 h)

  pub model_refused : (r.number ≡ 0 → ⊥) → modelling r.number 0 t (lent_runs v d) ≡ modelled_of c k d v t
  unfolding modelled_of
  model_refused h = rw (← e, ne_eqb r.number 0 h)

  module _ (h : r.number ≡ 0) (ws : List ℕ) (w : ws ≡ kernel_words_of k) where
    pub mark_taken : mark_of ws r.launch v d t ≡ marked_of c k d v t
    unfolding marked_of
    mark_taken = rw (← e, h, w)

    pub model_taken : model_of ws r.launch v d t ≡ modelled_of c k d v t
    unfolding modelled_of
    model_taken = rw (← e, h, w)

-- ---- the line

module _ (c k d v s name o : List ℕ) where
  pub line_short : line_buffers_ok v name o ≡ false → lined 0 1 0 o (lent_runs v d) ≡ mark_files_of c k d v s name o
  unfolding mark_files_of
  line_short e = rw e

  pub line_done : line_buffers_ok v name o ≡ true → (a : Marking) → a ≡ marked_of c k d v s → (p : Put) → p ≡ mark_line_into name a.number a.marks (steps_in s) a.steps o
      → lined p.size a.number (marks_step a.marks) p.out a.left ≡ mark_files_of c k d v s name o
  unfolding mark_files_of
  line_done e a f p q = rw (e, ← f, ← q)
