-- Marking and the model sheet for C and Rust: from a card c, the answer in lent words.
use Rattle.std.specs.Prelude.{ℕ, not, cond, List, [], ◌∷◌, eqb, length}
use Rattle.answer.specs.Rows.{◌⇒◌, first}
use Rattle.card.specs.Card.{Reading, read_card_of}
use Rattle.sheet_lines.specs.declared.Marks.{Marks}
use Rattle.sheet_lines.specs.declared.Marks.TheVariants.{NoMarks}
use Rattle.sheet_lines.specs.Compare.{marks_number, marks_step}
use Rattle.sheet.specs.Mark.{LentRuns, lent_runs, Marking, mark_of, Modelling, model_of}

-- the words ws in a lent run t that has room for just them; another run stays as it was
abbrev pub fitted : List ℕ → List ℕ → List ℕ
fitted ws t = cond (eqb (length t) (length ws)) ws t

-- a result's two words
abbrev pub marks_words : Marks → List ℕ
marks_words m = marks_number m ∷ marks_step m ∷ []

-- what refuses a call before the definition does: the card, then a run t that hasn't room for just n words
abbrev pub call_number : Reading → ℕ → List ℕ → ℕ
call_number r n t = first (r.number ⇒ not (eqb r.number 0) ∷ 1 ⇒ not (eqb (length t) n) ∷ [])

-- ---- marking: what the call leaves, with the result's words

pub record MarkCalled : Type 0 where
  pub number : ℕ
  pub result : List ℕ
  pub left : LentRuns

abbrev pub mark_called : ℕ → List ℕ → LentRuns → MarkCalled
mark_called n t e = record { number = n; result = t; left = e }

unfoldable pub mark_call_of : List ℕ → List ℕ → List ℕ → List ℕ → List ℕ → List ℕ → MarkCalled
mark_call_of c k v d s t =
    let r : Reading = read_card_of c in
    let n : ℕ = call_number r 2 t in
    let a : Marking = mark_of k r.launch v d s in
    cond (eqb n 0) (mark_called a.number (fitted (marks_words a.marks) t) a.left) (mark_called n (fitted (marks_words NoMarks) t) (lent_runs v d))

-- ---- the model sheet: what the call leaves, with the word that counts the bytes written

pub record SheetCalled : Type 0 where
  pub number : ℕ
  pub written : List ℕ
  pub target : List ℕ
  pub left : LentRuns

abbrev pub sheet_called : ℕ → List ℕ → List ℕ → LentRuns → SheetCalled
sheet_called n w t e = record { number = n; written = w; target = t; left = e }

unfoldable pub sheet_call_of : List ℕ → List ℕ → List ℕ → List ℕ → List ℕ → List ℕ → SheetCalled
sheet_call_of c k v d t w =
    let r : Reading = read_card_of c in
    let n : ℕ = call_number r 1 w in
    let a : Modelling = model_of k r.launch v d t in
    cond (eqb n 0) (sheet_called a.number (fitted (a.written ∷ []) w) a.target a.left) (sheet_called n (fitted (0 ∷ []) w) t (lent_runs v d))
