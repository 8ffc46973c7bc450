-- What a C host is promised of the two calls: c is the card, r the run for the result, w that for the count.
use Rattle.std.specs.Prelude.{ℕ, ◌≡◌, true, List, [], ◌∷◌, length}
use Rattle.answer.specs.Rows.{one_of}
use Rattle.sheet_lines.specs.declared.Marks.TheVariants.{NoMarks}
use Rattle.sheet.specs.Mark.{lent_runs}
use Rattle.capi_sheet.specs.Calls.{fitted, marks_words, MarkCalled, mark_call_of, SheetCalled, sheet_call_of}
use Rattle.promises.specs.Determined.{DeterminedWhole}

-- Marking answers 0, 1, 13, 16 or 17, the model sheet 0, 1, 13 or 17.
abbrev pub MarkCallAnswers : Type 0
MarkCallAnswers = (c k v d s r : List ℕ) → one_of (0 ∷ 1 ∷ 13 ∷ 16 ∷ 17 ∷ []) (mark_call_of c k v d s r).number ≡ true

abbrev pub SheetCallAnswers : Type 0
SheetCallAnswers = (c k v d t w : List ℕ) → one_of (0 ∷ 1 ∷ 13 ∷ 17 ∷ []) (sheet_call_of c k v d t w).number ≡ true

-- Where a call is refused the words of its result are 0, and those of a run of another length stay.
abbrev pub MarkCallBlank : Type 0
MarkCallBlank = (c k v d s r : List ℕ) → ((mark_call_of c k v d s r).number ≡ 0 → ⊥) → (mark_call_of c k v d s r).result ≡ fitted (marks_words NoMarks) r

abbrev pub SheetCallBlank : Type 0
SheetCallBlank = (c k v d t w : List ℕ) → ((sheet_call_of c k v d t w).number ≡ 0 → ⊥) → (sheet_call_of c k v d t w).written ≡ fitted (0 ∷ []) w

-- A result that isn't two words: nothing changes.
abbrev pub MarkCallRoom : Type 0
MarkCallRoom = (c k v d s r : List ℕ) → (length r ≡ 2 → ⊥) → ((mark_call_of c k v d s r).result ≡ r) × ((mark_call_of c k v d s r).left ≡ lent_runs v d)

-- Two results that a contract allows are equal: a caller sees all of one.
abbrev pub MarkCallDetermined : Type 0
MarkCallDetermined = (k v d s r : List ℕ) → DeterminedWhole (λ (x : MarkCalled). x) (λ (c : List ℕ). mark_call_of c k v d s r)

abbrev pub SheetCallDetermined : Type 0
SheetCallDetermined = (k v d t w : List ℕ) → DeterminedWhole (λ (x : SheetCalled). x) (λ (c : List ℕ). sheet_call_of c k v d t w)
