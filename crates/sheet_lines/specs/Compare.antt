-- A sheet's lines against those of the run's own sheet.
use Rattle.std.specs.Prelude.{ℕ, ◌+◌, Bool, true, false, ◌&&◌, cond, List, [], ◌∷◌, eqb}
use Rattle.sheet_lines.specs.declared.Marks.{Marks}
use Rattle.sheet_lines.specs.declared.Marks.TheVariants.{NoMarks, Full, Differs, Short, Long}

-- the number of marks, and the differing step
abbrev pub marks_number : Marks → ℕ
marks_number NoMarks = 0
marks_number Full = 1
marks_number (Differs n) = 2
marks_number Short = 3
marks_number Long = 4

abbrev pub marks_step : Marks → ℕ
marks_step NoMarks = 0
marks_step Full = 0
marks_step (Differs n) = n
marks_step Short = 0
marks_step Long = 0

-- two lines, byte by byte
abbrev pub same_of : List ℕ → List ℕ → Bool
same_of [] [] = true
same_of (x ∷ a) [] = false
same_of [] (y ∷ b) = false
same_of (x ∷ a) (y ∷ b) = eqb x y && same_of a b

-- the run's own lines, and those on the sheet; the first of each is step i
unfoldable pub compare_of : ℕ → List (List ℕ) → List (List ℕ) → Marks
compare_of i [] [] = Full
compare_of i (a ∷ own) [] = Short
compare_of i [] (b ∷ given) = Long
compare_of i (a ∷ own) (b ∷ given) = cond (same_of a b) (compare_of (i + 1) own given) (Differs i)
