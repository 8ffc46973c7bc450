-- The lines that a teacher reads of answer sheets.
use Rattle.std.specs.Prelude.{ℕ, cond, List, [], ◌∷◌, ◌++◌, eqb}
use Rattle.text.specs.Text.{decimal_of}
use Rattle.sheet_lines.specs.declared.Marks.{Marks}
use Rattle.sheet_lines.specs.declared.Marks.TheVariants.{NoMarks, Full, Differs, Short, Long}

-- ---- texts in ASCII

-- a line feed
abbrev pub feed : List ℕ
feed = 10 ∷ []

-- `: `
abbrev pub colon : List ℕ
colon = 58 ∷ 32 ∷ []

-- `full marks`
abbrev pub full_text : List ℕ
full_text = 102 ∷ 117 ∷ 108 ∷ 108 ∷ 32 ∷ 109 ∷ 97 ∷ 114 ∷ 107 ∷ 115 ∷ []

-- `differs at step `
abbrev pub differs_text : List ℕ
differs_text = 100 ∷ 105 ∷ 102 ∷ 102 ∷ 101 ∷ 114 ∷ 115 ∷ 32 ∷ 97 ∷ 116 ∷ 32 ∷ 115 ∷ 116 ∷ 101 ∷ 112 ∷ 32 ∷ []

-- `short: `
abbrev pub short_text : List ℕ
short_text = 115 ∷ 104 ∷ 111 ∷ 114 ∷ 116 ∷ 58 ∷ 32 ∷ []

-- `long: `
abbrev pub long_text : List ℕ
long_text = 108 ∷ 111 ∷ 110 ∷ 103 ∷ 58 ∷ 32 ∷ []

-- ` of `
abbrev pub of_text : List ℕ
of_text = 32 ∷ 111 ∷ 102 ∷ 32 ∷ []

-- ` steps`
abbrev pub steps_text : List ℕ
steps_text = 32 ∷ 115 ∷ 116 ∷ 101 ∷ 112 ∷ 115 ∷ []

-- `refused `
abbrev pub refused_text : List ℕ
refused_text = 114 ∷ 101 ∷ 102 ∷ 117 ∷ 115 ∷ 101 ∷ 100 ∷ 32 ∷ []

-- `a size, a base plus a length or a launch value is out of range`
abbrev pub size_words : List ℕ
size_words = 97 ∷ 32 ∷ 115 ∷ 105 ∷ 122 ∷ 101 ∷ 44 ∷ 32 ∷ 97 ∷ 32 ∷ 98 ∷ 97 ∷ 115 ∷ 101 ∷ 32 ∷ 112 ∷ 108 ∷ 117 ∷ 115 ∷ 32 ∷ 97 ∷ 32 ∷ 108 ∷ 101 ∷ 110 ∷ 103 ∷ 116 ∷ 104 ∷ 32 ∷ 111 ∷ 114 ∷ 32 ∷ 97 ∷ 32 ∷ 108 ∷ 97 ∷ 117 ∷ 110 ∷ 99 ∷ 104 ∷ 32 ∷ 118 ∷ 97 ∷ 108 ∷ 117 ∷ 101 ∷ 32 ∷ 105 ∷ 115 ∷ 32 ∷ 111 ∷ 117 ∷ 116 ∷ 32 ∷ 111 ∷ 102 ∷ 32 ∷ 114 ∷ 97 ∷ 110 ∷ 103 ∷ 101 ∷ []

-- `the card is missing, or its total, length or version is wrong`
abbrev pub card_words : List ℕ
card_words = 116 ∷ 104 ∷ 101 ∷ 32 ∷ 99 ∷ 97 ∷ 114 ∷ 100 ∷ 32 ∷ 105 ∷ 115 ∷ 32 ∷ 109 ∷ 105 ∷ 115 ∷ 115 ∷ 105 ∷ 110 ∷ 103 ∷ 44 ∷ 32 ∷ 111 ∷ 114 ∷ 32 ∷ 105 ∷ 116 ∷ 115 ∷ 32 ∷ 116 ∷ 111 ∷ 116 ∷ 97 ∷ 108 ∷ 44 ∷ 32 ∷ 108 ∷ 101 ∷ 110 ∷ 103 ∷ 116 ∷ 104 ∷ 32 ∷ 111 ∷ 114 ∷ 32 ∷ 118 ∷ 101 ∷ 114 ∷ 115 ∷ 105 ∷ 111 ∷ 110 ∷ 32 ∷ 105 ∷ 115 ∷ 32 ∷ 119 ∷ 114 ∷ 111 ∷ 110 ∷ 103 ∷ []

-- `the sheet is missing, or its length, version or number of steps is wrong`
abbrev pub sheet_words : List ℕ
sheet_words = 116 ∷ 104 ∷ 101 ∷ 32 ∷ 115 ∷ 104 ∷ 101 ∷ 101 ∷ 116 ∷ 32 ∷ 105 ∷ 115 ∷ 32 ∷ 109 ∷ 105 ∷ 115 ∷ 115 ∷ 105 ∷ 110 ∷ 103 ∷ 44 ∷ 32 ∷ 111 ∷ 114 ∷ 32 ∷ 105 ∷ 116 ∷ 115 ∷ 32 ∷ 108 ∷ 101 ∷ 110 ∷ 103 ∷ 116 ∷ 104 ∷ 44 ∷ 32 ∷ 118 ∷ 101 ∷ 114 ∷ 115 ∷ 105 ∷ 111 ∷ 110 ∷ 32 ∷ 111 ∷ 114 ∷ 32 ∷ 110 ∷ 117 ∷ 109 ∷ 98 ∷ 101 ∷ 114 ∷ 32 ∷ 111 ∷ 102 ∷ 32 ∷ 115 ∷ 116 ∷ 101 ∷ 112 ∷ 115 ∷ 32 ∷ 105 ∷ 115 ∷ 32 ∷ 119 ∷ 114 ∷ 111 ∷ 110 ∷ 103 ∷ []

-- `the run has no steps`
abbrev pub no_steps_words : List ℕ
no_steps_words = 116 ∷ 104 ∷ 101 ∷ 32 ∷ 114 ∷ 117 ∷ 110 ∷ 32 ∷ 104 ∷ 97 ∷ 115 ∷ 32 ∷ 110 ∷ 111 ∷ 32 ∷ 115 ∷ 116 ∷ 101 ∷ 112 ∷ 115 ∷ []

-- ` steps, `
abbrev pub written_text : List ℕ
written_text = 32 ∷ 115 ∷ 116 ∷ 101 ∷ 112 ∷ 115 ∷ 44 ∷ 32 ∷ []

-- ` bytes` and a line feed
abbrev pub bytes_text : List ℕ
bytes_text = 32 ∷ 98 ∷ 121 ∷ 116 ∷ 101 ∷ 115 ∷ 10 ∷ []

-- `: could not be written` and a line feed
abbrev pub unwritten_text : List ℕ
unwritten_text = 58 ∷ 32 ∷ 99 ∷ 111 ∷ 117 ∷ 108 ∷ 100 ∷ 32 ∷ 110 ∷ 111 ∷ 116 ∷ 32 ∷ 98 ∷ 101 ∷ 32 ∷ 119 ∷ 114 ∷ 105 ∷ 116 ∷ 116 ∷ 101 ∷ 110 ∷ 10 ∷ []

-- ---- the line of a marked sheet

-- of n steps on the sheet and m of the run
unfoldable pub count_text : ℕ → ℕ → List ℕ
count_text n m = decimal_of n ++ of_text ++ decimal_of m ++ steps_text

unfoldable pub marks_text : Marks → ℕ → ℕ → List ℕ
marks_text NoMarks n m = []
marks_text Full n m = full_text
marks_text (Differs i) n m = differs_text ++ decimal_of i
marks_text Short n m = short_text ++ count_text n m
marks_text Long n m = long_text ++ count_text n m

-- why a refusal's number refuses; no other can occur
unfoldable pub reason_of : ℕ → List ℕ
reason_of c = cond (eqb c 1) size_words (cond (eqb c 13) card_words (cond (eqb c 16) sheet_words (cond (eqb c 17) no_steps_words [])))

unfoldable pub refusal_text : ℕ → List ℕ
refusal_text c = refused_text ++ decimal_of c ++ colon ++ reason_of c

-- the number c is 0 where the sheet was marked
unfoldable pub verdict_text : ℕ → Marks → ℕ → ℕ → List ℕ
verdict_text c a n m = cond (eqb c 0) (marks_text a n m) (refusal_text c)

unfoldable pub mark_line : List ℕ → ℕ → Marks → ℕ → ℕ → List ℕ
mark_line name c a n m = name ++ colon ++ verdict_text c a n m ++ feed

-- ---- the lines of ./sheet without a table

unfoldable pub refusal_line : ℕ → List ℕ
refusal_line c = refusal_text c ++ feed

-- a sheet of n steps in b bytes
unfoldable pub written_line : List ℕ → ℕ → ℕ → List ℕ
written_line name n b = name ++ colon ++ decimal_of n ++ written_text ++ decimal_of b ++ bytes_text

unfoldable pub unwritten_line : List ℕ → List ℕ
unwritten_line name = name ++ unwritten_text
