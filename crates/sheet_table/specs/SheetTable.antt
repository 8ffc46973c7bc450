-- The steps of answer sheets in columns: two steps side by side, a sheet as a table; and what the calls answer and leave.
use Rattle.std.specs.Prelude.{ℕ, zero, suc, ◌+◌, ◌*◌, ◌-◌, Bool, ◌&&◌, List, [], ◌∷◌, ◌++◌, leb, ltb, length}
use Rattle.answer.specs.Rows.{every}
use Rattle.big_endian.specs.BigEndian.{be_at}
use Rattle.text.specs.Text.{hex_of, decimal_of, right_of}
use Rattle.sheet_lines.specs.Sheet.{step_limit, sheet_size, steps_in}
use Rattle.sheet_text.specs.SheetText.{feed}
use Rattle.sheet_text.specs.Put.{Put, put_where}

-- ---- texts in ASCII

-- `  `
abbrev pub gap : List ℕ
gap = 32 ∷ 32 ∷ []

-- `pc        word      mask      splits` and a line feed
abbrev pub column_names : List ℕ
column_names = 112 ∷ 99 ∷ 32 ∷ 32 ∷ 32 ∷ 32 ∷ 32 ∷ 32 ∷ 32 ∷ 32 ∷ 119 ∷ 111 ∷ 114 ∷ 100 ∷ 32 ∷ 32 ∷ 32 ∷ 32 ∷ 32 ∷ 32 ∷ 109 ∷ 97 ∷ 115 ∷ 107 ∷ 32 ∷ 32 ∷ 32 ∷ 32 ∷ 32 ∷ 32 ∷ 115 ∷ 112 ∷ 108 ∷ 105 ∷ 116 ∷ 115 ∷ 10 ∷ []

-- `         `
abbrev pub blank_label : List ℕ
blank_label = 32 ∷ 32 ∷ 32 ∷ 32 ∷ 32 ∷ 32 ∷ 32 ∷ 32 ∷ 32 ∷ []

-- `expected `
abbrev pub expected_label : List ℕ
expected_label = 101 ∷ 120 ∷ 112 ∷ 101 ∷ 99 ∷ 116 ∷ 101 ∷ 100 ∷ 32 ∷ []

-- `given    `
abbrev pub given_label : List ℕ
given_label = 103 ∷ 105 ∷ 118 ∷ 101 ∷ 110 ∷ 32 ∷ 32 ∷ 32 ∷ 32 ∷ []

-- `step  `
abbrev pub step_label : List ℕ
step_label = 115 ∷ 116 ∷ 101 ∷ 112 ∷ 32 ∷ 32 ∷ []

-- ---- steps in columns

unfoldable pub word_column : ℕ → List ℕ
word_column w = hex_of w ++ gap

-- PC, word, mask and open splits of the step at byte at
unfoldable pub columns_at : List ℕ → ℕ → List ℕ
columns_at s at = word_column (be_at 4 s at) ++ word_column (be_at 4 s (at + 4)) ++ word_column (be_at 4 s (at + 8)) ++ decimal_of (be_at 1 s (at + 12))

unfoldable pub labelled : List ℕ → List ℕ → ℕ → List ℕ
labelled label s at = label ++ columns_at s at ++ feed

-- step n, counted from 1, of the run's sheet and of the one handed in; it begins where a sheet of the steps before it ends
unfoldable pub step_lines : List ℕ → List ℕ → ℕ → List ℕ
step_lines own given n =
    blank_label ++ column_names
    ++ labelled expected_label own (sheet_size (n - 1))
    ++ labelled given_label given (sheet_size (n - 1))

-- ---- a sheet as a table

unfoldable pub table_row : List ℕ → ℕ → List ℕ
table_row s i = right_of 4 (i + 1) ++ labelled gap s (sheet_size i)

-- the first n rows
unfoldable pub table_rows : ℕ → List ℕ → List ℕ
table_rows zero s = []
table_rows (suc n) s = table_rows n s ++ table_row s n

unfoldable pub table_of : List ℕ → List ℕ
table_of s = step_label ++ column_names ++ table_rows (steps_in s) s

-- ---- room for every text of its kind

abbrev pub steps_room : ℕ
steps_room = 166

abbrev pub row_room : ℕ
row_room = 73

abbrev pub table_room : ℕ
table_room = 43 + row_room * step_limit

-- ---- the calls

-- both sheets have step n, and there is room
unfoldable pub has_step : List ℕ → List ℕ → ℕ → List ℕ → Bool
has_step own given n o = every (ltb 0 n ∷ leb n (steps_in own) ∷ leb n (steps_in given) ∷ leb steps_room (length o) ∷ [])

unfoldable pub step_lines_into : List ℕ → List ℕ → ℕ → List ℕ → Put
step_lines_into own given n o = put_where (has_step own given n o) o (step_lines own given n)

-- no more steps than a sheet may have, and there is room
unfoldable pub table_fits : List ℕ → List ℕ → Bool
table_fits s o = leb (steps_in s) step_limit && leb table_room (length o)

unfoldable pub table_into : List ℕ → List ℕ → Put
table_into s o = put_where (table_fits s o) o (table_of s)
