-- The answer sheet: how its bytes lie, when they are malformed, and the sheet of a run.
use Rattle.std.specs.Prelude.{ℕ, zero, suc, ◌+◌, ◌*◌, ◌-◌, ◌/◌, Bool, cond, eqb, leb, length, get_or, take, drop}
use mathlib.Core.List.{List, [], ◌∷◌, ◌++◌, flatten}
use Rattle.answer.specs.Rows.{every}
use Rattle.big_endian.specs.BigEndian.{be_at, be_bytes}
use Rattle.big_endian.specs.Layout.{Values, end, ◌▹◌, total_of, bytes_of}
use Rattle.definition.specs.State.{State, Outcome, place_of}
use Rattle.definition.specs.Step.{step_of}

-- 4 bytes length, counting what follows, and the version
abbrev pub head_size : ℕ
head_size = 5

abbrev pub sheet_version : ℕ
sheet_version = 1

-- a step's bytes: PC before, word, mask after, 32 bits each; open splits after, one byte
abbrev pub line : List ℕ
line = 4 ∷ 4 ∷ 4 ∷ 1 ∷ []

abbrev pub line_size : ℕ
line_size = total_of line

-- the most steps
abbrev pub step_limit : ℕ
step_limit = 4096

-- the length field of n steps, and the bytes of a sheet of n steps
abbrev pub length_of : ℕ → ℕ
length_of n = 1 + line_size * n

abbrev pub sheet_size : ℕ → ℕ
sheet_size n = head_size + line_size * n

-- ---- the sheet of a run

abbrev pub line_values : ℕ → ℕ → ℕ → ℕ → Values line
line_values pc word mask splits = pc ▹ word ▹ mask ▹ splits ▹ end

-- the line of kernel k's step from the state m, which leaves the state n
unfoldable pub line_bytes : List ℕ → State → State → List ℕ
line_bytes k m n = bytes_of (line_values m.warp.pc (get_or k (place_of m.warp) 0) n.warp.mask n.warp.depth)

-- the lines of at most n steps from the state m on, to the first refusal
unfoldable pub lines_of : List ℕ → ℕ → State → List (List ℕ)
lines_of k zero m = []
lines_of k (suc n) m =
    let o : Outcome = step_of k m in
    cond (eqb o.code 0) (line_bytes k m o.left ∷ lines_of k n o.left) []

-- the head of a sheet of n steps, and the sheet of the lines
unfoldable pub head_of : ℕ → List ℕ
head_of n = be_bytes 4 (length_of n) ++ be_bytes 1 sheet_version

unfoldable pub sheet_of : List (List ℕ) → List ℕ
sheet_of ls = head_of (length ls) ++ flatten ls

-- ---- the bytes s as a sheet

-- how many steps they have room for
abbrev pub steps_in : List ℕ → ℕ
steps_in s = (length s - head_size) / line_size

abbrev pub length_in : List ℕ → ℕ
length_in s = be_at 4 s 0

abbrev pub version_in : List ℕ → ℕ
version_in s = be_at 1 s 4

-- at least a head, the version, a length that is the rest of the file and that of whole steps, and not too many of them
unfoldable pub sheet_ok_of : List ℕ → Bool
sheet_ok_of s =
    every
    (leb head_size (length s)
    ∷ eqb (version_in s) sheet_version
    ∷ eqb (length_in s) (length s - 4)
    ∷ eqb (length_in s) (length_of (steps_in s))
    ∷ leb (steps_in s) step_limit
    ∷ [])

-- n lines from index i on
unfoldable pub lines_at : ℕ → List ℕ → ℕ → List (List ℕ)
lines_at zero s i = []
lines_at (suc n) s i = take line_size (drop i s) ∷ lines_at n s (i + line_size)

abbrev pub lines_in : List ℕ → List (List ℕ)
lines_in s = lines_at (steps_in s) s head_size
