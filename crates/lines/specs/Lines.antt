-- The lines of a printout.
use Rattle.std.specs.Prelude.{ℕ, List, [], ◌∷◌, ◌++◌}
use Rattle.text.specs.Text.{hex_of, decimal_of, line_of}

-- ---- the lines' names in ASCII, each with the blank after it

-- c o d e
abbrev pub code_name : List ℕ
code_name = 99 ∷ 111 ∷ 100 ∷ 101 ∷ 32 ∷ []

-- s t e p s
abbrev pub steps_name : List ℕ
steps_name = 115 ∷ 116 ∷ 101 ∷ 112 ∷ 115 ∷ 32 ∷ []

-- p c
abbrev pub pc_name : List ℕ
pc_name = 112 ∷ 99 ∷ 32 ∷ []

-- m a s k
abbrev pub mask_name : List ℕ
mask_name = 109 ∷ 97 ∷ 115 ∷ 107 ∷ 32 ∷ []

-- s p l i t s
abbrev pub splits_name : List ℕ
splits_name = 115 ∷ 112 ∷ 108 ∷ 105 ∷ 116 ∷ 115 ∷ 32 ∷ []

-- ---- the lines

unfoldable pub code_line : ℕ → List ℕ
code_line code = line_of code_name (decimal_of code)

-- of the code, the steps taken, and the warp's PC, mask and open splits
unfoldable pub five_lines : ℕ → ℕ → ℕ → ℕ → ℕ → List ℕ
five_lines code steps pc mask splits =
    code_line code
    ++ line_of steps_name (decimal_of steps)
    ++ line_of pc_name (hex_of pc)
    ++ line_of mask_name (hex_of mask)
    ++ line_of splits_name (decimal_of splits)

-- a buffer of this length holds the five lines
abbrev pub room_needed : ℕ
room_needed = 107
