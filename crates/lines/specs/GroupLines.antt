-- The lines of a group's printout: four, and a line a warp.
use Rattle.std.specs.Prelude.{ℕ, zero, suc, ◌+◌, ◌*◌, Bool, cond, List, [], ◌∷◌, ◌++◌, ltb, get_or}
use Rattle.layout.specs.Words.{state_words, moving_start, depth_at, pc_at, mask_at, ended_at, waiting_at, is_set}
use Rattle.text.specs.Text.{hex_of, decimal_of, line_of}
use Rattle.lines.specs.Lines.{steps_name, pc_name, mask_name, splits_name, code_line}

-- ---- the names in ASCII

-- s t o p p e d, and a blank
abbrev pub stopped_name : List ℕ
stopped_name = 115 ∷ 116 ∷ 111 ∷ 112 ∷ 112 ∷ 101 ∷ 100 ∷ 32 ∷ []

-- the line of a group that no warp stopped: s t o p p e d, a blank, n o n e, a line feed
abbrev pub none_line : List ℕ
none_line = 115 ∷ 116 ∷ 111 ∷ 112 ∷ 112 ∷ 101 ∷ 100 ∷ 32 ∷ 110 ∷ 111 ∷ 110 ∷ 101 ∷ 10 ∷ []

-- t u r n, and a blank
abbrev pub turn_name : List ℕ
turn_name = 116 ∷ 117 ∷ 114 ∷ 110 ∷ 32 ∷ []

-- w a r p, and a blank
abbrev pub warp_name : List ℕ
warp_name = 119 ∷ 97 ∷ 114 ∷ 112 ∷ 32 ∷ []

-- a blank, e n d e d, a line feed
abbrev pub ended_end : List ℕ
ended_end = 32 ∷ 101 ∷ 110 ∷ 100 ∷ 101 ∷ 100 ∷ 10 ∷ []

-- a blank, w a i t i n g, a line feed
abbrev pub waiting_end : List ℕ
waiting_end = 32 ∷ 119 ∷ 97 ∷ 105 ∷ 116 ∷ 105 ∷ 110 ∷ 103 ∷ 10 ∷ []

-- a blank, r u n n i n g, a line feed
abbrev pub running_end : List ℕ
running_end = 32 ∷ 114 ∷ 117 ∷ 110 ∷ 110 ∷ 105 ∷ 110 ∷ 103 ∷ 10 ∷ []

-- a name after a blank
abbrev pub spaced : List ℕ → List ℕ
spaced name = 32 ∷ name

-- ---- the lines

-- the numbers with which a warp stops its group: 1 to 3 are the group's own
unfoldable pub stops_of : ℕ → Bool
stops_of code = ltb 3 code

unfoldable pub stopped_line : ℕ → ℕ → List ℕ
stopped_line code wid = cond (stops_of code) (line_of stopped_name (decimal_of wid)) none_line

-- of a warp's words ended and waiting
unfoldable pub line_end : ℕ → ℕ → List ℕ
line_end e w = cond (is_set e) ended_end (cond (is_set w) waiting_end running_end)

-- warp i's moving word j in the group's words s
abbrev pub moving_at : ℕ → ℕ → List ℕ → ℕ
moving_at i j s = get_or s (1 + i * state_words + moving_start + j) 0

unfoldable pub warp_line : ℕ → List ℕ → List ℕ
warp_line i s =
    (warp_name ++ decimal_of i)
    ++ (spaced pc_name ++ hex_of (moving_at i pc_at s))
    ++ (spaced mask_name ++ hex_of (moving_at i mask_at s))
    ++ (spaced splits_name ++ decimal_of (moving_at i depth_at s))
    ++ line_end (moving_at i ended_at s) (moving_at i waiting_at s)

-- of the first n warps
abbrev pub warp_lines : ℕ → List ℕ → List ℕ
warp_lines zero s = []
warp_lines (suc n) s = warp_lines n s ++ warp_line n s

-- of the code, the WID that stopped the group, the steps taken, and the words of a group of n warps
unfoldable pub group_lines : ℕ → ℕ → ℕ → ℕ → List ℕ → List ℕ
group_lines n code wid steps s =
    code_line code
    ++ stopped_line code wid
    ++ line_of steps_name (decimal_of steps)
    ++ line_of turn_name (decimal_of (get_or s 0 0))
    ++ warp_lines n s

-- a buffer of this length holds the lines of 32 warps
abbrev pub group_room_needed : ℕ
group_room_needed = 2924
