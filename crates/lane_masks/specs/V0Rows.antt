-- What contracts say of a row of v0's words.
use Rattle.std.specs.Prelude.{Bool, cond, List, ℕ}
use Rattle.lanes.specs.declared.Lane.{Lane}
use Rattle.lanes.specs.Lanes.{is_odd}
use Rattle.lanes.specs.Rows.{at}

-- the word of lane l in the row z has bit 0 set; what vmerge gives there, of two rows
abbrev pub odd_lane : List ℕ → Lane → Bool
odd_lane z l = is_odd (at z l)

abbrev pub merge_row : List ℕ → List ℕ → List ℕ → Lane → ℕ
merge_row z x y l = cond (odd_lane z l) (at y l) (at x l)
