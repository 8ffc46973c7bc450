-- Laws of a table's rows and of the calls' tests.
use mathlib.Core.Path.{◌≡◌}
use mathlib.Core.Bool.{Bool, true}
use mathlib.Core.List.{List, [], ◌∷◌, ◌++◌}
use Prim.Native.Nat.{ℕ, ◌+◌, ◌≤◌, ◌<◌}
use native.Mathlib.Numerals.{add-one}
use lib.Dec.{leb, ltb}
use borrow.Author.Tests.{leb-true, ltb-true}
use lib.ListN.{length}
use Rattle.answer.proofs.Rows.{both, every_at}
use Rattle.sheet_lines.specs.Sheet.{step_limit, steps_in}
use Rattle.sheet_table.specs.SheetTable.{table_row, table_rows, steps_room, table_room, has_step, table_fits}

pub rows_more : (s : List ℕ) (i : ℕ) → table_rows (i + 1) s ≡ table_rows i s ++ table_row s i
unfolding table_rows
rows_more s i = rw add-one

-- what the calls' tests tell
pub step_there : (own given : List ℕ) (n : ℕ) (o : List ℕ) → has_step own given n o ≡ true
    → (steps_room ≤ length o) × (0 < n) × (n ≤ steps_in own) × (n ≤ steps_in given)
unfolding has_step
step_there own given n o e =
    let tests : List Bool = ltb 0 n ∷ leb n (steps_in own) ∷ leb n (steps_in given) ∷ leb steps_room (length o) ∷ [] in
    (leb-true _ _ (every_at tests e 3), ltb-true _ _ (every_at tests e 0), leb-true _ _ (every_at tests e 1), leb-true _ _ (every_at tests e 2))

pub table_there : (s o : List ℕ) → table_fits s o ≡ true → (table_room ≤ length o) × (steps_in s ≤ step_limit)
unfolding table_fits
table_there s o e =
    let p = both (leb (steps_in s) step_limit) (leb table_room (length o)) e in
    (leb-true _ _ p.1, leb-true _ _ p.0)
