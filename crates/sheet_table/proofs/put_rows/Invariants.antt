use mathlib.Core.Path.{◌≡◌}
use Prim.Native.Nat.{◌+◌, ◌*◌, ◌-◌, ◌≤◌}
use lib.ListN.{length}
use Rattle.text.specs.Puts.{Puts}
use Rattle.sheet_table.specs.SheetTable.{table_rows, row_room}
use Rattle.sheet_table.proofs.put_rows.Given as goal

abbrev pub invariant-loop-i : goal.invariant-loop-i
invariant-loop-i l = (length l.out ≡ length l.initial.out) × Puts l.initial.out l.at (table_rows l.i l.s) l.out l.end × (l.end ≤ l.at + row_room * l.i)
