use Prim.Native.Nat.{◌+◌}
use native.Mathlib.Omega.{arith}
use Rattle.text.proofs.Laws.{puts_then, right_size}
use Rattle.sheet_table.specs.SheetTable.{table_row}
use Rattle.sheet_table.proofs.put_row.Goals as goal

pub put_right-one-requires : goal.put_right-one-requires
put_right-one-requires c = omega (arith, right_size 4 (c.args.i + 1) (omega arith))

pub put_labelled-requires : goal.put_labelled-requires
put_labelled-requires c = (omega (arith, right_size 4 (c.args.i + 1) (omega arith)), omega arith)

pub returns : goal.returns
unfolding table_row
returns c = (puts_then c.put_right-one.ensures c.put_labelled.ensures.0, omega (arith, right_size 4 (c.args.i + 1) (omega arith)))
