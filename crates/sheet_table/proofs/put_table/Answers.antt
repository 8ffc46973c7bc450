use native.Mathlib.Omega.{arith}
use Rattle.text.proofs.Laws.{puts_then}
use Rattle.sheet_table.specs.SheetTable.{table_of}
use Rattle.sheet_table.proofs.put_table.Goals as goal

pub returns : goal.returns
unfolding table_of
returns c = (puts_then (puts_then c.put_text-one.ensures c.put_text-two.ensures) c.put_rows.ensures.0, omega arith)
