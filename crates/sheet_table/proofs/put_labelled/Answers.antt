use native.Mathlib.Omega.{arith}
use Rattle.text.proofs.Laws.{puts_then}
use Rattle.sheet_table.specs.SheetTable.{labelled}
use Rattle.sheet_table.proofs.put_labelled.Goals as goal

pub returns : goal.returns
unfolding labelled
returns c = (puts_then (puts_then c.put_text-one.ensures c.put_columns-two.ensures.0) c.put_text.ensures, omega arith)
