use mathlib.Core.Path.{refl}
use native.Mathlib.Omega.{arith}
use lib.Seq.{length-sets}
use Rattle.text.proofs.Laws.{puts_none, puts_then, puts_as}
use Rattle.sheet_table.specs.SheetTable.{table_rows}
use Rattle.sheet_table.proofs.Laws.{rows_more}
use Rattle.sheet_table.proofs.put_rows.Goals as goal

pub loop-i-init : goal.loop-i-init
unfolding table_rows
loop-i-init c = (refl, puts_none _ _, omega arith)

pub loop-i-preserved : goal.loop-i-preserved
loop-i-preserved c =
    let i = c.loop-i in
    (rw c.put_row-end.ensures.0.text (simp length-sets i.invariant.0), puts_as (rows_more _ _) (puts_then i.invariant.1 c.put_row-end.ensures.0), omega arith)
