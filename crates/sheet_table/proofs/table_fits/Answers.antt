use Rattle.sheet_table.specs.SheetTable.{table_fits}
use Rattle.sheet_table.proofs.table_fits.Goals as goal

pub returns : goal.returns
unfolding table_fits
returns c = rw (← c.steps_in-n.ensures)
