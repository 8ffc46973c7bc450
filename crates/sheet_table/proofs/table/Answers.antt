use mathlib.Core.Path.{sym, ◌∙◌}
use Rattle.sheet_table.specs.SheetTable.{table_into}
use Rattle.sheet_text.proofs.Laws.{put_nothing, put_done}
use Rattle.sheet_table.proofs.Laws.{table_there}
use Rattle.sheet_table.proofs.table.Goals as goal

pub returns-then-not-table_fits : goal.returns-then-not-table_fits
unfolding table_into
returns-then-not-table_fits c = put_nothing _ _ _ (sym c.table_fits.ensures ∙ c.if-not-table_fits.true)

pub put_table-requires : goal.put_table-requires
put_table-requires c = table_there _ _ (sym c.table_fits.ensures ∙ c.if-not-table_fits.false)

pub returns : goal.returns
unfolding table_into
returns c =
    let there = sym c.table_fits.ensures ∙ c.if-not-table_fits.false in
    put_done _ there c.put_table.ensures.0 c.put_table.ensures.1 (table_there _ _ there).0
