use mathlib.Core.Path.{sym, ◌∙◌}
use Rattle.sheet_table.specs.SheetTable.{step_lines_into}
use Rattle.sheet_text.proofs.Laws.{put_nothing, put_done}
use Rattle.sheet_table.proofs.Laws.{step_there}
use Rattle.sheet_table.proofs.step_lines.Goals as goal

pub returns-then-not-has_step : goal.returns-then-not-has_step
unfolding step_lines_into
returns-then-not-has_step c = put_nothing _ _ _ (sym c.has_step.ensures ∙ c.if-not-has_step.true)

pub put_step_lines-requires : goal.put_step_lines-requires
put_step_lines-requires c = step_there _ _ _ _ (sym c.has_step.ensures ∙ c.if-not-has_step.false)

pub returns : goal.returns
unfolding step_lines_into
returns c =
    let there = sym c.has_step.ensures ∙ c.if-not-has_step.false in
    put_done _ there c.put_step_lines.ensures.0 c.put_step_lines.ensures.1 (step_there _ _ _ _ there).0
