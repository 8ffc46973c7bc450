use mathlib.Core.Path.{refl, sym, ◌∙◌}
use native.Mathlib.Omega.{arith}
use Rattle.sheet_files.proofs.Cases.{line_short, line_done}
use Rattle.sheet_files.proofs.mark_files.Goals as goal

pub returns-then-not-buffers_ok : goal.returns-then-not-buffers_ok
returns-then-not-buffers_ok c = ((omega arith, refl), rw c.number.ensures (line_short _ _ _ _ _ _ _ (sym c.buffers_ok.ensures ∙ c.if-not-buffers_ok.true)))

pub returns : goal.returns
returns c =
    let put = c.mark_line-size.ensures in
    let text = rw (c.number-number.ensures, c.steps_in-given.ensures, c.unwrap_or-marked.ensures) at put.1 in
    (put.0, rw (c.number-number.ensures, c.marks_step-step.ensures, c.unwrap_or-marked.ensures) (line_done _ _ _ _ _ _ _ (sym c.buffers_ok.ensures ∙ c.if-not-buffers_ok.false) _ c.mark_run-got.ensures _ text))
