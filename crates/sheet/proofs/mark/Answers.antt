use mathlib.Core.Path.{sym, ◌∙◌}
use native.Mathlib.Omega.{arith}
use borrow.Author.Rules.{rules}
use Rattle.sheet_lines.proofs.Sheets.{sheet_head}
use Rattle.sheet.proofs.Cases.{trace_length, mark_launch, mark_sheet, mark_none, mark_done}
use Rattle.sheet.proofs.mark.Goals as goal

pub returns-then-not-may_launch : goal.returns-then-not-may_launch
returns-then-not-may_launch c = mark_launch _ _ _ _ _ (sym c.may_launch.ensures ∙ c.if-not-may_launch.true)

pub returns-then-not-sheet_ok : goal.returns-then-not-sheet_ok
returns-then-not-sheet_ok c =
    mark_sheet _ _ _ _ _ (sym c.may_launch.ensures ∙ c.if-not-may_launch.false) (sym c.sheet_ok.ensures ∙ c.if-not-sheet_ok.true)

pub returns-then-n-eq0 : goal.returns-then-n-eq0
returns-then-n-eq0 c =
    mark_none _ _ _ _ _ (sym c.may_launch.ensures ∙ c.if-not-may_launch.false) (sym c.sheet_ok.ensures ∙ c.if-not-sheet_ok.false) _ _ _ _ _ c.trace_launch-n.ensures c.if-n-eq0.true

pub overflow_sub-m : goal.overflow_sub-m
overflow_sub-m c = omega (arith, sheet_head _ (sym c.sheet_ok.ensures ∙ c.if-not-sheet_ok.false))

pub compare-requires : goal.compare-requires
compare-requires c =
    (c.trace_launch-n.ensures.few, omega (arith, trace_length _ _ _ _ _ _ _ c.trace_launch-n.ensures, c.trace_launch-n.ensures.few), omega (arith, sheet_head _ (sym c.sheet_ok.ensures ∙ c.if-not-sheet_ok.false)))

pub returns : goal.returns
returns c =
    mark_done _ _ _ _ _ (sym c.may_launch.ensures ∙ c.if-not-may_launch.false) (sym c.sheet_ok.ensures ∙ c.if-not-sheet_ok.false) _ _ _ _ _ c.trace_launch-n.ensures c.if-n-eq0.false (search rules) _ c.compare.ensures
