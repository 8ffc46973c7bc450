use mathlib.Core.Path.{refl, sym, ◌∙◌}
use Rattle.sheet.proofs.Cases.{model_launch, model_room, model_none, model_done}
use Rattle.sheet.proofs.model.Goals as goal

pub returns-then-not-may_launch : goal.returns-then-not-may_launch
returns-then-not-may_launch c = model_launch _ _ _ _ _ (sym c.may_launch.ensures ∙ c.if-not-may_launch.true)

pub returns-then-target-lt-SHEET_ROOM : goal.returns-then-target-lt-SHEET_ROOM
returns-then-target-lt-SHEET_ROOM c = model_room _ _ _ _ _ (sym c.may_launch.ensures ∙ c.if-not-may_launch.false) c.if-target-lt-SHEET_ROOM.true

pub returns-then-n-eq0 : goal.returns-then-n-eq0
returns-then-n-eq0 c =
    model_none _ _ _ _ _ (sym c.may_launch.ensures ∙ c.if-not-may_launch.false) c.if-target-lt-SHEET_ROOM.false _ _ _ _ c.trace_launch-n.ensures c.if-n-eq0.true

pub returns : goal.returns
returns c =
    model_done _ _ _ _ _ (sym c.may_launch.ensures ∙ c.if-not-may_launch.false) c.if-target-lt-SHEET_ROOM.false _ _ _ _ c.trace_launch-n.ensures c.if-n-eq0.false _ refl _ c.put_head.ensures
