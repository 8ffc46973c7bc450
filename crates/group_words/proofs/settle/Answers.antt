use mathlib.Core.Path.{sym, ◌∙◌}
use Rattle.group_words.proofs.Words.{picked_is, settled_run, settled_some, settled_none}
use Rattle.group_words.proofs.settle.Goals as goal

pub returns-then-can_run : goal.returns-then-can_run
returns-then-can_run c = settled_run _ c.requires.1 _ c.requires.0 (sym c.can_run.ensures ∙ c.if-can_run.true)

pub returns-then-is_some : goal.returns-then-is_some
returns-then-is_some c = settled_some _ c.requires.1 (sym (picked_is _ _ _ c.pick.ensures) ∙ sym c.is_some.ensures ∙ c.if-is_some.true)

pub returns : goal.returns
returns c = settled_none _ c.requires.1 (sym (picked_is _ _ _ c.pick.ensures) ∙ sym c.is_some.ensures ∙ c.if-is_some.false) _ c.release.ensures
