use borrow.Author.Tests.{not-true, not-false}
use mathlib.Core.Path.{sym, ◌∙◌}
use Rattle.definition.proofs.Calls.{release_malformed, release_runs, release_waits}
use Rattle.launch_release.proofs.release.Goals as goal

pub returns-then-not-well_formed : goal.returns-then-not-well_formed
returns-then-not-well_formed c = sym (release_malformed _ (sym c.well_formed-2.ensures ∙ c.if-not-well_formed.true))

pub returns-then-not-w : goal.returns-then-not-w
returns-then-not-w c = sym (release_runs _ (sym c.well_formed-2.ensures ∙ c.if-not-well_formed.false) (not-true _ c.if-not-w.true))

pub returns : goal.returns
returns c = sym (release_waits _ (sym c.well_formed-2.ensures ∙ c.if-not-well_formed.false) (not-false _ c.if-not-w.false))
