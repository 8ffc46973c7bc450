use mathlib.Core.Path.{sym, ◌∙◌}
use Rattle.definition.proofs.Sizes.{sizes}
use Rattle.definition.proofs.Calls.{launch_size, launch_range, launch_done}
use Rattle.launch_release.proofs.launch.Goals as goal

pub returns-then-not-runs_ok : goal.returns-then-not-runs_ok
returns-then-not-runs_ok c = sym (launch_size _ _ _ _ (sym c.runs_ok.ensures ∙ c.if-not-runs_ok.true))

pub returns-then-not-launch_ok : goal.returns-then-not-launch_ok
returns-then-not-launch_ok c = sym (launch_range _ _ _ _ (sym c.runs_ok.ensures ∙ c.if-not-runs_ok.false) (sym c.launch_ok.ensures ∙ c.if-not-launch_ok.true))

pub returns : goal.returns
returns c = rw (c.launched.ensures, c.fill.ensures.after (λ y h. h), (sizes _ _ _ _ (sym c.runs_ok.ensures ∙ c.if-not-runs_ok.false)).file_is)
    (sym (launch_done _ _ _ _ (sym c.runs_ok.ensures ∙ c.if-not-runs_ok.false) (sym c.launch_ok.ensures ∙ c.if-not-launch_ok.false)))
