use mathlib.Core.Path.{◌≡◌, sym, ◌∙◌}
use native.Mathlib.Omega.{arith}
use lib.ListN.{length}
use Rattle.warp.proofs.Chain.{mapped}
use Rattle.warp.specs.Warp.{split_count}
use Rattle.formed.proofs.Formed.{deep_malformed}
use Rattle.definition.proofs.Calls.{run_size, run_malformed}
use Rattle.machine.proofs.Runs.{run_goes}
use borrow.Author.Rules.{rules}
use Rattle.machine.proofs.run.Goals as goal

pub returns-then-not-runs_ok : goal.returns-then-not-runs_ok
returns-then-not-runs_ok c = (omega arith, rw c.refused_run.ensures (sym (run_size _ _ _ (sym c.runs_ok.ensures ∙ c.if-not-runs_ok.true))))

pub returns-then-w-gt-SPLITS : goal.returns-then-w-gt-SPLITS
returns-then-w-gt-SPLITS c = (omega arith, rw c.refused_run-then-w-gt-SPLITS.ensures (sym (run_malformed _ _ _ (sym c.runs_ok.ensures ∙ c.if-not-runs_ok.false) (deep_malformed _ c.if-w-gt-SPLITS.true))))

pub returns : goal.returns
returns c =
    let long : length c.args.w.splits ≡ split_count = search (rules, mapped) in (
      omega arith,
      run_goes c.args.w long c.if-w-gt-SPLITS.false _ c.of-words.ensures _ _ _ _ _ _ _ _ c.run_words-end.ensures.1 c.warp.ensures,
    )
