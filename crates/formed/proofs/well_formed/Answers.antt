use mathlib.Core.Path.{◌≡◌, sym, ◌∙◌}
use lib.ListN.{length}
use Rattle.warp.proofs.Chain.{mapped}
use Rattle.warp.specs.Warp.{split_count}
use Rattle.formed.proofs.Formed.{deep_malformed, apart_formed}
use borrow.Author.Rules.{rules}
use Rattle.formed.proofs.well_formed.Goals as goal

pub returns-then-w-gt-SPLITS : goal.returns-then-w-gt-SPLITS
returns-then-w-gt-SPLITS c = sym (deep_malformed _ c.if-w-gt-SPLITS.true)

pub returns : goal.returns
returns c =
    let long : length c.args.w.splits ≡ split_count = search (rules, mapped) in
    c.words_ok.ensures ∙ apart_formed c.args.w long c.if-w-gt-SPLITS.false _ c.of.ensures
