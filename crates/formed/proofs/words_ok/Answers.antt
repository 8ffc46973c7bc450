use mathlib.Core.Path.{◌∙◌, ap}
use Rattle.warp.specs.WellFormed.{fixed_ok_of}
use Rattle.formed.proofs.Formed.{formed_deep, formed_words}
use Rattle.formed.proofs.words_ok.Goals as goal

pub returns-then-depth-gt-SPLITS : goal.returns-then-depth-gt-SPLITS
returns-then-depth-gt-SPLITS c =
    let w = c.args.w.now in
    formed_deep w.fixed w.moving w.scalars w.splits c.if-depth-gt-SPLITS.true

pub returns : goal.returns
returns c =
    let w = c.args.w.now in
    formed_words w.fixed w.moving w.scalars w.splits _ _ _ _ c.if-depth-gt-SPLITS.false (c.fixed_ok-fixed.ensures ∙ ap fixed_ok_of c.fixed_in.ensures)
    c.unused_ok-unused.ensures c.chain_ok-chain.ensures c.prefix_ok-prefix.ensures
