use mathlib.Core.Path.{◌≡◌, refl, sym, ◌∙◌, ap}
use native.Mathlib.Omega.{arith}
use lib.ListN.{length, length-set}
use borrow.Author.Rules.{rules}
use Rattle.warp.proofs.Chain.{mapped}
use Rattle.warp.specs.Warp.{split_count}
use Rattle.layout.specs.Words.{splits_words}
use Rattle.layout.proofs.Lists.{sets_over}
use Rattle.layout.proofs.Splits.{words_length, flat_turn, flat_end}
use Rattle.layout.proofs.flat.Goals as goal

pub loop-k-init : goal.loop-k-init
loop-k-init c =
    let long : length c.args.q ≡ split_count = search (rules, mapped) in (refl, sets_over _ (splits_words c.args.q) (omega (arith, words_length c.args.q, long)))

pub loop-k-preserved : goal.loop-k-preserved
loop-k-preserved c =
    let long : length c.args.q ≡ split_count = search (rules, mapped) in (
      ap length c.put_split.ensures ∙ simp length-set c.loop-k.invariant.0,
      flat_turn c.loop-k.s _ c.args.q c.loop-k.k _ (omega (arith, long)) refl c.put_split.ensures ∙ c.loop-k.invariant.1,
    )

pub returns : goal.returns
returns c =
    let long : length c.args.q ≡ split_count = search (rules, mapped) in
    sym (flat_end c.loop-k.s c.args.q c.loop-k.k (omega (arith, long))) ∙ c.loop-k.invariant.1
