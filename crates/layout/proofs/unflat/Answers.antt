use mathlib.Core.Path.{refl, sym, ◌∙◌}
use lib.ListN.{length-set}
use borrow.Author.Rules.{rules}
use Rattle.warp.specs.Warp.{split_count}
use Rattle.layout.specs.Words.{splits_in}
use Rattle.layout.proofs.Lists.{sets_over}
use Rattle.layout.proofs.Splits.{splits_length, unflat_turn, unflat_end}
use Rattle.layout.proofs.unflat.Goals as goal

pub loop-k-init : goal.loop-k-init
loop-k-init c = (refl, sets_over _ (splits_in c.args.s.now) (sym (splits_length split_count c.args.s.now)))

pub loop-k-preserved : goal.loop-k-preserved
loop-k-preserved c = (simp length-set c.loop-k.invariant.0, unflat_turn c.loop-k.q c.args.s.now c.loop-k.k _ (search rules) c.split_at.ensures ∙ c.loop-k.invariant.1)

pub returns : goal.returns
returns c = sym (unflat_end c.loop-k.q c.args.s.now c.loop-k.k (search rules)) ∙ c.loop-k.invariant.1
