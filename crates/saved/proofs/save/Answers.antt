use mathlib.Core.Path.{◌∙◌, ap}
use Rattle.layout.specs.Words.{words_of}
use Rattle.saved.specs.Saved.{saving}
use Rattle.saved.proofs.SaveLaws.{save_size, save_deep, save_done}
use Rattle.saved.proofs.save.Goals as goal

pub returns-then-state-ne-STATE_WORDS : goal.returns-then-state-ne-STATE_WORDS
returns-then-state-ne-STATE_WORDS c = save_size _ _ c.if-state-ne-STATE_WORDS.true

pub returns-then-w-gt-SPLITS : goal.returns-then-w-gt-SPLITS
returns-then-w-gt-SPLITS c = save_deep _ _ c.if-state-ne-STATE_WORDS.false c.if-w-gt-SPLITS.true

pub returns : goal.returns
unfolding words_of
returns c = ap (saving 0) (c.put.ensures ∙ rw c.of.ensures) ∙ save_done c.args.w c.args.state.now c.if-state-ne-STATE_WORDS.false c.if-w-gt-SPLITS.false
