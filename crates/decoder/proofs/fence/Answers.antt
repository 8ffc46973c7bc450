use Rattle.isa.specs.Scalar.{fence_word}
use Rattle.isa.specs.Kinds.{row_of}
use Rattle.decoder.proofs.fence.Goals as goal

pub returns : goal.returns
unfolding row_of fence_word
returns c = c.fixed.ensures c.args.w
