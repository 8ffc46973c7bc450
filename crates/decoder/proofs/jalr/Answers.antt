use Rattle.isa.specs.Scalar.{jalr_word}
use Rattle.isa.specs.Kinds.{row_of}
use Rattle.decoder.proofs.jalr.Goals as goal

pub returns : goal.returns
unfolding row_of jalr_word
returns c = c.fixed.ensures c.args.w
