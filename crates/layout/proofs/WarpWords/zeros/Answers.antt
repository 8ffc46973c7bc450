use Rattle.std.proofs.Common.{refl}
use Rattle.layout.specs.Parts.{zero_parts}
use Rattle.layout.proofs.WarpWords.zeros.Goals as goal

pub returns : goal.returns
unfolding zero_parts
returns c = refl
