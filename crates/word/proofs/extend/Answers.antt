use Rattle.std.proofs.Common.{arith, le-ltb}
use Rattle.word.proofs.Laws.{half}
use Rattle.word.proofs.extend.Goals as goal

pub returns-else-x-half : goal.returns-else-x-half
returns-else-x-half c = let h = half c.args.n c.requires.0 c.requires.1 in rw (← h.is, le-ltb _ _ c.if-x-half.false) (omega (arith, h.twice))
