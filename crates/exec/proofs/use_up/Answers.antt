use Rattle.exec.proofs.Laws.{none_goes}
use Rattle.exec.proofs.use_up.Goals as goal

pub returns-then-h-eq0 : goal.returns-then-h-eq0
returns-then-h-eq0 c = let a = c.args in λ g x s n. none_goes g a.h.now x s c.requires.0 n (c.requires.1 c.if-h-eq0.true)
