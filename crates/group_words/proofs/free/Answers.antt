use Rattle.group_words.proofs.Words.{free_not, free_waits}
use Rattle.group_words.proofs.free.Goals as goal

pub returns-then-h-ne0 : goal.returns-then-h-ne0
returns-then-h-ne0 c g x s n = free_waits g c.args.h.now x s c.requires n c.if-h-ne0.true

pub returns-else-h-ne0 : goal.returns-else-h-ne0
returns-else-h-ne0 c g x s n = free_not g c.args.h.now x s c.requires n c.if-h-ne0.false
