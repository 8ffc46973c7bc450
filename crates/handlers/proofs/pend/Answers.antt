use Rattle.handlers.proofs.Laws.{on_after}
use Rattle.isa.specs.Prefix.{prefix}
use Rattle.warp.specs.Warp.{with_prefix}
use Rattle.handlers.proofs.pend.Goals as goal

pub returns : goal.returns
returns c = λ g x s n. rw (← c.imm_i.ensures.0) (on_after (with_prefix (prefix _ _)) g _ x s _ x s _ (c.put_prefix.ensures g x s n) c.next.ensures)
