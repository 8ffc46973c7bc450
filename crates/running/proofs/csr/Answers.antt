use mathlib.Core.Path.{sym, ◌∙◌}
use Rattle.running.proofs.Goes.{csr_goes_read, csr_goes_write}
use Rattle.running.proofs.csr.Goals as goal

pub returns-then-csr_writes : goal.returns-then-csr_writes
returns-then-csr_writes c = λ s n.
    csr_goes_write c.args.g.now c.args.h.now c.args.x.now s c.requires.0 n _ _ c.args.op c.args.n c.args.rd c.args.rs1 c.args.y
    _ (c.csr_at-old.ensures c.args.x.now s) c.put_x.ensures _ _ (sym c.csr_writes.ensures ∙ c.if-csr_writes.true) c.csr_new-new.ensures c.next.ensures c.csr_put.ensures

pub returns-else-csr_writes : goal.returns-else-csr_writes
returns-else-csr_writes c = λ s n.
    csr_goes_read c.args.g.now c.args.h.now c.args.x.now s c.requires.0 n _ _ c.args.op c.args.n c.args.rd c.args.rs1 c.args.y
    _ (c.csr_at-old.ensures c.args.x.now s) c.put_x.ensures (sym c.csr_writes.ensures ∙ c.if-csr_writes.false) c.next.ensures
