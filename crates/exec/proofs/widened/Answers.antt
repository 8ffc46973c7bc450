use mathlib.Core.Bool.{Bool}
use mathlib.Core.Path.{subst}
use native.Mathlib.Omega.{arith}
use Rattle.isa.specs.Wide.{Judged}
use Rattle.layout.specs.Words.{prefix_in}
use Rattle.exec.proofs.Laws.{prefix_bits, widens_none, widens_so}
use Rattle.exec.proofs.widened.Goals as goal

pub returns-then-kind-eq0 : goal.returns-then-kind-eq0
returns-then-kind-eq0 c = let a = c.args in rw c.plain.ensures (widens_none (prefix_in a.h.now) a.w (omega arith) c.if-kind-eq0.true)

pub returns : goal.returns
returns c =
    let a = c.args in
    rw c.widen.ensures (widens_so (prefix_in a.h.now) a.w (omega arith) (prefix_bits (prefix_in a.h.now) c.requires) c.if-kind-eq0.false (subst (λ (t : Bool). Judged t (prefix_in a.h.now) a.w) c.if-not-takes.false c.takes.ensures))
