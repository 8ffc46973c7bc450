use mathlib.Core.Path.{ap, subst, ◌∙◌}
use Prim.Native.Nat.{ℕ}
use Rattle.lane_clash.specs.Clash.{NoneMeet, pairs_from}
use Rattle.lane_clash.proofs.Laws.{pairs_agree, apart_agree}
use Rattle.lane_clash.proofs.all_agree.Goals as goal

pub returns-then-apart : goal.returns-then-apart
returns-then-apart c =
    let a = c.args in
    c.if-apart.true ∙ apart_agree a.k a.mask a.n a.o.now a.x.now (subst (λ (v : ℕ). NoneMeet v a.n a.o.now) c.width-w.ensures.0 (c.apart.ensures c.if-apart.true))

pub returns-else-apart : goal.returns-else-apart
returns-else-apart c =
    let a = c.args in
    c.pairs_agree.ensures ∙ ap (λ (v : ℕ). pairs_from v a.mask a.n a.o.now a.x.now) c.width-w.ensures.0 ∙ pairs_agree a.k a.mask a.n a.o.now a.x.now
