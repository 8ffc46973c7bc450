use native.Mathlib.Omega.{arith}
use Rattle.lanes.proofs.Laws.{each_none}
use Rattle.lanes.proofs.RowLaws.{mask_turn, mask_grows}
use Rattle.lanes.proofs.lanes_where.Goals as goal

pub loop-l-init : goal.loop-l-init
loop-l-init g c = (omega arith, λ p h. each_none _ _ _)

pub loop-l-preserved : goal.loop-l-preserved
loop-l-preserved g c =
    let l = c.loop-l.l in (
      mask_grows l c.loop-l.out c.with-out.result c.f.result c.with-out.ensures c.loop-l.invariant.0,
      λ p h. mask_turn p l c.loop-l.out c.with-out.result c.f.result (h l c.f.result (omega arith) c.f.ensures) c.with-out.ensures (c.loop-l.invariant.1 p (λ i t k. h i t (omega arith))),
    )
