use mathlib.Core.Path.{sym, subst, ◌∙◌}
use Prim.Native.Nat.{◌+◌}
use native.Mathlib.Omega.{arith}
use Rattle.lanes.specs.Mask.{bit}
use Rattle.lanes.specs.Rows.{RowOn}
use Rattle.lanes.proofs.RowLaws.{row_on_some, row_on_none}
use Rattle.lane_memory.proofs.gather.Goals as goal
use Rattle.lane_memory.proofs.gather.Goals.{then-active, else-active}

pub loop-l-preserved : goal.loop-l-preserved
loop-l-preserved g c =
    let on = bit c.args.mask in
    let l = c.loop-l.l in
    let x = c.loop-l.x in
    λ h gives.
    let row = c.loop-l.invariant h (λ i y k. gives i y (omega arith)) in
    elim c.if-active.branch [
      | then-active w ↦ subst (RowOn on (l + 1) h) (sym w.x-is) (row_on_some on h x l w.f.result (omega arith) (gives l w.f.result (omega arith) w.f.ensures) row)
      | else-active w ↦ subst (RowOn on (l + 1) h) (sym w.x-is) (row_on_none on h x l (sym c.active.ensures ∙ w.if-active.false) row)
    ]
