use mathlib.Core.Path.{sym, ap, ◌∙◌}
use native.Mathlib.Omega.{arith}
use borrow.Author.Rules.{rules}
use lib.ListN.{length, length-set}
use Rattle.lanes.specs.Mask.{bit}
use Rattle.lanes.proofs.Laws.{each_none}
use Rattle.lanes.proofs.RowLaws.{written_on, written_off}
use Rattle.lanes.proofs.write_on.Goals as goal
use Rattle.lanes.proofs.write_on.Goals.{then-active, else-active}

pub loop-l-init : goal.loop-l-init
loop-l-init g c = (search rules, λ f h. each_none _ _ _)

pub loop-l-preserved : goal.loop-l-preserved
loop-l-preserved g c =
    let s = c.args in
    let on = bit s.mask in
    let l = c.loop-l.l in
    let u = c.loop-l.v in
    let inv = c.loop-l.invariant in
    elim c.if-active.branch [
      | then-active w ↦ (
        ap length w.v-is ∙ length-set u w.slot.result w.f.result ∙ inv.0,
        λ f h. w.v-is
            ∙ (written_on on s.d f s.v.now l u w.slot.result w.f.result (sym c.active.ensures ∙ w.if-active.true) w.slot.ensures (h l w.f.result (omega arith) w.f.ensures)
            (inv.0, inv.1 f (λ k x q. h k x (omega arith)))).1,
      )
      | else-active w ↦ (
        ap length w.v-is ∙ inv.0,
        λ f h. w.v-is ∙ (written_off on s.d f s.v.now l u (sym c.active.ensures ∙ w.if-active.false) (inv.0, inv.1 f (λ k x q. h k x (omega arith)))).1,
      )
    ]
