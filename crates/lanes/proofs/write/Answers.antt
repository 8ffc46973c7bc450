use mathlib.Core.Path.{ap, ◌∙◌}
use mathlib.Core.Bool.{cond}
use Prim.Native.Nat.{ℕ}
use native.Mathlib.Omega.{arith}
use borrow.Author.Rules.{rules}
use lib.ListN.{get_or, length-set}
use Rattle.lanes.specs.Mask.{bit}
use Rattle.lanes.proofs.Laws.{each_none}
use Rattle.lanes.proofs.RowLaws.{written_choice}
use Rattle.lanes.proofs.write.Goals as goal

pub loop-l-init : goal.loop-l-init
loop-l-init g c = (search rules, λ f h. each_none _ _ _)

pub loop-l-preserved : goal.loop-l-preserved
loop-l-preserved g c =
    let s = c.args in
    let l = c.loop-l.l in
    let u = c.loop-l.v in
    let i = c.slot-i.result in
    let t = c.active.result in (
      length-set u i c.choose.result ∙ c.loop-l.invariant.0,
      λ f h. (written_choice (bit s.mask) s.d f s.v.now l u i c.choose.result t c.active.ensures c.slot-i.ensures
          (c.choose.ensures ∙ ap (λ (x : ℕ). cond t x (get_or u i 0)) (h l c.f.result (omega arith) c.f.ensures))
          (c.loop-l.invariant.0, c.loop-l.invariant.1 f (λ k x w. h k x (omega arith)))).1,
    )
