use mathlib.Core.Path.{refl, ap, ◌∙◌}
use mathlib.Core.Bool.{Bool, not, cond}
use mathlib.Core.List.{[], ◌∷◌}
use native.Mathlib.Omega.{arith}
use lib.Dec.{eqb}
use Rattle.answer.specs.Answer.{number_of}
use Rattle.answer.specs.Rows.{◌⇒◌, first}
use Rattle.lanes.specs.Mask.{bit}
use Rattle.lanes.specs.Lanes.{lane_of}
use Rattle.lanes.specs.Rows.{at}
use Rattle.memory.specs.Memory.{width_of}
use Rattle.memory.specs.Memories.{Contents, contents, memories, inside_one}
use Rattle.memory.specs.LaneAccess.{all_inside}
use Rattle.memory.proofs.Agree.{agree_only}
use Rattle.memory.proofs.Laws.{store_only}
use Rattle.lane_memory.proofs.store_lanes.Goals as goal

pub returns : goal.returns
returns c =
    let g = c.args in
    let m = memories g.base g.near (contents g.d.now g.local.now) in
    let on = bit g.mask in
    let o = at g.o.now in
    record {
      code = c.stored.ensures.code
          ∙ ap (λ (t : Bool). first (9 ⇒ not (all_inside g.n on (inside_one m (width_of g.k)) o) ∷ 15 ⇒ not t ∷ []))
          (agree_only g.n on g.k o o _ (lane_of g.v.now g.src) (λ l h t. refl) (λ l h t. c.row-x.ensures.1 l (omega arith)));
      bytes = c.stored.ensures.bytes
          ∙ ap (λ (e : Contents). cond (eqb (number_of c.stored.result) 0) e m.bytes)
          (store_only g.n on m o o (λ l h t. refl) g.k _ (lane_of g.v.now g.src) (λ l h t. c.row-x.ensures.1 l (omega arith)));
    }
