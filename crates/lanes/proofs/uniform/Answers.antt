use Prim.Native.Nat.{◌<◌}
use mathlib.Core.Path.{◌≡◌}
use native.Mathlib.Omega.{arith}
use lib.Dec.{eqb}
use Rattle.std.proofs.Common.{rules}
use Rattle.lanes.specs.declared.Lane.{Lane}
use Rattle.lanes.specs.Lanes.{lane_of}
use Rattle.lanes.specs.Rows.{at}
use Rattle.lanes.proofs.RowLaws.{uniform_value, uniform_row}
use Rattle.lanes.proofs.uniform.Goals as goal

pub returns : goal.returns
returns c =
    let m = c.args.mask in
    let n = c.args.n in
    let f = lane_of c.args.v.now c.args.a in
    let x = c.row-x.result in
    let one = c.value-value.result in
    let rx : (l : Lane) → l.0 < n → at x l ≡ f l = λ l h. c.row-x.ensures.1 l (omega arith) in (
      uniform_row m n f x one rx c.value-value.ensures c.all_active.result (c.all_active.ensures (λ l. eqb (at x l) one) (λ l t h e. search rules)),
      uniform_value m n f x one rx c.value-value.ensures,
    )
