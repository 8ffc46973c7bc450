use mathlib.Core.Path.{◌≡◌, ◌∙◌}
use mathlib.Core.Bool.{cond}
use Prim.Native.Nat.{ℕ}
use Rattle.std.proofs.Common.{rules}
use Rattle.lanes.specs.Lanes.{is_odd, merge_lane}
use Rattle.lanes.specs.Rows.{at}
use Rattle.lanes.proofs.RowLaws.{row_made, row_written}
use Rattle.lane_masks.specs.V0Rows.{merge_row}
use Rattle.lane_masks.proofs.merge_lanes.Goals as goal

three : (z z' x x' y y' : ℕ) → z ≡ z' → x ≡ x' → y ≡ y' → cond (is_odd z) y x ≡ cond (is_odd z') y' x'
three z z' x x' y y' p q r = rw (p, q, r)

pub returns : goal.returns
returns c =
    let made = row_made _ (merge_row c.row-z.result c.row-x.result c.operand_row-y.result) _ (λ i y q e. search rules) c.from_fn-m.result c.from_fn-m.ensures.items in
    c.put.ensures
    ∙ row_written c.args.mask c.args.n c.args.d (at c.from_fn-m.result) (merge_lane c.args.v.now c.args.a c.args.b) c.args.v.now c.requires.2 c.requires.1
    (λ l h. made.1 l h ∙ three _ _ _ _ _ _ (c.row-z.ensures.1 l h) (c.row-x.ensures.1 l h) (c.operand_row-y.ensures.1 l h))
