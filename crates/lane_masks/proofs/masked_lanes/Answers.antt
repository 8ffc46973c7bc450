use mathlib.Core.Path.{ap, ◌∙◌}
use mathlib.Core.Bool.{true, ◌&&◌}
use Prim.Native.Nat.{ℕ}
use native.Mathlib.Omega.{arith}
use lib.Bits.{bit_and}
use Rattle.std.proofs.Common.{rules}
use Rattle.lanes.specs.Mask.{bit}
use Rattle.lanes.specs.Lanes.{is_odd, written_lanes}
use Rattle.lane_masks.specs.V0Rows.{odd_lane}
use Rattle.lanes.proofs.MaskLaws.{mask_same, and_bits}
use Rattle.lane_masks.proofs.masked_lanes.Goals as goal

pub returns : goal.returns
returns c =
    let m = c.args.mask in
    let on = odd_lane c.row-z.result in
    ap (λ (o : ℕ). bit_and o m) (c.lanes_where.ensures on (λ l t h e. search rules))
    ∙ and_bits on c.args.n m c.requires.2
    ∙ mask_same (λ l. bit m l && on l) (written_lanes true c.args.v.now m) c.args.n (λ l h. ap (λ (x : ℕ). bit m l && is_odd x) (c.row-z.ensures.1 l (omega arith)))
