use mathlib.Core.Path.{ap, ap₂, ◌∙◌}
use mathlib.Core.Bool.{◌&&◌}
use Prim.Native.Nat.{ℕ}
use native.Mathlib.Omega.{arith}
use lib.Bits.{bit_and}
use Rattle.word.specs.Word.{holds_of}
use Rattle.lanes.specs.Mask.{bit}
use Rattle.lanes.specs.Lanes.{wants_of}
use Rattle.lanes.specs.Rows.{holds_lane}
use Rattle.lanes.proofs.MaskLaws.{mask_same, and_bits}
use Rattle.lanes.proofs.else_mask.Goals as goal

pub returns : goal.returns
returns c =
    let m = c.args.mask in
    let on = holds_lane c.args.c c.row-x.result c.row-y.result in
    ap (λ (o : ℕ). bit_and o m) c.hold_op.ensures
    ∙ and_bits on c.args.n m c.requires.2
    ∙ mask_same (λ l. bit m l && on l) (wants_of c.args.v.now m c.args.c c.args.a c.args.b) c.args.n
    (λ l h. ap₂ (λ (p q : ℕ). bit m l && holds_of c.args.c p q) (c.row-x.ensures.1 l (omega arith)) (c.row-y.ensures.1 l (omega arith)))
