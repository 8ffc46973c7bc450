use mathlib.Core.Path.{ap, ◌∙◌}
use Prim.Native.Nat.{ℕ}
use lib.Bits.{bit_and}
use lib.Dec.{eqb}
use Rattle.lanes.proofs.MaskLaws.{mask_whole}
use Rattle.lanes.proofs.all_active.Goals as goal

pub returns : goal.returns
returns g c =
    let m = c.args.mask in
    λ p picks. ap (λ (o : ℕ). eqb (bit_and o m) m) (c.lanes_where.ensures p picks) ∙ mask_whole p c.args.n m c.requires.1
