use mathlib.Core.Path.{◌∙◌, ap}
use native.Mathlib.Omega.{arith}
use Rattle.isa.specs.Decode.{decode_of}
use Rattle.isa.specs.Wide.{wide_of}
use Rattle.isa.proofs.Decoded.{decoded}
use Rattle.isa.proofs.Digits.{fits_low}
use Rattle.isa.proofs.Numbers.{read_plain}
use Rattle.instruction.proofs.decode.Goals as goal

pub returns : goal.returns
returns c =
    let w = c.args.w in
    c.instruction.ensures ∙ ap (wide_of _) c.plain.ensures ∙ read_plain w _ (omega arith) (decode_of w) c.kind.ensures (fits_low (decode_of w) (decoded w))
