use Prim.Native.Nat.{◌+◌}
use mathlib.Core.Path.{◌∙◌, ap}
use Rattle.isa.specs.Fields.{fields_of, imm_i}
use Rattle.isa.specs.Table.{fixed}
use Rattle.isa.specs.Ventus.{prefix_word}
use Rattle.isa.proofs.Tables.{fixed_two}
use Rattle.decoder.proofs.prefix.Goals as goal

pub returns : goal.returns
unfolding prefix_word
returns c make e =
    let f = fields_of c.args.w in
    c.fixed.ensures c.args.w
    ∙ ap (fixed (f.rs1 + f.rd) 0) e
    ∙ fixed_two f.rs1 f.rd (make (imm_i f))
