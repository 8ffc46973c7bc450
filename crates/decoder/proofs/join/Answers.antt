use mathlib.Core.Path.{◌∙◌}
use Rattle.isa.specs.Fields.{fields_of}
use Rattle.isa.specs.Ventus.{join_word}
use Rattle.isa.specs.Kinds.{row_of}
use Rattle.isa.proofs.Tables.{fixed_four}
use Rattle.decoder.proofs.join.Goals as goal

pub returns : goal.returns
unfolding row_of join_word
returns c = let f = fields_of c.args.w in c.fixed.ensures c.args.w ∙ fixed_four f.funct7 f.rs2 f.rs1 f.rd _
