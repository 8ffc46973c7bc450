use mathlib.Core.Path.{◌∙◌}
use Rattle.isa.specs.Fields.{fields_of}
use Rattle.isa.specs.Ventus.{end_prg_word}
use Rattle.isa.specs.Kinds.{row_of}
use Rattle.isa.proofs.Tables.{fixed_three}
use Rattle.decoder.proofs.end_prg.Goals as goal

pub returns : goal.returns
unfolding row_of end_prg_word
returns c = let f = fields_of c.args.w in c.fixed.ensures c.args.w ∙ fixed_three f.rs2 f.rs1 f.rd _
