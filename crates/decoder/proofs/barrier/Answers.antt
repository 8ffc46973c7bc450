use mathlib.Core.Path.{◌∙◌}
use Rattle.isa.specs.Fields.{fields_of}
use Rattle.isa.specs.Ventus.{barrier_word}
use Rattle.isa.specs.Kinds.{row_of}
use Rattle.isa.proofs.Tables.{fixed_two}
use Rattle.decoder.proofs.barrier.Goals as goal

pub returns : goal.returns
unfolding row_of barrier_word
returns c = let f = fields_of c.args.w in c.fixed.ensures c.args.w ∙ fixed_two f.rs2 f.rd _
