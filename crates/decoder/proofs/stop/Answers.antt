use mathlib.Core.Path.{◌∙◌}
use mathlib.Core.List.{[]}
use Rattle.isa.specs.declared.Instr.TheVariants.{Refused}
use Rattle.isa.specs.Fields.{fields_of}
use Rattle.isa.specs.Table.{on}
use Rattle.isa.specs.Ventus.{stops, stop_word}
use Rattle.isa.specs.Kinds.{row_of}
use Rattle.isa.proofs.Laws.{past}
use Rattle.decoder.proofs.stop.Goals as goal

pub returns-in-0 : goal.returns-in-0
unfolding row_of stop_word
returns-in-0 c = c.end_prg.ensures ∙ simp c.in-0.is

pub returns-in-2 : goal.returns-in-2
unfolding row_of stop_word
returns-in-2 c = c.barrier.ensures ∙ simp c.in-2.is

pub returns-in_default : goal.returns-in_default
unfolding row_of stop_word
returns-in_default c = let f = fields_of c.args.w in past (on f) Refused _ stops [] c.in_default.in_default-own.rest
