use mathlib.Core.Path.{◌∙◌, refl}
use mathlib.Core.List.{[]}
use Rattle.isa.specs.declared.Instr.TheVariants as I
use Rattle.isa.specs.Fields.{fields_of}
use Rattle.isa.specs.Table.{on}
use Rattle.isa.specs.Ventus.{warp_words, warp_word}
use Rattle.isa.specs.Kinds.{row_of}
use Rattle.isa.proofs.Laws.{past}
use Rattle.decoder.proofs.warp_word.Goals as goal

pub returns-in-4 : goal.returns-in-4
unfolding row_of warp_word
returns-in-4 c = c.stop.ensures ∙ simp c.in-4.is

pub returns-in-2 : goal.returns-in-2
unfolding row_of warp_word
returns-in-2 c = c.prefix.ensures I.RegExt refl ∙ simp c.in-2.is

pub returns-in-3 : goal.returns-in-3
unfolding row_of warp_word
returns-in-3 c = c.prefix-in-3.ensures I.RegExtI refl ∙ simp c.in-3.is

pub returns-in_default : goal.returns-in_default
unfolding row_of warp_word
returns-in_default c = let f = fields_of c.args.w in past (on f) I.Refused _ warp_words [] c.in_default.in_default-own.rest
