use Rattle.definition.specs.Exec.{effect_of}
use Rattle.definition.specs.Refuse.{refusals_of}
use Rattle.handlers.proofs.Laws.{file_written}
use Rattle.isa.specs.Fields.{fields_of}
use Rattle.isa.specs.Wide.{xs1_in, vd_in}
use Rattle.isa.specs.declared.Instr.TheVariants as I
use Rattle.lanes.specs.Mask.{bit}
use Rattle.layout.specs.Words.{mask_in, warp_of}
use mathlib.Core.Path.{◌∙◌, refl}
use Rattle.lane_handlers.proofs.vmove_sx.Goals as goal

pub returns : goal.returns
unfolding warp_of effect_of refusals_of
returns c = let a = c.args in let f = fields_of a.w in λ s d n. file_written (I.VMoveSX (vd_in a.w) (xs1_in a.w)) a.g.now a.h.now a.x.now s a.v.now d _ c.requires.long n c.next.ensures refl (bit (mask_in a.h.now)) _ _ _ refl (c.move_lanes.ensures ∙ rw (c.threads.ensures, c.vd.ensures.0, c.first-y.ensures))
