use mathlib.Core.Path.{sym, ap, ◌∙◌, refl}
use native.Mathlib.Omega.{arith}
use Rattle.isa.specs.declared.Instr.TheVariants as I
use Rattle.isa.specs.Fields.{fields_of}
use Rattle.isa.specs.Masked.{is_v0}
use Rattle.isa.specs.Prefix.{on_source}
use Rattle.isa.specs.Wide.{numbers_in, vd_in, vs2_in}
use Rattle.isa.specs.Kinds.{source_in}
use Rattle.lanes.specs.Mask.{bit}
use Rattle.layout.specs.Words.{mask_in, warp_of}
use Rattle.definition.specs.Exec.{effect_of}
use Rattle.definition.specs.Refuse.{refusals_of}
use Rattle.handlers.specs.Handles.{lists}
use Rattle.handlers.proofs.Laws.{refused, file_written}
use Rattle.lane_handlers.proofs.Laws.{mask_refuses, mask_passes}
use Rattle.lane_handlers.proofs.vmerge.Goals as goal

pub returns-then-is_v0 : goal.returns-then-is_v0
unfolding warp_of refusals_of
returns-then-is_v0 c =
    let a = c.args in
    λ r d n.
    refused (I.VMerge (vd_in a.w) (vs2_in a.w) (on_source (numbers_in a.w) (source_in (fields_of a.w)))) 6 (lists a.g.now a.h.now a.x.now r a.v.now d) (λ z. omega arith) c.requires.long n
    (mask_refuses (is_v0 (vd_in a.w)) (sym (c.is_v0.ensures ∙ ap is_v0 c.vd-d.ensures.0) ∙ c.if-is_v0.true))

pub returns : goal.returns
unfolding warp_of effect_of refusals_of
returns c =
    let a = c.args in
    λ r d n.
    file_written (I.VMerge (vd_in a.w) (vs2_in a.w) (on_source (numbers_in a.w) (source_in (fields_of a.w)))) a.g.now a.h.now a.x.now r a.v.now d _ c.requires.long n c.next.ensures
    (mask_passes (is_v0 (vd_in a.w)) (sym (c.is_v0.ensures ∙ ap is_v0 c.vd-d.ensures.0) ∙ c.if-is_v0.false)) (bit (mask_in a.h.now)) _ _ _ refl
    (c.merge_lanes.ensures
    ∙ rw (c.threads.ensures, c.vd-d.ensures.0, c.vs2.ensures.0, c.operand-b.ensures.1 a.g.now a.h.now r a.v.now d))
