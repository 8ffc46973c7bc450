use mathlib.Core.Path.{◌≡◌, sym, ap, ap₂, ◌∙◌, refl}
use mathlib.Core.Bool.{◌&&◌}
use native.Mathlib.Omega.{arith}
use Rattle.isa.specs.declared.Instr.TheVariants as I
use Rattle.isa.specs.Fields.{fields_of, is_masked}
use Rattle.isa.specs.Masked.{is_v0}
use Rattle.isa.specs.Wide.{vd_in}
use Rattle.lanes.specs.Lanes.{written_lanes}
use Rattle.layout.specs.Words.{mask_in, warp_of}
use Rattle.definition.specs.Exec.{effect_of}
use Rattle.definition.specs.Refuse.{refusals_of}
use Rattle.handlers.specs.Handles.{lists}
use Rattle.handlers.proofs.Laws.{refused, file_written}
use Rattle.lane_handlers.proofs.Laws.{by_mask, mask_refuses, mask_passes}
use Rattle.lane_handlers.proofs.vid.Goals as goal

pub returns-then-masked-is_v0 : goal.returns-then-masked-is_v0
unfolding warp_of refusals_of
returns-then-masked-is_v0 c =
    let a = c.args in
    let tested : (is_masked (fields_of a.w) && is_v0 (vd_in a.w)) ≡ (c.masked.result && c.is_v0.result) = sym (ap₂ ◌&&◌ c.masked.ensures (c.is_v0.ensures ∙ ap is_v0 c.vd-d.ensures.0)) in
    λ x r d n.
    refused (I.Vid (is_masked (fields_of a.w)) (vd_in a.w)) 6 (lists a.g.now a.h.now x r a.v.now d) (λ z. omega arith) c.requires.long n (mask_refuses _ (tested ∙ c.if-masked-is_v0.true))

pub returns : goal.returns
unfolding warp_of effect_of refusals_of
returns c =
    let a = c.args in
    let tested : (is_masked (fields_of a.w) && is_v0 (vd_in a.w)) ≡ (c.masked.result && c.is_v0.result) = sym (ap₂ ◌&&◌ c.masked.ensures (c.is_v0.ensures ∙ ap is_v0 c.vd-d.ensures.0)) in
    λ x r d n.
    file_written (I.Vid (is_masked (fields_of a.w)) (vd_in a.w)) a.g.now a.h.now x r a.v.now d _ c.requires.long n c.next.ensures (mask_passes _ (tested ∙ c.if-masked-is_v0.false))
    (written_lanes (is_masked (fields_of a.w)) a.v.now (mask_in a.h.now)) _ _ _ refl
    (c.id_lanes.ensures ∙ by_mask _ _ _ _ _ _ _ a.v.now c.threads.ensures c.written-on.ensures c.vd-d.ensures.0)
