use Rattle.memory.specs.Memories.{contents}
use Rattle.lane_handlers.proofs.Laws.{lane_load_arm, lane_store_arm}
use Rattle.exec.proofs.Laws.{ready_lanes, pended}
use Rattle.handlers.proofs.Laws.{told}
use Rattle.isa.proofs.Words.{barrier_is, endprg_is, join_is, pload_is, pstore_is, regext_is, regexti_is, setrpc_is, vbranch_is, vid_is, vload_is, vmerge_is, vmove_is, vmove_sx_is, vmove_xs_is, vstore_is}
use Rattle.isa.specs.Fields.{fields_of, imm_i}
use Rattle.isa.specs.Prefix.{reg_ext, reg_ext_i}
use Rattle.isa.specs.declared.Instr.TheVariants as I
use Rattle.isa.specs.declared.Space.TheVariants.{Plain, Private}
use Rattle.layout.proofs.Words.{lent_deep, lent_room}
use Rattle.definition.specs.Exec.{effect_of}
use Rattle.definition.specs.Refuse.{refusals_of}
use mathlib.Core.Path.{◌≡◌, refl}
use borrow.Author.Rules.{rules}
use borrow.Author.Tests.{ne_eqb}
use Rattle.answer.specs.Answer.{refusal_of, number_of}
use Rattle.answer.proofs.Numbers.{some_number}
use Rattle.exec.proofs.lane_word.Goals as goal

pub vbranch-requires : goal.vbranch-requires
unfolding effect_of refusals_of
vbranch-requires c = let a = c.args in ((ready_lanes a.g.now a.h.now a.x.now a.s.now a.v.now (contents a.d.now a.l.now) c.requires.0), c.requires.0.lent.room, lent_room a.g.now a.h.now a.x.now a.s.now c.requires.0.lent)

pub vload-requires : goal.vload-requires
unfolding effect_of refusals_of
vload-requires c = let a = c.args in ((ready_lanes a.g.now a.h.now a.x.now a.s.now a.v.now (contents a.d.now a.l.now) c.requires.0).at, c.requires.0.memories_ok, c.imm_i.ensures.1)

pub vstore-requires : goal.vstore-requires
unfolding effect_of refusals_of
vstore-requires c = let a = c.args in ((ready_lanes a.g.now a.h.now a.x.now a.s.now a.v.now (contents a.d.now a.l.now) c.requires.0).at, c.requires.0.memories_ok, c.imm_s.ensures.1)

pub vload-requires-in-14 : goal.vload-requires-in-14
unfolding effect_of refusals_of
vload-requires-in-14 c = let a = c.args in ((ready_lanes a.g.now a.h.now a.x.now a.s.now a.v.now (contents a.d.now a.l.now) c.requires.0).at, c.requires.0.memories_ok, c.private_load_offset.ensures.1)

pub vstore-requires-in-15 : goal.vstore-requires-in-15
unfolding effect_of refusals_of
vstore-requires-in-15 c = let a = c.args in ((ready_lanes a.g.now a.h.now a.x.now a.s.now a.v.now (contents a.d.now a.l.now) c.requires.0).at, c.requires.0.memories_ok, c.private_store_offset.ensures.1)

pub join-requires : goal.join-requires
unfolding effect_of refusals_of
join-requires c = let a = c.args in (c.requires.0.lent.long, c.requires.0.lent.room, lent_deep a.g.now a.h.now a.x.now a.s.now c.requires.0.lent)

pub vmove_xs-requires : goal.vmove_xs-requires
unfolding effect_of refusals_of
vmove_xs-requires c = let a = c.args in (ready_lanes a.g.now a.h.now a.x.now a.s.now a.v.now (contents a.d.now a.l.now) c.requires.0)

pub vmove_sx-requires : goal.vmove_sx-requires
unfolding effect_of refusals_of
vmove_sx-requires c = let a = c.args in (ready_lanes a.g.now a.h.now a.x.now a.s.now a.v.now (contents a.d.now a.l.now) c.requires.0)

pub vid-requires : goal.vid-requires
unfolding effect_of refusals_of
vid-requires c = let a = c.args in (ready_lanes a.g.now a.h.now a.x.now a.s.now a.v.now (contents a.d.now a.l.now) c.requires.0)

pub vmove-requires : goal.vmove-requires
unfolding effect_of refusals_of
vmove-requires c = let a = c.args in (ready_lanes a.g.now a.h.now a.x.now a.s.now a.v.now (contents a.d.now a.l.now) c.requires.0)

pub vmerge-requires : goal.vmerge-requires
unfolding effect_of refusals_of
vmerge-requires c = let a = c.args in (ready_lanes a.g.now a.h.now a.x.now a.s.now a.v.now (contents a.d.now a.l.now) c.requires.0)

pub returns-in-10 : goal.returns-in-10
unfolding effect_of refusals_of
returns-in-10 c = let a = c.args in told (vbranch_is a.kind a.w c.in-10.is refl refl refl refl) (c.vbranch.ensures a.x.now (contents a.d.now a.l.now))

pub returns-in-11 : goal.returns-in-11
unfolding effect_of refusals_of
returns-in-11 c = let a = c.args in told (setrpc_is a.kind a.w c.in-11.is refl refl refl) (c.setrpc.ensures a.g.now a.s.now a.v.now (contents a.d.now a.l.now) c.requires.0.lent.room)

pub returns-in_err-vload-in-12 : goal.returns-in_err-vload-in-12
unfolding effect_of refusals_of
returns-in_err-vload-in-12 c =
    let a = c.args in
    let e : number_of c.from_residual.result ≡ refusal_of c.in_err-vload-in-12.field-0.0 = search rules in
    rw e
    (told (vload_is a.kind a.w c.in-12.is refl refl refl c.imm_i.ensures.0)
    (lane_load_arm _ Plain _ a.w _ a.g.now a.h.now a.x.now a.s.now a.v.now (contents a.d.now a.l.now) _ c.requires.0.lent.long c.requires.0.lent.room (refl, rw (ne_eqb _ 0 (some_number c.in_err-vload-in-12.field-0.0)) refl) _ c.in_err-vload-in-12.ensures))

pub returns-in_ok-vload-in-12 : goal.returns-in_ok-vload-in-12
unfolding effect_of refusals_of
returns-in_ok-vload-in-12 c =
    let a = c.args in
    told (vload_is a.kind a.w c.in-12.is refl refl refl c.imm_i.ensures.0)
    (lane_load_arm _ Plain _ a.w _ a.g.now a.h.now a.x.now a.s.now a.v.now (contents a.d.now a.l.now) _ c.requires.0.lent.long c.requires.0.lent.room (refl, c.next.ensures) _ c.in_ok-vload-in-12.ensures)

pub returns-in_err-vstore-in-13 : goal.returns-in_err-vstore-in-13
unfolding effect_of refusals_of
returns-in_err-vstore-in-13 c =
    let a = c.args in
    let e : number_of c.from_residual-in_err-vstore-in-13.result ≡ refusal_of c.in_err-vstore-in-13.field-0.0 = search rules in
    rw e
    (told (vstore_is a.kind a.w c.in-13.is refl refl refl c.imm_s.ensures.0)
    (lane_store_arm _ Plain _ a.w _ a.g.now a.h.now a.x.now a.s.now a.v.now (contents a.d.now a.l.now) _ c.requires.0.lent.long c.requires.0.lent.room (refl, rw (ne_eqb _ 0 (some_number c.in_err-vstore-in-13.field-0.0)) refl) _ c.in_err-vstore-in-13.ensures))

pub returns-in_ok-vstore-in-13 : goal.returns-in_ok-vstore-in-13
unfolding effect_of refusals_of
returns-in_ok-vstore-in-13 c =
    let a = c.args in
    told (vstore_is a.kind a.w c.in-13.is refl refl refl c.imm_s.ensures.0)
    (lane_store_arm _ Plain _ a.w _ a.g.now a.h.now a.x.now a.s.now a.v.now (contents a.d.now a.l.now) _ c.requires.0.lent.long c.requires.0.lent.room (refl, c.next-in-13.ensures) _ c.in_ok-vstore-in-13.ensures)

pub returns-in_err-vload-in-14 : goal.returns-in_err-vload-in-14
unfolding effect_of refusals_of
returns-in_err-vload-in-14 c =
    let a = c.args in
    let e : number_of c.from_residual-in_err-vload-in-14.result ≡ refusal_of c.in_err-vload-in-14.field-0.0 = search rules in
    rw e
    (told (pload_is a.kind a.w c.in-14.is refl refl refl c.private_load_offset.ensures.0)
    (lane_load_arm _ Private _ a.w _ a.g.now a.h.now a.x.now a.s.now a.v.now (contents a.d.now a.l.now) _ c.requires.0.lent.long c.requires.0.lent.room (refl, rw (ne_eqb _ 0 (some_number c.in_err-vload-in-14.field-0.0)) refl) _ c.in_err-vload-in-14.ensures))

pub returns-in_ok-vload-in-14 : goal.returns-in_ok-vload-in-14
unfolding effect_of refusals_of
returns-in_ok-vload-in-14 c =
    let a = c.args in
    told (pload_is a.kind a.w c.in-14.is refl refl refl c.private_load_offset.ensures.0)
    (lane_load_arm _ Private _ a.w _ a.g.now a.h.now a.x.now a.s.now a.v.now (contents a.d.now a.l.now) _ c.requires.0.lent.long c.requires.0.lent.room (refl, c.next-in-14.ensures) _ c.in_ok-vload-in-14.ensures)

pub returns-in_err-vstore-in-15 : goal.returns-in_err-vstore-in-15
unfolding effect_of refusals_of
returns-in_err-vstore-in-15 c =
    let a = c.args in
    let e : number_of c.from_residual-in_err-vstore-in-15.result ≡ refusal_of c.in_err-vstore-in-15.field-0.0 = search rules in
    rw e
    (told (pstore_is a.kind a.w c.in-15.is refl refl refl c.private_store_offset.ensures.0)
    (lane_store_arm _ Private _ a.w _ a.g.now a.h.now a.x.now a.s.now a.v.now (contents a.d.now a.l.now) _ c.requires.0.lent.long c.requires.0.lent.room (refl, rw (ne_eqb _ 0 (some_number c.in_err-vstore-in-15.field-0.0)) refl) _ c.in_err-vstore-in-15.ensures))

pub returns-in_ok-vstore-in-15 : goal.returns-in_ok-vstore-in-15
unfolding effect_of refusals_of
returns-in_ok-vstore-in-15 c =
    let a = c.args in
    told (pstore_is a.kind a.w c.in-15.is refl refl refl c.private_store_offset.ensures.0)
    (lane_store_arm _ Private _ a.w _ a.g.now a.h.now a.x.now a.s.now a.v.now (contents a.d.now a.l.now) _ c.requires.0.lent.long c.requires.0.lent.room (refl, c.next-in-15.ensures) _ c.in_ok-vstore-in-15.ensures)

pub returns-in-43 : goal.returns-in-43
unfolding effect_of refusals_of
returns-in-43 c = let a = c.args in told (join_is a.kind a.w c.in-43.is) (c.join.ensures a.g.now a.x.now a.v.now (contents a.d.now a.l.now))

pub returns-in-44 : goal.returns-in-44
unfolding effect_of refusals_of
returns-in-44 c = let a = c.args in told (endprg_is a.kind a.w c.in-44.is) (c.end.ensures a.g.now a.x.now a.s.now a.v.now (contents a.d.now a.l.now) c.requires.0.lent.room)

pub returns-in-45 : goal.returns-in-45
unfolding effect_of refusals_of
returns-in-45 c = let a = c.args in told (barrier_is a.kind a.w c.in-45.is refl) (c.barrier.ensures a.g.now a.x.now a.s.now a.v.now (contents a.d.now a.l.now) c.requires.0.lent.room)

pub returns-in-46 : goal.returns-in-46
unfolding effect_of refusals_of
returns-in-46 c = let a = c.args in told (vmove_xs_is a.kind a.w c.in-46.is refl refl) (c.vmove_xs.ensures a.s.now (contents a.d.now a.l.now) c.requires.0.lent.room)

pub returns-in-47 : goal.returns-in-47
unfolding effect_of refusals_of
returns-in-47 c = let a = c.args in told (vmove_sx_is a.kind a.w c.in-47.is refl refl) (c.vmove_sx.ensures a.s.now (contents a.d.now a.l.now) c.requires.0.lent.room)

pub returns-in-48 : goal.returns-in-48
unfolding effect_of refusals_of
returns-in-48 c = let a = c.args in told (vid_is a.kind a.w c.in-48.is refl refl) (c.vid.ensures a.x.now a.s.now (contents a.d.now a.l.now) c.requires.0.lent.room)

pub returns-in-49 : goal.returns-in-49
unfolding effect_of refusals_of
returns-in-49 c = let a = c.args in told (vmove_is a.kind a.w c.in-49.is refl refl) (c.vmove.ensures a.s.now (contents a.d.now a.l.now) c.requires.0.lent.room)

pub returns-in-50 : goal.returns-in-50
unfolding effect_of refusals_of
returns-in-50 c = let a = c.args in told (regext_is a.kind a.w c.in-50.is refl) (pended (I.RegExt (imm_i (fields_of a.w))) reg_ext (imm_i (fields_of a.w)) _ a.g.now a.h.now a.x.now a.s.now a.v.now (contents a.d.now a.l.now) _ refl (c.pend.ensures a.g.now a.x.now a.s.now c.requires.0.lent.room) refl refl)

pub returns-in-51 : goal.returns-in-51
unfolding effect_of refusals_of
returns-in-51 c = let a = c.args in told (regexti_is a.kind a.w c.in-51.is refl) (pended (I.RegExtI (imm_i (fields_of a.w))) reg_ext_i (imm_i (fields_of a.w)) _ a.g.now a.h.now a.x.now a.s.now a.v.now (contents a.d.now a.l.now) _ refl (c.pend-in-51.ensures a.g.now a.x.now a.s.now c.requires.0.lent.room) refl refl)

pub returns-in-52 : goal.returns-in-52
unfolding effect_of refusals_of
returns-in-52 c = let a = c.args in told (vmerge_is a.kind a.w c.in-52.is refl refl refl) (c.vmerge.ensures a.s.now (contents a.d.now a.l.now) c.requires.0.lent.room)
