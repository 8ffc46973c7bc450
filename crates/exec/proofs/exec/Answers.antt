use Rattle.memory.specs.Memories.{contents}
use Prim.Native.Nat.{◌*◌, ℕ}
use Rattle.definition.specs.Exec.{effect_of, goes}
use Rattle.definition.specs.Refuse.{refusals_of}
use Rattle.handlers.proofs.Laws.{given, told}
use Rattle.exec.proofs.Laws.{ready_fixed, ready_lanes}
use Rattle.handlers.specs.Handles.{puts_in}
use Rattle.isa.proofs.Words.{auipc_is, branch_is, csr_is, fence_is, jal_is, jalr_is, load_is, lui_is, store_is, vector_is}
use Rattle.isa.specs.Fields.{fields_of, imm_u}
use Rattle.isa.specs.Wide.{xd_in}
use Rattle.isa.specs.Kinds.{lane_groups, of_immediates, of_registers, row_of, scalar_groups, vector_kinds}
use Rattle.isa.proofs.Laws.{past}
use Rattle.isa.specs.Table.{on}
use Rattle.isa.specs.declared.Instr.TheVariants as I
use Rattle.isa.specs.declared.Instr.TheVariants.{Refused}
use Rattle.layout.specs.Words.{warp_of}
use borrow.Author.Tests.{lt-leb}
use mathlib.Core.List.{◌++◌}
use mathlib.Core.Path.{ap, refl, sym}
use Rattle.exec.proofs.exec.Goals as goal

pub vector-requires : goal.vector-requires
unfolding row_of effect_of refusals_of warp_of
vector-requires c = let a = c.args in (ready_lanes a.g.now a.h.now a.x.now a.s.now a.v.now (contents a.d.now a.l.now) c.requires)

pub returns-then-kind-ge-VECTOR : goal.returns-then-kind-ge-VECTOR
unfolding row_of effect_of refusals_of warp_of
returns-then-kind-ge-VECTOR c = let a = c.args in told (vector_is a.kind a.w c.if-kind-ge-VECTOR.true) (c.vector.ensures a.s.now (contents a.d.now a.l.now) c.requires.lent.room)

pub csr-requires : goal.csr-requires
unfolding row_of effect_of refusals_of warp_of
csr-requires c = let a = c.args in (c.requires.lent.long, ready_fixed a.g.now a.h.now a.x.now a.s.now a.v.now (contents a.d.now a.l.now) c.requires)

pub lane_word-requires : goal.lane_word-requires
unfolding row_of effect_of refusals_of warp_of
lane_word-requires c = let a = c.args in let f = fields_of a.w in (c.requires, rw (lt-leb vector_kinds a.kind c.if-kind-ge-VECTOR.false) (sym (past (on f) Refused _ scalar_groups (lane_groups ++ of_registers ++ of_immediates) c.in_default.in_default-own.rest)))

pub returns-in-1 : goal.returns-in-1
unfolding row_of effect_of refusals_of warp_of
returns-in-1 c = let a = c.args in let f = fields_of a.w in told (lui_is a.kind a.w c.in-1.is refl refl) (given (I.Lui (xd_in a.w) (imm_u f)) (xd_in a.w) _ _ a.g.now a.h.now a.x.now a.s.now a.v.now (contents a.d.now a.l.now) _ _ refl (c.gives.ensures a.g.now a.s.now c.requires.lent.room) refl (ap (λ (z : ℕ). goes (puts_in (xd_in a.w) (z * 4096) (warp_of a.g.now a.h.now a.x.now a.s.now))) (sym c.imm_u.ensures.0)))

pub returns-in-2 : goal.returns-in-2
unfolding row_of effect_of refusals_of warp_of
returns-in-2 c = let a = c.args in told (auipc_is a.kind a.w c.in-2.is refl refl) (c.auipc.ensures a.g.now a.s.now a.v.now (contents a.d.now a.l.now) c.requires.lent.room)

pub returns-in-3 : goal.returns-in-3
unfolding row_of effect_of refusals_of warp_of
returns-in-3 c = let a = c.args in told (jal_is a.kind a.w c.in-3.is refl refl) (c.jal.ensures a.g.now a.s.now a.v.now (contents a.d.now a.l.now) c.requires.lent.room)

pub returns-in-4 : goal.returns-in-4
unfolding row_of effect_of refusals_of warp_of
returns-in-4 c = let a = c.args in told (jalr_is a.kind a.w c.in-4.is refl refl refl) (c.jalr.ensures a.g.now a.s.now a.v.now (contents a.d.now a.l.now) c.requires.lent.room)

pub returns-in-5 : goal.returns-in-5
unfolding row_of effect_of refusals_of warp_of
returns-in-5 c = let a = c.args in told (branch_is a.kind a.w c.in-5.is refl refl refl refl) (c.branch-h.ensures a.g.now a.s.now a.v.now (contents a.d.now a.l.now) c.requires.lent.room)

pub returns-in-6 : goal.returns-in-6
unfolding row_of effect_of refusals_of warp_of
returns-in-6 c = let a = c.args in told (load_is a.kind a.w c.in-6.is refl refl refl refl) (c.load.ensures a.s.now a.v.now c.requires.lent.room)

pub returns-in-7 : goal.returns-in-7
unfolding row_of effect_of refusals_of warp_of
returns-in-7 c = let a = c.args in told (store_is a.kind a.w c.in-7.is refl refl refl refl) (c.store.ensures a.s.now a.v.now c.requires.lent.room)

pub returns-in-8 : goal.returns-in-8
unfolding row_of effect_of refusals_of warp_of
returns-in-8 c = let a = c.args in told (fence_is a.kind a.w c.in-8.is refl refl refl) (c.on.ensures a.g.now a.x.now a.s.now a.v.now (contents a.d.now a.l.now) c.requires.lent.room)

pub returns-in-9 : goal.returns-in-9
unfolding row_of effect_of refusals_of warp_of
returns-in-9 c = let a = c.args in told (csr_is a.kind a.w c.in-9.is) (c.csr.ensures a.s.now a.v.now (contents a.d.now a.l.now) c.requires.lent.room)
