use Rattle.definition.specs.Exec.{effect_of}
use Rattle.definition.specs.Refuse.{refusals_of}
use Rattle.handlers.proofs.Laws.{data_stored, refused, row_fails, row_passes}
use Rattle.handlers.specs.Handles.{lists}
use Rattle.isa.specs.Fields.{fields_of, imm_s}
use Rattle.isa.specs.Wide.{xs1_in, xs2_in}
use Rattle.isa.specs.Kinds.{store_op_of}
use Rattle.isa.specs.declared.Instr.TheVariants as I
use Rattle.memory.specs.Address.{plain_of}
use Rattle.memory.specs.Memory.{width_of}
use Rattle.memory.specs.Memories.{contents, inside_one, memories, store_to}
use Rattle.layout.specs.Words.{fixed_in, warp_of}
use lib.ListN.{get_or}
use mathlib.Core.Path.{◌∙◌, ap, ap₂, refl, sym}
use native.Mathlib.Omega.{arith}
use Rattle.handlers.proofs.store.Goals as goal

pub returns-then-scalar_store : goal.returns-then-scalar_store
unfolding effect_of refusals_of warp_of
returns-then-scalar_store c = let a = c.args in let f = fields_of a.w in λ s v n. rw (c.scalar_store.ensures.1, c.if-scalar_store.true, c.store_op.ensures, (c.plain_address-p.ensures ∙ ap₂ plain_of c.first.ensures c.imm_s.ensures.0), c.second.ensures) (data_stored (I.Store (store_op_of f) (xs1_in a.w) (xs2_in a.w) (imm_s f)) a.g.now a.h.now a.x.now s v (contents a.d.now a.l.now) _ c.requires.0 n c.next.ensures (row_passes 9 (inside_one (memories (fixed_in a.g.now).dataBase (fixed_in a.g.now).lds (contents a.d.now a.l.now)) (width_of (store_op_of f)) (plain_of (get_or a.x.now (xs1_in a.w).0 0) (imm_s f))) (sym (c.scalar_store.ensures.0 ∙ rw c.store_op.ensures (ap (inside_one (memories (fixed_in a.g.now).dataBase (fixed_in a.g.now).lds (contents a.d.now a.l.now)) (width_of (store_op_of f))) (c.plain_address-p.ensures ∙ ap₂ plain_of c.first.ensures c.imm_s.ensures.0))) ∙ c.if-scalar_store.true)) (store_to (store_op_of f) (plain_of (get_or a.x.now (xs1_in a.w).0 0) (imm_s f)) (get_or a.x.now (xs2_in a.w).0 0) (memories (fixed_in a.g.now).dataBase (fixed_in a.g.now).lds (contents a.d.now a.l.now))) refl)

pub returns : goal.returns
unfolding effect_of refusals_of warp_of
returns c = let a = c.args in let f = fields_of a.w in λ s v n. rw (c.scalar_store.ensures.1, c.if-scalar_store.false) (refused (I.Store (store_op_of f) (xs1_in a.w) (xs2_in a.w) (imm_s f)) 9 (lists a.g.now a.h.now a.x.now s v (contents a.d.now a.l.now)) (λ z. omega arith) c.requires.0 n (row_fails 9 (inside_one (memories (fixed_in a.g.now).dataBase (fixed_in a.g.now).lds (contents a.d.now a.l.now)) (width_of (store_op_of f)) (plain_of (get_or a.x.now (xs1_in a.w).0 0) (imm_s f))) (sym (c.scalar_store.ensures.0 ∙ rw c.store_op.ensures (ap (inside_one (memories (fixed_in a.g.now).dataBase (fixed_in a.g.now).lds (contents a.d.now a.l.now)) (width_of (store_op_of f))) (c.plain_address-p.ensures ∙ ap₂ plain_of c.first.ensures c.imm_s.ensures.0))) ∙ c.if-scalar_store.false)))
