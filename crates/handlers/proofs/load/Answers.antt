use Prim.Native.Nat.{ℕ}
use Rattle.definition.specs.Exec.{effect_of, goes}
use Rattle.definition.specs.Refuse.{refusals_of}
use Rattle.handlers.proofs.Laws.{given, load_inside, load_outside, refused, row_fails, row_passes}
use Rattle.handlers.specs.Handles.{lists, puts_in}
use Rattle.isa.specs.Fields.{fields_of, imm_i}
use Rattle.isa.specs.Wide.{xd_in, xs1_in}
use Rattle.isa.specs.Kinds.{load_op_of}
use Rattle.isa.specs.declared.Instr.TheVariants as I
use Rattle.memory.specs.Address.{plain_of}
use Rattle.memory.specs.Memories.{contents, memories}
use Rattle.layout.specs.Words.{fixed_in, warp_of}
use lib.ListN.{get_or}
use mathlib.Core.Path.{◌∙◌, ap, ap₂, refl, sym}
use native.Mathlib.Omega.{arith}
use Rattle.handlers.proofs.load.Goals as goal

pub returns-in-Some : goal.returns-in-Some
unfolding effect_of refusals_of warp_of
returns-in-Some c = let a = c.args in let f = fields_of a.w in let q = load_inside (load_op_of f) (memories (fixed_in a.g.now).dataBase (fixed_in a.g.now).lds (contents a.d.now a.l.now)) _ (plain_of (get_or a.x.now (xs1_in a.w).0 0) (imm_i f)) (c.plain_address-p.ensures ∙ ap₂ plain_of c.first.ensures c.imm_i.ensures.0) _ (rw (← c.load_op.ensures) (sym c.in-Some.is ∙ c.scalar_load-found.ensures)) in λ s v n. given (I.Load (load_op_of f) (xd_in a.w) (xs1_in a.w) (imm_i f)) (xd_in a.w) _ _ a.g.now a.h.now a.x.now s v (contents a.d.now a.l.now) _ _ refl (c.gives.ensures a.g.now s n) (row_passes 9 _ q.0) (ap (λ (z : ℕ). goes (puts_in (xd_in a.w) z (warp_of a.g.now a.h.now a.x.now s))) q.1)

pub returns-in-None : goal.returns-in-None
unfolding effect_of refusals_of warp_of
returns-in-None c = let a = c.args in let f = fields_of a.w in let q = load_outside (load_op_of f) (memories (fixed_in a.g.now).dataBase (fixed_in a.g.now).lds (contents a.d.now a.l.now)) _ (plain_of (get_or a.x.now (xs1_in a.w).0 0) (imm_i f)) (c.plain_address-p.ensures ∙ ap₂ plain_of c.first.ensures c.imm_i.ensures.0) (rw (← c.load_op.ensures) (sym c.in-None.is ∙ c.scalar_load-found.ensures)) in λ s v n. refused (I.Load (load_op_of f) (xd_in a.w) (xs1_in a.w) (imm_i f)) 9 (lists a.g.now a.h.now a.x.now s v (contents a.d.now a.l.now)) (λ z. omega arith) c.requires.0 n (row_fails 9 _ q)
