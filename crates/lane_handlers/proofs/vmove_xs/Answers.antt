use Prim.Native.Nat.{ℕ}
use Rattle.definition.specs.Exec.{effect_of, goes}
use Rattle.definition.specs.Refuse.{refusals_of}
use Rattle.handlers.proofs.Laws.{given, refused, row_fails, row_passes}
use Rattle.handlers.specs.Handles.{lists, puts_in}
use Rattle.isa.specs.Fields.{fields_of}
use Rattle.isa.specs.Wide.{xd_in, vs2_in}
use Rattle.isa.specs.declared.Instr.TheVariants as I
use Rattle.lanes.specs.Lanes.{lane_of, uniform_of}
use Rattle.lanes.specs.Mask.{bit}
use Rattle.layout.specs.Words.{fixed_in, mask_in, warp_of}
use mathlib.Core.Path.{◌∙◌, ap, refl, sym}
use native.Mathlib.Omega.{arith}
use Rattle.lane_handlers.proofs.vmove_xs.Goals as goal

pub returns-then-held : goal.returns-then-held
unfolding warp_of effect_of refusals_of
returns-then-held c = let a = c.args in let f = fields_of a.w in let u = c.uniform-held.ensures in λ s d n. given (I.VMoveXS (xd_in a.w) (vs2_in a.w)) (xd_in a.w) _ _ a.g.now a.h.now a.x.now s a.v.now d _ _ refl (c.gives.ensures a.g.now s n) (row_passes 10 (uniform_of (fixed_in a.g.now).numt (bit (mask_in a.h.now)) (lane_of a.v.now (vs2_in a.w))) (sym (u.0 ∙ rw (c.threads.ensures, c.vs2.ensures.0)) ∙ c.if-held.true)) (ap (λ (z : ℕ). goes (puts_in (xd_in a.w) z (warp_of a.g.now a.h.now a.x.now s))) (sym (u.1 ∙ rw (c.threads.ensures, c.vs2.ensures.0))))

pub returns : goal.returns
unfolding warp_of effect_of refusals_of
returns c = let a = c.args in let f = fields_of a.w in let u = c.uniform-held.ensures in λ s d n. refused (I.VMoveXS (xd_in a.w) (vs2_in a.w)) 10 (lists a.g.now a.h.now a.x.now s a.v.now d) (λ z. omega arith) c.requires.long n (row_fails 10 (uniform_of (fixed_in a.g.now).numt (bit (mask_in a.h.now)) (lane_of a.v.now (vs2_in a.w))) (sym (u.0 ∙ rw (c.threads.ensures, c.vs2.ensures.0)) ∙ c.if-held.false))
