use Prim.Native.Nat.{◌*◌, ℕ}
use Rattle.definition.specs.Exec.{effect_of, goes}
use Rattle.definition.specs.Refuse.{refusals_of}
use Rattle.handlers.proofs.Laws.{given}
use Rattle.handlers.specs.Handles.{puts_in}
use Rattle.isa.specs.Fields.{fields_of, imm_u}
use Rattle.isa.specs.Wide.{xd_in}
use Rattle.isa.specs.declared.Instr.TheVariants as I
use Rattle.layout.specs.Words.{pc_in, warp_of}
use Rattle.word.specs.Word.{add_of}
use mathlib.Core.Path.{◌∙◌, ap, refl, sym}
use Rattle.handlers.proofs.auipc.Goals as goal

pub returns : goal.returns
unfolding effect_of refusals_of warp_of
returns c = let a = c.args in let f = fields_of a.w in λ g s v d n. given (I.Auipc (xd_in a.w) (imm_u f)) (xd_in a.w) _ _ g a.h.now a.x.now s v d _ _ refl (c.gives.ensures g s n) refl (ap (λ (z : ℕ). goes (puts_in (xd_in a.w) z (warp_of g a.h.now a.x.now s))) (sym (c.add-y.ensures ∙ ap (λ (z : ℕ). add_of (pc_in a.h.now) (z * 4096)) c.imm_u.ensures.0)))
