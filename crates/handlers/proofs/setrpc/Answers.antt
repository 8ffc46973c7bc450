use Rattle.definition.specs.Exec.{effect_of}
use Rattle.definition.specs.Refuse.{refusals_of}
use Rattle.handlers.proofs.Laws.{moved}
use Rattle.isa.specs.Fields.{fields_of, imm_i}
use Rattle.isa.specs.Wide.{xd_in, xs1_in}
use Rattle.isa.specs.declared.Instr.TheVariants as I
use Rattle.warp.specs.Splits.{set_rpc_of}
use mathlib.Core.Path.{refl}
use Rattle.handlers.proofs.setrpc.Goals as goal

pub returns : goal.returns
unfolding effect_of refusals_of
returns c = let a = c.args in let f = fields_of a.w in λ g s v d n. moved (I.SetRpc (xd_in a.w) (xs1_in a.w) (imm_i f)) (set_rpc_of c.xd.result c.xs1.result c.imm_i.result) g a.h.now a.x.now s v d _ _ s (c.setrpc.ensures g s n) refl (rw (c.xd.ensures.0, c.xs1.ensures.0, c.imm_i.ensures.0))
