use Rattle.definition.specs.Exec.{effect_of}
use Rattle.definition.specs.Refuse.{refusals_of}
use Rattle.handlers.proofs.Laws.{moved}
use Rattle.isa.specs.Fields.{fields_of, imm_i}
use Rattle.isa.specs.declared.Instr.TheVariants as I
use Rattle.running.proofs.Goes.{next_goes}
use Rattle.warp.specs.Warp.{next}
use mathlib.Core.Path.{refl}
use Rattle.handlers.proofs.on.Goals as goal

pub returns : goal.returns
unfolding effect_of refusals_of
returns c = let a = c.args in let f = fields_of a.w in λ g x s v d n. moved (I.Fence f.rd f.rs1 (imm_i f)) next g a.h.now x s v d _ x s (next_goes g a.h.now x s c.requires n _ x next c.next.ensures refl) refl refl
