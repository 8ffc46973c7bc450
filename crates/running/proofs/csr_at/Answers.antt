use mathlib.Core.Path.{refl}
use Rattle.warp.specs.Csr.{csr_at}
use Rattle.layout.specs.Words.{warp_of}
use Rattle.running.proofs.csr_at.Goals as goal

pub returns : goal.returns
unfolding warp_of csr_at
returns c = λ x s. refl
