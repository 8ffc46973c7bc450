use mathlib.Core.Path.{refl}
use Rattle.memory.specs.Bytes.{le_bytes}
use Rattle.access.proofs.put_byte.Goals as goal

pub returns : goal.returns
unfolding le_bytes
returns c = refl
