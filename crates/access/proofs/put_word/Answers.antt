use mathlib.Core.Path.{◌∙◌}
use native.Mathlib.Omega.{arith}
use Rattle.memory.specs.Bytes.{le_bytes}
use Rattle.access.proofs.Laws.{put_part, bytes_of_word}
use Rattle.access.proofs.put_word.Goals as goal

pub returns : goal.returns
unfolding le_bytes
returns c = let s = c.args in put_part s.d.now _ (le_bytes 4 s.x) s.i _ (c.copy_from_slice.ensures.after ∙ c.to_le_bytes.ensures ∙ bytes_of_word s.x) (omega arith) (omega (arith, c.requires))
