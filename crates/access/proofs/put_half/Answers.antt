use mathlib.Core.List.{List}
use mathlib.Core.Path.{ap, ◌∙◌}
use Prim.Native.Nat.{ℕ}
use lib.ListN.{take}
use native.Mathlib.Omega.{arith}
use Rattle.memory.specs.Bytes.{le_bytes}
use Rattle.access.proofs.Laws.{put_part}
use Rattle.access.proofs.put_half.Goals as goal

pub returns : goal.returns
unfolding le_bytes
returns c = let s = c.args in put_part s.d.now _ (le_bytes 2 s.x) s.i _ (c.copy_from_slice.ensures.after ∙ ap (λ (l : List ℕ). take 2 l) c.to_le_bytes.ensures) (omega arith) (omega (arith, c.requires))
