use mathlib.Core.Path.{◌≡◌}
use lib.ListN.{length}
use Rattle.memory.specs.Memories.{alone}
use Rattle.definition.specs.State.{state}
use Rattle.sheet.proofs.Tracing.{Tracing}
use Rattle.sheet.proofs.trace.Given as goal

abbrev pub invariant-loop-n : goal.invariant-loop-n
invariant-loop-n l = Tracing l.kernel (state l.initial.w l.initial.vector (alone l.initial.bytes)) (state l.w l.vector (alone l.bytes)) l.n l.initial.t l.t × (length l.t ≡ length l.initial.t)
