use mathlib.Core.Path.{◌≡◌}
use Prim.Native.Nat.{ℕ}
use lib.ListN.{length}
use Rattle.lanes.specs.declared.Lane.{Lane}
use Rattle.lanes.specs.Mask.{bit}
use Rattle.lanes.specs.Lanes.{file_words, write_lanes}
use Rattle.lanes.specs.Rows.{Gives}
use Rattle.lanes.proofs.write.Given as goal

abbrev pub invariant-loop-l : goal.invariant-loop-l
invariant-loop-l g l = (length l.v ≡ file_words) × ((f : Lane → ℕ) → Gives (goal.F-post g l.f) l.l f → l.v ≡ write_lanes l.l (bit l.mask) l.d f l.initial.v)
