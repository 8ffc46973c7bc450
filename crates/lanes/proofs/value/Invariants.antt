use mathlib.Core.Path.{◌≡◌}
use Rattle.lanes.specs.Mask.{bit}
use Rattle.lanes.specs.Lanes.{value_of}
use Rattle.lanes.specs.Rows.{at}
use Rattle.lanes.proofs.value.Given as goal

abbrev pub invariant-loop-l : goal.invariant-loop-l
invariant-loop-l l = l.x ≡ value_of l.l (bit l.mask) (at l.a)
