use mathlib.Core.Path.{◌≡◌}
use mathlib.Core.Bool.{Bool}
use Prim.Native.Nat.{◌<◌, ◌^◌}
use Rattle.lanes.specs.declared.Lane.{Lane}
use Rattle.lanes.specs.Lanes.{mask_of}
use Rattle.lanes.specs.Rows.{Picks}
use Rattle.lanes.proofs.lanes_where.Given as goal

abbrev pub invariant-loop-l : goal.invariant-loop-l
invariant-loop-l g l = (l.out < 2 ^ l.l) × ((p : Lane → Bool) → Picks (goal.F-post g l.f) l.l p → l.out ≡ mask_of l.l p)
