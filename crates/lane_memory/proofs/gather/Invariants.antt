use Prim.Native.Nat.{ℕ}
use Rattle.lanes.specs.declared.Lane.{Lane}
use Rattle.lanes.specs.Mask.{bit}
use Rattle.lanes.specs.Rows.{RowOn, Gives}
use Rattle.lane_memory.proofs.gather.Given as goal

abbrev pub invariant-loop-l : goal.invariant-loop-l
invariant-loop-l g l = (h : Lane → ℕ) → Gives (goal.F-post g l.f) l.l h → RowOn (bit l.mask) l.l h l.x
