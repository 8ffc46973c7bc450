use Prim.Native.Nat.{◌≤◌}
use Rattle.sheet_lines.proofs.Compares.{Alike}
use Rattle.sheet_lines.proofs.compare.Given as goal

abbrev pub invariant-loop-i : goal.invariant-loop-i
invariant-loop-i l = (l.i ≤ l.m) × Alike l.own l.sheet l.n l.m l.i
