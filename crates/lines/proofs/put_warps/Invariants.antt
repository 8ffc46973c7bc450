use Prim.Native.Nat.{◌+◌, ◌*◌, ◌≤◌}
use mathlib.Core.Path.{◌≡◌}
use lib.ListN.{length}
use Rattle.text.specs.Puts.{Puts}
use Rattle.lines.specs.GroupLines.{warp_lines}
use Rattle.lines.proofs.put_warps.Given as goal

abbrev pub invariant-loop-i : goal.invariant-loop-i
invariant-loop-i l = (length l.out ≡ length l.initial.out) × Puts l.initial.out l.at (warp_lines l.i l.state) l.out l.end × (l.end ≤ l.at + l.i * 88)
