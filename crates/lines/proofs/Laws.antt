use Prim.Native.Nat.{ℕ, ◌+◌}
use mathlib.Core.Path.{◌≡◌, ap, ◌∙◌}
use mathlib.Core.List.{List, ◌++◌}
use native.Mathlib.Numerals.{add-one}
use lib.ListN.{length}
use lib.Seq.{length-sets}
use Rattle.text.specs.Puts.{Puts}
use Rattle.lines.specs.GroupLines.{warp_line, warp_lines}

pub warps_more : (s : List ℕ) (i : ℕ) → warp_lines (i + 1) s ≡ warp_lines i s ++ warp_line i s
warps_more s i = rw add-one

pub puts_length : {o w p : List ℕ} {i j : ℕ} → Puts o i w p j → length p ≡ length o
puts_length {o} {w} {p} {i} {j} s = ap length s.text ∙ length-sets o i w
