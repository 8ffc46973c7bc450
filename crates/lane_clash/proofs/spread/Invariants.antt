use mathlib.Core.Path.{◌≡◌}
use mathlib.Core.Bool.{true}
use Prim.Native.Nat.{◌<◌, ◌-◌}
use lib.ListN.{get_or}
use Rattle.lane_clash.specs.Clash.{Spread}
use Rattle.lane_clash.proofs.spread.Given as goal

abbrev pub invariant-loop-l : goal.invariant-loop-l
invariant-loop-l l = (0 < l.l → l.last ≡ get_or l.o (l.l - 1) 0) × (l.near ≡ true → Spread l.up l.w l.l l.o)
