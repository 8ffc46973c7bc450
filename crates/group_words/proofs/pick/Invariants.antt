use Prim.Native.Nat.{◌<◌}
use lib.ListN.{length}
use Rattle.group_words.specs.Row.{warps_in}
use Rattle.group_words.proofs.Picking.{Seeking}
use Rattle.group_words.proofs.pick.Given as goal

abbrev pub invariant-loop-tried : goal.invariant-loop-tried
invariant-loop-tried l = (l.i < length l.ws) × Seeking (warps_in l.ws) (length l.ws) l.turn l._tried l.i
