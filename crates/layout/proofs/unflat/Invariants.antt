use Prim.Native.Nat.{◌-◌, ◌*◌}
use mathlib.Core.Path.{◌≡◌}
use lib.ListN.{length, drop}
use lib.Seq.{sets}
use Rattle.warp.specs.Warp.{split_count}
use Rattle.layout.specs.Words.{split_size, splits_of, splits_in}
use Rattle.layout.proofs.unflat.Given as goal

abbrev pub invariant-loop-k : goal.invariant-loop-k
invariant-loop-k l = (length l.q ≡ split_count) × (sets l.q l.k (splits_of (split_count - l.k) (drop (l.k * split_size) l.s)) ≡ splits_in l.s)
