use Prim.Native.Nat.{◌*◌}
use mathlib.Core.Path.{◌≡◌}
use lib.ListN.{length, drop}
use lib.Seq.{sets}
use Rattle.layout.specs.Words.{flat_count, split_size, splits_words}
use Rattle.layout.proofs.flat.Given as goal

abbrev pub invariant-loop-k : goal.invariant-loop-k
invariant-loop-k l = (length l.s ≡ flat_count) × (sets l.s (l.k * split_size) (splits_words (drop l.k l.q)) ≡ splits_words l.q)
