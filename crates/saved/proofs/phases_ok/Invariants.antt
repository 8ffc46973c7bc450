use mathlib.Core.Path.{◌≡◌}
use Rattle.warp.specs.Warp.{split_count}
use Rattle.layout.specs.Words.{phases_ok_of}
use Rattle.saved.proofs.phases_ok.Given as goal

abbrev pub invariant-loop-k : goal.invariant-loop-k
invariant-loop-k l = phases_ok_of split_count l.s ≡ phases_ok_of l.k l.s
