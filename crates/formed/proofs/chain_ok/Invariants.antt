use mathlib.Core.Path.{◌≡◌}
use mathlib.Core.Bool.{◌&&◌}
use Rattle.warp.specs.WellFormed.{chain_of}
use Rattle.layout.specs.Words.{splits_in, phases_ok_of}
use Rattle.formed.proofs.chain_ok.Given as goal

abbrev pub invariant-loop-k : goal.invariant-loop-k
invariant-loop-k l = (phases_ok_of l.depth l.s && chain_of l.launchMask (splits_in l.s) l.depth l.mask) ≡ (phases_ok_of l.k l.s && chain_of l.launchMask (splits_in l.s) l.k l.m)
