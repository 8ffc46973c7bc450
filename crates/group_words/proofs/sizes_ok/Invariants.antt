use mathlib.Core.Path.{◌≡◌}
use mathlib.Core.Bool.{true}
use Rattle.memory.specs.Memories.{contents}
use Rattle.lanes.specs.Lanes.{all_below}
use Rattle.group_words.proofs.Testing.{own_ok}
use Rattle.group_words.proofs.sizes_ok.Given as goal

abbrev pub invariant-loop-i : goal.invariant-loop-i
invariant-loop-i l = all_below l.i (own_ok l.ws l.kernel l.vector (contents l.bytes l.local)) ≡ true
