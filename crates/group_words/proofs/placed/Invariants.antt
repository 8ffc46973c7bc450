use mathlib.Core.Path.{◌≡◌}
use mathlib.Core.Bool.{true}
use Rattle.lanes.specs.Lanes.{all_below}
use Rattle.group_words.proofs.Testing.{place_ok}
use Rattle.group_words.proofs.placed.Given as goal

abbrev pub invariant-loop-i : goal.invariant-loop-i
invariant-loop-i l = all_below l.i (place_ok l.ws) ≡ true
