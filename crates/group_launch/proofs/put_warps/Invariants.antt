use Prim.Native.Nat.{ℕ, ◌+◌, ◌*◌}
use mathlib.Core.Path.{◌≡◌}
use mathlib.Core.List.{List, ◌∷◌}
use lib.ListN.{length, take}
use Rattle.layout.specs.Words.{words_of}
use Rattle.definition.specs.Calls.{launched_of}
use Rattle.group_launch.specs.GroupLaunchCall.{reading_at}
use Rattle.group_words.specs.StateWords.{joined}
use Rattle.group_launch.proofs.put_warps.Given as goal

-- the words of warp i
abbrev pub words : List ℕ → ℕ → List ℕ
words cards i = words_of (launched_of (reading_at cards i).launch)

abbrev pub invariant-loop-i : goal.invariant-loop-i
invariant-loop-i l = (length l.state ≡ length l.initial.state) × (take (1 + l.i * 241) l.state ≡ 0 ∷ joined l.i (words l.cards))
