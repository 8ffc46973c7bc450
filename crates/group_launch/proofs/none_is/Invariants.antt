use mathlib.Core.Path.{◌≡◌}
use mathlib.Core.Bool.{true}
use Rattle.answer.specs.Answer.{refusal_of}
use Rattle.group_launch.specs.GroupLaunchCall.{none_is}
use Rattle.group_launch.proofs.none_is.Given as goal

abbrev pub invariant-loop-i : goal.invariant-loop-i
invariant-loop-i l = none_is (refusal_of l.why) l.i l.cards ≡ true
