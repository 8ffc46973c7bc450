use Rattle.group_words.proofs.Words.{Releasing}
use Rattle.group_words.proofs.release.Given as goal

abbrev pub invariant-loop-w : goal.invariant-loop-w
invariant-loop-w l = Releasing l.w-index l.initial.ws l.ws
