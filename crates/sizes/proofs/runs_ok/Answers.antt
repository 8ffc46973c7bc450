use mathlib.Core.Bool.{and-false, and-true}
use borrow.Author.Tests.{lt-leb, le-leb}
use Rattle.definition.specs.Refuse.{runs_ok_of}
use Rattle.sizes.proofs.runs_ok.Goals as goal

pub returns-then-words-gt-KERNEL_LIMIT : goal.returns-then-words-gt-KERNEL_LIMIT
unfolding runs_ok_of
returns-then-words-gt-KERNEL_LIMIT c = rw (lt-leb _ _ c.if-words-gt-KERNEL_LIMIT.true, and-false)

pub returns : goal.returns
unfolding runs_ok_of
returns c = simp (le-leb _ _ c.if-words-gt-KERNEL_LIMIT.false, c.memories_ok.ensures, and-true)
