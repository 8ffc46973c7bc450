use mathlib.Core.Bool.{and-false, and-true}
use borrow.Author.Tests.{lt-leb, le-leb}
use Rattle.warp.specs.WellFormed.{fixed_ok_of}
use Rattle.warp.proofs.fixed_ok.Goals as goal

pub returns-then-f-gt-THREADS : goal.returns-then-f-gt-THREADS
unfolding fixed_ok_of
returns-then-f-gt-THREADS c = simp (lt-leb _ _ c.if-f-gt-THREADS.true, and-false)

pub returns : goal.returns
unfolding fixed_ok_of
returns c = simp (le-leb _ _ c.if-f-gt-THREADS.false, c.mask_room-room.ensures, and-true)
