use native.Mathlib.Omega.{arith}
use borrow.Author.Tests.{ne_eqb}
use Rattle.sheet_text.specs.SheetText.{verdict_text}
use Rattle.sheet_text.proofs.put_verdict.Goals as goal

pub returns-then-number-eq0 : goal.returns-then-number-eq0
unfolding verdict_text
returns-then-number-eq0 c = (rw c.if-number-eq0.true c.put_marks.ensures.0, omega arith)

pub returns : goal.returns
unfolding verdict_text
returns c = (rw (ne_eqb _ 0 c.if-number-eq0.false) c.put_refusal.ensures.0, omega arith)
