use native.Mathlib.Omega.{arith}
use borrow.Author.Tests.{ne_eqb}
use Rattle.lines.specs.GroupLines.{line_end}
use Rattle.lines.proofs.put_end.Goals as goal

pub returns-then-ended-ne0 : goal.returns-then-ended-ne0
unfolding line_end
returns-then-ended-ne0 c = (rw (ne_eqb c.args.ended 0 c.if-ended-ne0.true) c.put_text.ensures, omega arith)

pub returns-then-waiting-ne0 : goal.returns-then-waiting-ne0
unfolding line_end
returns-then-waiting-ne0 c = (rw (c.if-ended-ne0.false, ne_eqb c.args.waiting 0 c.if-waiting-ne0.true) c.put_text-then-waiting-ne0.ensures, omega arith)

pub returns : goal.returns
unfolding line_end
returns c = (rw (c.if-ended-ne0.false, c.if-waiting-ne0.false) c.put_text-2.ensures, omega arith)
