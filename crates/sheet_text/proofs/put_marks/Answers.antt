use native.Mathlib.Omega.{arith}
use Rattle.text.proofs.Laws.{puts_none, puts_then}
use Rattle.sheet_text.specs.SheetText.{marks_text}
use Rattle.sheet_text.proofs.put_marks.Goals as goal

pub returns-in-NoMarks : goal.returns-in-NoMarks
unfolding marks_text
returns-in-NoMarks c = (rw c.in-NoMarks.is (puts_none _ _), omega arith)

pub returns-in-Full : goal.returns-in-Full
unfolding marks_text
returns-in-Full c = (rw c.in-Full.is c.put_text.ensures, omega arith)

pub returns-in-Differs : goal.returns-in-Differs
unfolding marks_text
returns-in-Differs c = (rw c.in-Differs.is (puts_then c.put_text-one.ensures c.put_number.ensures.0), omega arith)

pub returns-in-Short : goal.returns-in-Short
unfolding marks_text
returns-in-Short c = (rw c.in-Short.is (puts_then c.put_text-one-in-Short.ensures c.put_count.ensures.0), omega arith)

pub returns-in-Long : goal.returns-in-Long
unfolding marks_text
returns-in-Long c = (rw c.in-Long.is (puts_then c.put_text-one-in-Long.ensures c.put_count-in-Long.ensures.0), omega arith)
