use native.Mathlib.Omega.{arith}
use borrow.Author.Tests.{ne_eqb}
use Rattle.text.proofs.Laws.{puts_none}
use Rattle.sheet_text.specs.SheetText.{reason_of}
use Rattle.sheet_text.proofs.put_words.Goals as goal

pub returns-then-number : goal.returns-then-number
unfolding reason_of
returns-then-number c = (rw (c.if-number.true, c.number.ensures) c.put_text.ensures, omega arith)

pub returns-then-number-2 : goal.returns-then-number-2
unfolding reason_of
returns-then-number-2 c =
    (rw (ne_eqb _ 1 (rw c.number.ensures at c.if-number.false), c.if-number-2.true, c.number-2.ensures) c.put_text-then-number-2.ensures, omega arith)

pub returns-then-number-3 : goal.returns-then-number-3
unfolding reason_of
returns-then-number-3 c =
    (rw (ne_eqb _ 1 (rw c.number.ensures at c.if-number.false), ne_eqb _ 13 (rw c.number-2.ensures at c.if-number-2.false), c.if-number-3.true, c.number-3.ensures) c.put_text-then-number-3.ensures, omega arith)

pub returns-then-number-4 : goal.returns-then-number-4
unfolding reason_of
returns-then-number-4 c = (
  rw (ne_eqb _ 1 (rw c.number.ensures at c.if-number.false), ne_eqb _ 13 (rw c.number-2.ensures at c.if-number-2.false), ne_eqb _ 16 (rw c.number-3.ensures at c.if-number-3.false), c.if-number-4.true, c.number-4.ensures)
      c.put_text-then-number-4.ensures,
  omega arith,
)

pub returns : goal.returns
unfolding reason_of
returns c = (
  rw (ne_eqb _ 1 (rw c.number.ensures at c.if-number.false), ne_eqb _ 13 (rw c.number-2.ensures at c.if-number-2.false), ne_eqb _ 16 (rw c.number-3.ensures at c.if-number-3.false), ne_eqb _ 17 (rw c.number-4.ensures at c.if-number-4.false))
      (puts_none _ _),
  omega arith,
)
