use Prim.Native.Nat.{ℕ, ◌-◌, ◌/◌}
use mathlib.Core.Path.{ap, sym, ◌∙◌}
use native.Mathlib.Omega.{arith}
use lib.Seq.{length-sets}
use lib.ListN.{length, length-append, length-replicate}
use Rattle.text.specs.Text.{right_of}
use Rattle.text.proofs.Laws.{puts_then, puts_as, right_few, right_more}
use Rattle.text.proofs.+put_right.Goals as goal

pub put_blanks-one-requires : goal.put_blanks-one-requires
put_blanks-one-requires t c =
    let s = c.args in
    let blanks = length-replicate {A = ℕ} (s.width - 1) 32 in
    omega (arith, c.saturating_sub-less.ensures, blanks, simp length-append at (ap length (right_few s.width s.n c.if-n-lt10.true)))

pub put_byte-requires : goal.put_byte-requires
put_byte-requires t c =
    let s = c.args in
    rw c.put_blanks-one.ensures.text (simp length-sets
    (omega (arith, c.put_blanks-one.ensures.end, c.saturating_sub-less.ensures, length-replicate {A = ℕ} c.saturating_sub-less.result 32, length-replicate {A = ℕ} (s.width - 1) 32, simp length-append at (ap length (right_few s.width s.n c.if-n-lt10.true)))))

pub returns-then-n-lt10 : goal.returns-then-n-lt10
returns-then-n-lt10 t c =
    let s = c.args in
    puts_as (right_few s.width s.n c.if-n-lt10.true ∙ rw (sym c.digit.ensures, sym c.saturating_sub-less.ensures)) (puts_then c.put_blanks-one.ensures c.put_byte.ensures)

pub put_right-last-requires : goal.put_right-last-requires
put_right-last-requires t c = (omega arith, rw c.saturating_sub-less.ensures (omega (arith, simp length-append at (ap length (right_more c.args.width c.args.n c.if-n-lt10.false c.ranges.n.fits)))))

pub put_byte-requires-2 : goal.put_byte-requires-2
put_byte-requires-2 t c = rw c.put_right-last.ensures.text (simp length-sets
    (omega (arith, c.put_right-last.ensures.end, ap (λ (w : ℕ). length (right_of w (c.args.n / 10))) c.saturating_sub-less.ensures, simp length-append at (ap length (right_more c.args.width c.args.n c.if-n-lt10.false c.ranges.n.fits)))))

pub returns : goal.returns
returns t c = puts_as (right_more c.args.width c.args.n c.if-n-lt10.false c.ranges.n.fits ∙ rw (sym c.digit-2.ensures, sym c.saturating_sub-less.ensures)) (puts_then c.put_right-last.ensures c.put_byte-2.ensures)
