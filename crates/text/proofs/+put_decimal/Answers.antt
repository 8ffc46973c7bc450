use mathlib.Core.Path.{ap, sym, ◌∙◌}
use native.Mathlib.Omega.{arith}
use lib.Seq.{length-sets}
use lib.ListN.{length, length-append}
use Rattle.text.proofs.Laws.{puts_then, puts_as, decimal_few, decimal_more}
use Rattle.text.proofs.+put_decimal.Goals as goal

pub put_byte-requires : goal.put_byte-requires
put_byte-requires t c = omega (arith, ap length (decimal_few c.args.n c.if-n-lt10.true))

pub returns-then-n-lt10 : goal.returns-then-n-lt10
returns-then-n-lt10 t c = puts_as (decimal_few c.args.n c.if-n-lt10.true ∙ rw (sym c.digit.ensures)) c.put_byte.ensures

pub put_decimal-last-requires : goal.put_decimal-last-requires
put_decimal-last-requires t c = (omega arith, omega (arith, simp length-append at (ap length (decimal_more c.args.n c.if-n-lt10.false c.ranges.n.fits))))

pub put_byte-requires-2 : goal.put_byte-requires-2
put_byte-requires-2 t c = rw c.put_decimal-last.ensures.text (simp length-sets (omega (arith, simp length-append at (ap length (decimal_more c.args.n c.if-n-lt10.false c.ranges.n.fits)))))

pub returns : goal.returns
returns t c = puts_as (decimal_more c.args.n c.if-n-lt10.false c.ranges.n.fits ∙ rw (sym c.digit-2.ensures)) (puts_then c.put_decimal-last.ensures c.put_byte-2.ensures)
