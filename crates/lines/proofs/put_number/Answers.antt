use native.Mathlib.Omega.{arith}
use Rattle.text.proofs.Laws.{puts_then, decimal_size}
use Rattle.lines.proofs.put_number.Goals as goal

pub put_decimal-requires : goal.put_decimal-requires
put_decimal-requires c = omega (arith, decimal_size c.args.n)

pub returns : goal.returns
returns c = (puts_then c.put_text-value.ensures c.put_decimal.ensures, omega (arith, decimal_size c.args.n))
