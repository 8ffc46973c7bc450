use Rattle.text.proofs.Laws.{puts_then, decimal_size}
use native.Mathlib.Omega.{arith}
use Rattle.text.proofs.put_decimal_line.Goals as goal

pub put_decimal-end-requires : goal.put_decimal-end-requires
put_decimal-end-requires c = omega (arith, decimal_size c.args.n)

pub put_byte-requires : goal.put_byte-requires
put_byte-requires c = omega (arith, decimal_size c.args.n)

pub returns : goal.returns
returns c = (puts_then (puts_then c.put_text-value.ensures c.put_decimal-end.ensures) c.put_byte.ensures, omega (arith, decimal_size c.args.n))
