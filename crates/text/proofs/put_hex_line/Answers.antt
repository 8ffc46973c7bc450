use Rattle.text.proofs.Laws.{puts_then, hex_size}
use native.Mathlib.Omega.{arith}
use Rattle.text.proofs.put_hex_line.Goals as goal

pub put_byte-requires : goal.put_byte-requires
put_byte-requires c = omega (arith, hex_size c.args.n)

pub returns : goal.returns
returns c = (puts_then (puts_then c.put_text-value.ensures c.put_hex-end.ensures) c.put_byte.ensures, omega (arith, hex_size c.args.n))
