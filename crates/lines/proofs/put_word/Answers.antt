use native.Mathlib.Omega.{arith}
use Rattle.text.proofs.Laws.{puts_then, hex_size}
use Rattle.lines.proofs.put_word.Goals as goal

pub returns : goal.returns
returns c = (puts_then c.put_text-value.ensures c.put_hex.ensures, omega (arith, hex_size c.args.n))
