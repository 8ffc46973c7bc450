use Rattle.text.proofs.Laws.{puts_then}
use Rattle.lines.specs.Lines.{five_lines}
use native.Mathlib.Omega.{arith}
use Rattle.lines.proofs.put_five_lines.Goals as goal

pub returns : goal.returns
unfolding five_lines
returns c =
    let four = puts_then (puts_then (puts_then c.put_code_line-one.ensures.0 c.put_decimal_line-two.ensures.0) c.put_hex_line-three.ensures.0) c.put_hex_line-four.ensures.0 in
    (puts_then four c.put_decimal_line.ensures.0, omega arith)
