use native.Mathlib.Omega.{arith}
use Rattle.text.proofs.Laws.{puts_then}
use Rattle.lines.specs.GroupLines.{warp_line}
use Rattle.lines.proofs.put_warp.Goals as goal

pub returns : goal.returns
unfolding warp_line
returns c =
    let three = puts_then (puts_then c.put_number-one.ensures.0 c.put_word-two.ensures.0) c.put_word-three.ensures.0 in
    (puts_then (puts_then three c.put_number-four.ensures.0) c.put_end.ensures.0, omega arith)
