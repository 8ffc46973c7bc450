use native.Mathlib.Omega.{arith}
use Rattle.text.proofs.Laws.{puts_then}
use Rattle.lines.specs.GroupLines.{group_lines}
use Rattle.lines.proofs.put_group.Goals as goal

pub returns : goal.returns
unfolding group_lines
returns c =
    let three = puts_then (puts_then c.put_code_line-one.ensures.0 c.put_stopped-two.ensures.0) c.put_line-three.ensures.0 in (
      puts_then (puts_then three c.put_line-four.ensures.0) c.put_warps.ensures.0,
      omega (arith, c.requires.0, c.put_code_line-one.ensures.1, c.put_stopped-two.ensures.1, c.put_line-three.ensures.1, c.put_line-four.ensures.1, c.put_warps.ensures.1),
    )
