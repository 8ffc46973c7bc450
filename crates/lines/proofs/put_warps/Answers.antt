use native.Mathlib.Omega.{arith}
use mathlib.Core.Path.{◌∙◌}
use Rattle.text.proofs.Laws.{puts_then, puts_as}
use Rattle.lines.proofs.Laws.{warps_more, puts_length}
use Rattle.lines.proofs.put_warps.Goals as goal

pub loop-i-preserved : goal.loop-i-preserved
loop-i-preserved c =
    let a = c.args in
    let put = c.put_warp-end.ensures in (
      puts_length put.0 ∙ c.loop-i.invariant.0,
      puts_as (warps_more a.state.now c.loop-i.i) (puts_then c.loop-i.invariant.1 put.0),
      omega (arith, put.1, c.loop-i.invariant.2),
    )
