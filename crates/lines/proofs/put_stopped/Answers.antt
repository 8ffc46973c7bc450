use native.Mathlib.Omega.{arith}
use mathlib.Core.Path.{sym, ◌∙◌}
use Rattle.lines.specs.GroupLines.{stopped_line}
use Rattle.lines.proofs.put_stopped.Goals as goal

pub returns-then-stops : goal.returns-then-stops
unfolding stopped_line
returns-then-stops c = (rw (sym c.stops.ensures ∙ c.if-stops.true) c.put_line.ensures.0, omega arith)

pub returns : goal.returns
unfolding stopped_line
returns c = (rw (sym c.stops.ensures ∙ c.if-stops.false) c.put_text.ensures, omega arith)
