use Rattle.lines.specs.Lines.{code_line}
use Rattle.lines.proofs.put_code_line.Goals as goal

pub returns : goal.returns
unfolding code_line
returns c = c.put_decimal_line.ensures
