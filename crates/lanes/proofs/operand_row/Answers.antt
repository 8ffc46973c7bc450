use Rattle.lanes.proofs.RowLaws.{row_of}
use Rattle.lanes.proofs.operand_row.Goals as goal

pub returns-in-Word : goal.returns-in-Word
returns-in-Word c = rw c.in-Word.is (row_of _)
