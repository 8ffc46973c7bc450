use Rattle.sheet_lines.proofs.Bytes.{head_put}
use Rattle.sheet_lines.proofs.put_head.Goals as goal

pub returns : goal.returns
returns c = rw (c.put_byte.ensures, c.put_word.ensures) (head_put _ _)
