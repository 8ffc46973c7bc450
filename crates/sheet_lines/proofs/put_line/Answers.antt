use Rattle.sheet_lines.proofs.Bytes.{line_put}
use Rattle.sheet_lines.proofs.put_line.Goals as goal

pub returns : goal.returns
returns c = rw (c.put_byte.ensures, c.put_word-3.ensures, c.put_word-2.ensures, c.put_word.ensures) (line_put _ _ _ _ _ _)
