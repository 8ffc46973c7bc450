use native.Mathlib.Omega.{arith}
use Rattle.text.proofs.Laws.{puts_then, hex_size}
use Rattle.sheet_table.specs.SheetTable.{word_column}
use Rattle.sheet_table.proofs.put_word_column.Goals as goal

pub put_text-requires : goal.put_text-requires
put_text-requires c = omega (arith, hex_size c.args.w)

pub returns : goal.returns
unfolding word_column
returns c = (puts_then c.put_hex-one.ensures c.put_text.ensures, omega (arith, hex_size c.args.w))
