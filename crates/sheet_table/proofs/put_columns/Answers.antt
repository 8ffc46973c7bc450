use mathlib.Core.Path.{sym}
use Prim.Native.Nat.{ℕ, ◌+◌, ◌≤◌}
use native.Mathlib.Omega.{arith}
use lib.ListN.{length}
use Rattle.text.specs.Text.{decimal_of}
use Rattle.text.proofs.Laws.{puts_then, puts_as, decimal_size}
use Rattle.sheet_table.specs.SheetTable.{columns_at}
use Rattle.sheet_table.proofs.put_columns.Goals as goal

fits : (at n size : ℕ) → at + 20 ≤ size → at + length (decimal_of n) ≤ size
fits at n size h = omega (arith, decimal_size n)

pub put_decimal-requires : goal.put_decimal-requires
put_decimal-requires c = fits _ _ _ (omega arith)

pub returns : goal.returns
unfolding columns_at
returns c = (
  puts_as (rw (sym c.word_at-pc.ensures, sym c.word_at-word.ensures, sym c.word_at-mask.ensures, sym c.byte_at-splits.ensures.0))
      (puts_then (puts_then (puts_then c.put_word_column-one.ensures.0 c.put_word_column-two.ensures.0) c.put_word_column-three.ensures.0) c.put_decimal.ensures),
  omega (arith, decimal_size c.byte_at-splits.result),
)
