use Prim.Native.Nat.{◌-◌, ◌/◌}
use mathlib.Core.Path.{sym, ◌∙◌}
use native.Mathlib.Omega.{arith}
use lib.Seq.{length-sets}
use Rattle.text.proofs.Laws.{puts_then, puts_as, hex_length, hex_more}
use Rattle.text.proofs.+put_hex_digits.Goals as goal

pub put_byte-requires : goal.put_byte-requires
put_byte-requires t c =
    let s = c.args in
    rw c.put_hex_digits-last.ensures.text (simp length-sets (omega (arith, hex_length (s.k - 1) (s.n / 16))))

pub returns : goal.returns
returns t c =
    let s = c.args in
    puts_as (hex_more s.k s.n c.if-k-eq0.false ∙ rw (sym c.digit.ensures)) (puts_then c.put_hex_digits-last.ensures c.put_byte.ensures)
