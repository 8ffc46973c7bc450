-- Laws of a text put at a buffer's start, or not put.
use mathlib.Core.Path.{◌≡◌, refl, ap, sym, ◌∙◌}
use mathlib.Core.Bool.{Bool, true, false}
use mathlib.Core.List.{List}
use Prim.Native.Nat.{ℕ, ◌≤◌}
use native.Mathlib.Nat.{zero-add}
use native.Mathlib.Omega.{arith}
use lib.ListN.{length}
use lib.Seq.{length-sets, length-take-le}
use Rattle.io.specs.Counts.{IsPrefixLen}
use Rattle.text.specs.Puts.{Puts}
use Rattle.sheet_text.specs.Put.{put, put_where}

pub put_nothing : (t : Bool) (o w : List ℕ) → t ≡ false → IsPrefixLen 0 o × (put 0 o ≡ put_where t o w)
unfolding put_where
put_nothing t o w e = ((omega arith, refl), rw e)

pub put_done : {o w p : List ℕ} {r n : ℕ} (t : Bool) → t ≡ true → Puts o 0 w p r → r ≤ n → n ≤ length o → IsPrefixLen r p × (put r p ≡ put_where t o w)
unfolding put_where
put_done {o} {w} {p} {r} t e s a b =
    let l : length p ≡ length o = ap length s.text ∙ length-sets o 0 w in
    ((omega arith, sym (length-take-le r p (omega arith))), rw (e, s.text, s.end, zero-add))
