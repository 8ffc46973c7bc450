use mathlib.Core.Path.{ap, ◌∙◌}
use Prim.Native.Nat.{ℕ}
use native.Mathlib.Omega.{arith}
use lib.ListN.{length-replicate, replicate, length-take, length-drop}
use Rattle.text.proofs.Laws.{put_part}
use Rattle.text.proofs.put_blanks.Goals as goal

pub returns : goal.returns
returns c =
    let s = c.args in
    let n = length-replicate {A = ℕ} s.k 32 in
    record { text = put_part s.out.now c.fill.new.self (replicate s.k 32) s.at _ (c.fill.ensures.after (λ y h. h) ∙ ap (λ (j : ℕ). replicate {A = ℕ} j 32) (simp (length-take, length-drop) (omega (arith, c.requires)))) (omega (arith, n)) (omega (arith, c.requires)); end = omega (arith, n) }
