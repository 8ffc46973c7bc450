use mathlib.Core.Path.{◌≡◌, refl}
use mathlib.Core.Bool.{Bool, true, false}
use Prim.Native.Nat.{ℕ}
use native.Mathlib.Omega.{arith}
use Rattle.std.proofs.Common.{rules}
use Rattle.std.proofs.lemmas.Iterator.{cases_from_all, serves_from_Range, YieldsList-from_range}
use Rattle.lanes.specs.Mask.{lane, bit}
use Rattle.lanes.specs.Lanes.{ok_if}
use Rattle.lanes.proofs.Laws.{all_numbers}
use Rattle.lane_clash.specs.Clash.{lane_from}
use Rattle.lane_clash.proofs.pairs_agree.Goals as goal

pub all-requires-clause-callable : goal.all-requires-clause-callable
all-requires-clause-callable c =
    serves_from_Range (λ x q r. search rules)
    (λ x p q.
    let past = c.requires.3 (lane x) q in
    search rules)

pub returns : goal.returns
returns c =
    let g = c.args in
    let p : ℕ → Bool = λ i. ok_if (bit g.mask (lane i)) (lane_from g.w g.mask g.n g.o.now g.x.now (lane i)) in
    all_numbers g.n p c.all.result
    (cases_from_all _ _ c.all.result (λ i. p i ≡ true) (λ i. p i ≡ false) c.all.ensures.ran (YieldsList-from_range 0 g.n g.n refl (omega arith)) (λ x q e. (search rules, search rules)) (λ x q e. search rules))
