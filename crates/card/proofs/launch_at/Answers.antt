use Prim.Native.Nat.{ℕ}
use mathlib.Core.Path.{◌≡◌, refl, ap, ap₂}
use mathlib.Core.List.{List}
use Rattle.big_endian.specs.Layout.{Values, ◌▹◌, values_at}
use Rattle.card.specs.Card.{layout, launch_at, launch_from}
use Rattle.card.proofs.launch_at.Goals as goal

infixr 68 ◌▸◌
-- equal values, side by side
◌▸◌ : {w : ℕ} {ws : List ℕ} {x y : ℕ} {xs ys : Values ws} → x ≡ y → xs ≡ ys → ◌▹◌ {w = w} x xs ≡ y ▹ ys
◌▸◌ {w} {ws} e es = ap₂ (λ (z : ℕ) (zs : Values ws). ◌▹◌ {w = w} z zs) e es

launch_is : (d : List ℕ) {v : Values layout} → v ≡ values_at layout d 0 → launch_from v ≡ launch_at d
unfolding launch_at
launch_is d e = ap launch_from e

-- read by read: cc finds it too, far slower
pub returns : goal.returns
returns c = launch_is _
    (refl ▸ refl ▸ c.byte_at.ensures.0 ▸ c.byte_at-2.ensures.0 ▸ c.byte_at-3.ensures.0
    ▸ c.word_at.ensures ▸ c.word_at-2.ensures ▸ c.word_at-3.ensures ▸ c.word_at-11.ensures
    ▸ c.word_at-4.ensures ▸ c.word_at-5.ensures ▸ c.word_at-6.ensures ▸ c.word_at-7.ensures
    ▸ c.word_at-8.ensures ▸ c.word_at-9.ensures ▸ c.word_at-10.ensures ▸ refl)
