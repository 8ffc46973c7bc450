-- What the tests do with a state's words.
use Prim.Native.Nat.{ℕ, zero, suc, ◌-◌, ◌<◌, ◌≤◌}
use mathlib.Core.Path.{◌≡◌, refl, ◌∙◌}
use mathlib.Core.Bool.{true, false}
use mathlib.Core.List.{List}
use native.Mathlib.Omega.{arith}
use borrow.Author.Tests.{le-leb, lt-leb}
use Rattle.layout.specs.Words.{phase_at, phases_ok_of}
use Rattle.layout.proofs.Splits.{phases_step}

-- ---- phases

pub phases_stop : (k : ℕ) (s : List ℕ) → 0 < k → 1 < phase_at s (k - 1) → phases_ok_of k s ≡ false
phases_stop k s h f = phases_step k s h ∙ rw (lt-leb _ _ f)

pub phases_go : (k : ℕ) (s : List ℕ) → 0 < k → phase_at s (k - 1) ≤ 1 → phases_ok_of k s ≡ phases_ok_of (k - 1) s
phases_go k s h f = phases_step k s h ∙ rw (le-leb _ _ f)

pub phases_end : (k : ℕ) (s : List ℕ) → k ≤ 0 → phases_ok_of k s ≡ true
unfolding phases_ok_of
phases_end zero s h = refl
phases_end (suc k) s h = absurd (omega arith)
