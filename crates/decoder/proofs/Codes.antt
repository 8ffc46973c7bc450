-- Two codes looked up as one number i, a + b * 8 with a below 8, and what the last arm of a match on it tells.
use Prim.Native.Nat.{ℕ, ◌+◌, ◌*◌, ◌/◌, ◌%◌, ◌<◌}
use mathlib.Core.Path.{◌≡◌}
use mathlib.Core.List.{List, [], ◌∷◌}
use mathlib.Core.Bool.{false}
use native.Mathlib.Omega.{arith}
use lib.Dec.{T}
use Rattle.answer.specs.Rows.{one_of}
use Rattle.answer.proofs.Matches.{NoneOf, each, in_range}

-- the numbers of the code b
abbrev pub eight : ℕ → List ℕ
eight b = (b * 8) ∷ (1 + b * 8) ∷ (2 + b * 8) ∷ (3 + b * 8) ∷ (4 + b * 8) ∷ (5 + b * 8) ∷ (6 + b * 8) ∷ (7 + b * 8) ∷ []

pub codes : {a b i k : ℕ} → a < 8 → i ≡ a + b * 8 → i ≡ k → (a ≡ k % 8) × (b ≡ k / 8)
codes l p e = (omega arith, omega arith)

-- where all eight numbers of the code o have arms, b is another code
pub no_row :
    (xs : List ℕ) {a b i : ℕ} → a < 8 → i ≡ a + b * 8 → NoneOf (Unit {0}) i xs → (o : ℕ) → T (each (λ k. false) xs (o * 8) 8) → b ≡ o → ⊥
no_row xs {i = i} l p h o t e = in_range (λ k. false) xs (o * 8) 8 i t (omega arith) (omega arith) h

-- o is one of the numbers xs, k is none: k is not o
pub apart : (xs : List ℕ) {k : ℕ} → one_of xs k ≡ false → (o : ℕ) → T (one_of xs o) → k ≡ o → ⊥
apart xs p o t e = rw (← e, p) at t
