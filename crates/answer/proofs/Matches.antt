-- What a `match` with ranges tells of a number k: lo ≤ k, k < lo + n, and k none of the codes xs that have arms of their own.
use Prim.Native.Nat.{ℕ, zero, suc, ◌+◌, ◌<◌, ◌≤◌}
use native.Mathlib.Omega.{arith}
use mathlib.Core.Path.{◌≡◌, refl}
use mathlib.Core.List.{List, [], ◌∷◌}
use mathlib.Core.Bool.{Bool, true, false, ◌&&◌, ◌||◌}
use lib.Dec.{T, leb}
use borrow.Author.Tests.{leb-true, leb-false, ne_eqb}
use Rattle.answer.specs.Rows.{one_of}

-- in the form in which a `match` hands it to its last arm
abbrev pub NoneOf : Type 0 → ℕ → List ℕ → Type 0
NoneOf acc k [] = acc
NoneOf acc k (a ∷ ys) = NoneOf (acc × (k ≡ a → ⊥)) k ys

start : (acc : Type 0) (k : ℕ) (xs : List ℕ) → NoneOf acc k xs → acc
start acc k [] h = h
start acc k (a ∷ ys) h = (start (acc × (k ≡ a → ⊥)) k ys h).0

-- so k is not one of them
pub not_one : (acc : Type 0) (k : ℕ) (xs : List ℕ) → NoneOf acc k xs → one_of xs k ≡ false
not_one acc k [] h = refl
not_one acc k (a ∷ ys) h = rw (ne_eqb k a (start (acc × (k ≡ a → ⊥)) k ys h).1) (not_one (acc × (k ≡ a → ⊥)) k ys h)

-- the test P at lo, lo + 1, .., n of them, but for the codes xs
abbrev pub each : (ℕ → Bool) → List ℕ → ℕ → ℕ → Bool
each P xs lo zero = true
each P xs lo (suc n) = (one_of xs lo || P lo) && each P xs (suc lo) n

both : (a b : Bool) → T (a && b) → T a × T b
both true b t = (tt, t)
both false b t = absurd t

module _ (P : ℕ → Bool) (xs : List ℕ) (k : ℕ) (h : one_of xs k ≡ false) where
  here : (lo : ℕ) → k ≡ lo → T (one_of xs lo || P lo) → T (P k)
  here lo e t = rw (← e, h) at t

  step : (lo : ℕ) (b : Bool) → leb (suc lo) k ≡ b → T (one_of xs lo || P lo) → lo ≤ k → (suc lo ≤ k → T (P k)) → T (P k)
  step lo true e t a more = more (leb-true (suc lo) k e)
  step lo false e t a more = let l = leb-false (suc lo) k e in here lo (omega arith) t

  within : (lo n : ℕ) → T (each P xs lo n) → lo ≤ k → k < lo + n → T (P k)
  within lo zero t a z = absurd (omega arith)
  within lo (suc n) t a z =
      let q = both (one_of xs lo || P lo) (each P xs (suc lo) n) t in
      step lo (leb (suc lo) k) refl q.0 a (λ l. within (suc lo) n q.1 l (omega arith))

-- the test holds at every number of the range that has no arm of its own: so at k
pub in_range : (P : ℕ → Bool) (xs : List ℕ) (lo n k : ℕ) → T (each P xs lo n) → lo ≤ k → k < lo + n → NoneOf (Unit {0}) k xs → T (P k)
in_range P xs lo n k t a b h = within P xs k (not_one (Unit {0}) k xs h) lo n t a b

-- every code below n has an arm of its own
excluded : (xs : List ℕ) (n k : ℕ) → T (each (λ k. false) xs 0 n) → k < n → NoneOf (Unit {0}) k xs → ⊥
excluded xs n k t b h = in_range (λ k. false) xs 0 n k t (omega arith) (omega arith) h

-- the last arm of numbers that are at most n
pub last_arm : (xs : List ℕ) (n k : ℕ) → T (each (λ k. false) xs 0 n) → k ≤ n → NoneOf (Unit {0}) k xs → n ≡ k
last_arm xs n k t b h = let f : k < n → ⊥ = λ l. excluded xs n k t l h in omega arith
