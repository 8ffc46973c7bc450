-- The law of sign extension that the proofs cite.
use Rattle.std.proofs.Common.{◌≡◌, ℕ, suc, ◌+◌, ◌-◌, ◌*◌, ◌%◌, ◌^◌, ◌≤◌, ap, ◌∙◌, zero-le, pow-suc, arith, lit<}
use native.Mathlib.Nat.{pow-le-pow_right}

-- half of 2 ^ n, as the code makes it, for a field of n bits
pub record Half (n half : ℕ) : Type 0 where
  pub is : half ≡ 2 ^ (n - 1)
  pub twice : 2 ^ n ≡ half + half
  pub some : 1 ≤ half
  pub small : half ≤ 2 ^ 30

pub half : (n : ℕ) → 1 ≤ n → n ≤ 31 → Half n (1 * 2 ^ (n - 1) % 4294967296)
half n h k = go (n - 1) (omega arith) (omega arith)
  where
    go : (m : ℕ) → n ≡ suc m → m ≤ 30 → Half n (1 * 2 ^ m % 4294967296)
    go m e l =
        let p : 2 ^ m ≤ 2 ^ 30 = pow-le-pow_right (lit< tt) l in
        let q : 1 ≤ 2 ^ m = pow-le-pow_right (lit< tt) zero-le in
        let t : 2 ^ suc m ≡ 2 ^ m * 2 = pow-suc 2 m in
        let i : 1 * 2 ^ m % 4294967296 ≡ 2 ^ m = omega arith in
        record { is = i ∙ ap (λ (j : ℕ). 2 ^ j) (omega arith); twice = ap (λ (j : ℕ). 2 ^ j) e ∙ omega arith; some = omega arith; small = omega arith }
