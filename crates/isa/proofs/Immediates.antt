-- The bounds of the immediates of a word, and the one that is read at once.
use Prim.Native.Nat.{ℕ, ◌+◌, ◌*◌, ◌/◌, ◌%◌, ◌<◌, ◌^◌}
use mathlib.Core.Path.{◌≡◌}
use native.Mathlib.Omega.{arith}
use Rattle.isa.specs.Fields.{Fields, fields_of, imm_b, imm_u, imm_j}
use Rattle.isa.proofs.Decoded.{SmallFields}

module _ (c : Fields) (h : SmallFields c) (top : c.funct7 < 128) where
  pub imm_b_small : imm_b c < 2 ^ 13
  imm_b_small = omega arith

  pub imm_j_small : imm_j c < 2 ^ 21
  imm_j_small = omega arith

-- 20 bits are 7, 5, 5 and 3
seven : (a : ℕ) → a % 2 ^ 20 ≡ a / 2 ^ 13 % 2 ^ 7 * 2 ^ 13 + a % 2 ^ 13
seven a = omega arith

five : (a : ℕ) → a % 2 ^ 13 ≡ a / 2 ^ 8 % 2 ^ 5 * 2 ^ 8 + a % 2 ^ 8
five a = omega arith

three : (a : ℕ) → a % 2 ^ 8 ≡ a / 2 ^ 3 % 2 ^ 5 * 2 ^ 3 + a % 2 ^ 3
three a = omega arith

down13 : (w : ℕ) → w / 2 ^ 12 / 2 ^ 13 ≡ w / 2 ^ 25
down13 w = omega arith

down8 : (w : ℕ) → w / 2 ^ 12 / 2 ^ 8 ≡ w / 2 ^ 20
down8 w = omega arith

down3 : (w : ℕ) → w / 2 ^ 12 / 2 ^ 3 ≡ w / 2 ^ 15
down3 w = omega arith

joined : (n a b c e f g : ℕ) → n ≡ a + e → e ≡ b + f → f ≡ c + g → n ≡ a + b + c + g
joined n a b c e f g p q r = omega arith

pub imm_u_whole : (w : ℕ) → w / 2 ^ 12 % 2 ^ 20 ≡ imm_u (fields_of w)
imm_u_whole w =
    let a : ℕ = w / 2 ^ 12 in
    rw (← down13 w, ← down8 w, ← down3 w) (joined _ _ _ _ _ _ _ (seven a) (five a) (three a))
