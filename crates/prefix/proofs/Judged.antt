-- The test by the digits, and what it makes of the instruction.
use Prim.Native.Nat.{ℕ, ◌+◌, ◌*◌, ◌/◌, ◌%◌, ◌^◌, ◌<◌}
use mathlib.Core.Path.{◌≡◌, refl, sym, ◌∙◌}
use mathlib.Core.Bool.{Bool, true, false, ◌&&◌}
use native.Mathlib.Omega.{arith}
use lib.Dec.{eqb, ltb}
use borrow.Author.Tests.{lt-ltb, le-ltb, ltb-true, ltb-false, ne_eqb}
use Rattle.isa.specs.Bounds.{scalar_registers, field_limit}
use Rattle.isa.specs.Decode.{decode_of}
use Rattle.isa.specs.Prefix.{reg_ext, prefix, prefixed}
use Rattle.isa.specs.Wide.{Judged}
use Rattle.prefix.specs.Tells.{Tells, none, is, Known}

-- the register is a scalar one where its digit is 0 or 1
digit_by : (t : Bool) (d n : ℕ) → n < field_limit → ltb d 2 ≡ t → ltb (d * 2 ^ 5 + n) scalar_registers ≡ t
digit_by true d n l e = let h = ltb-true d 2 e in lt-ltb (d * 2 ^ 5 + n) scalar_registers (omega arith)
digit_by false d n l e = let h = ltb-false d 2 e in le-ltb (d * 2 ^ 5 + n) scalar_registers (omega arith)

digit : (d n : ℕ) → n < field_limit → ltb (d * 2 ^ 5 + n) scalar_registers ≡ ltb d 2
digit d n l = digit_by (ltb d 2) d n l refl

where_ext : (t u z : Bool) → (t ≡ true → u ≡ z) → (t && u) ≡ (t && z)
where_ext true u z h = h refl
where_ext false u z h = refl

pub known :
    (k n : ℕ) {d a b : Bool} → d ≡ (eqb k reg_ext && ltb (n % 2 ^ 3) 2) → a ≡ (eqb k reg_ext && ltb (n / 2 ^ 3 % 2 ^ 3) 2)
    → b ≡ (eqb k reg_ext && ltb (n / 2 ^ 6 % 2 ^ 3) 2) → Known (prefix k n) (eqb k reg_ext) d a b
known k n ed ea eb =
    record {
      ext = refl;
      xd = λ m l. where_ext (eqb k reg_ext) _ _ (λ e. rw e (digit (n % 2 ^ 3) m l)) ∙ sym ed;
      x1 = λ m l. where_ext (eqb k reg_ext) _ _ (λ e. rw e (digit (n / 2 ^ 3 % 2 ^ 3) m l)) ∙ sym ea;
      x2 = λ m l. where_ext (eqb k reg_ext) _ _ (λ e. rw e (digit (n / 2 ^ 6 % 2 ^ 3) m l)) ∙ sym eb;
    }

pub judged : (k n w : ℕ) (t : Bool) → 0 < k → Tells (prefix k n) t (decode_of w) → Judged t (prefix k n) w
unfolding prefixed
judged k n w t z (none r) =
    let there : eqb k 0 ≡ false = ne_eqb k 0 (λ e. omega arith) in
    record { taken = λ e. rw (there, r); refused = λ e. rw (there, r) }
judged k n w t z (is h) =
    let there : eqb k 0 ≡ false = ne_eqb k 0 (λ e. omega arith) in
    record { taken = λ e. rw (there, h ∙ e); refused = λ e. rw (there, h ∙ e) }
