-- The definitions, computed: one table of corners and one statement.
use Rattle.std.proofs.Common.{◌≡◌, ℕ, suc, ◌+◌, ◌-◌, ◌%◌, ◌^◌, ◌<◌, ◌≤◌, Bool, true, false, cond, ltb, List, [], ◌∷◌, map, pos, negsuc, refl, arith, lit≤, w8, w16, to_z}
use mir.Syntax.{Width}
use mir.Val.{sel, bits}
use Rattle.word.specs.Word.{as_word, apply_of, extend_of}
use Rattle.word.specs.declared.Op.TheVariants.{Rsub, Sll, Sra, Mulh, Mulhsu, Mulhu, Div, Divu, Rem, Remu, Max, Maxu, Sle, Sgtu}

pub record Corner : Type 0 where
  pub got : ℕ
  pub is : ℕ

infixr 68 ◌makes◌
abbrev pub ◌makes◌ : ℕ → ℕ → Corner
a makes b = record { got = a; is = b }

abbrev pub corners : List Corner
corners =
    apply_of Div 0xfffffff9 2 makes 0xfffffffd ∷ apply_of Rem 0xfffffff9 2 makes 0xffffffff
    ∷ apply_of Divu 7 0 makes 0xffffffff ∷ apply_of Remu 7 0 makes 7
    ∷ apply_of Rsub 1 3 makes 2 ∷ apply_of Sll 1 33 makes 2 ∷ apply_of Sra 0x80000000 31 makes 0xffffffff
    ∷ apply_of Mulh 0xffffffff 0xffffffff makes 0 ∷ apply_of Mulhsu 0xffffffff 0xffffffff makes 0xffffffff
    ∷ apply_of Mulhu 0xffffffff 0xffffffff makes 0xfffffffe
    ∷ apply_of Max 0xffffffff 0 makes 0 ∷ apply_of Maxu 0xffffffff 0 makes 0xffffffff
    ∷ apply_of Sle 5 5 makes 1 ∷ apply_of Sgtu 5 5 makes 0
    ∷ extend_of 12 0x7ff makes 0x7ff ∷ extend_of 12 0x800 makes 0xfffff800 ∷ extend_of 5 31 makes 0xffffffff ∷ []

pub hold : map (λ (c : Corner). c.got) corners ≡ map (λ (c : Corner). c.is) corners
hold = refl

-- Sign extension is the language's own reading of a narrow signed number, at the widths that it has: one law over the width.
plain : (m x : ℕ) → x < m → m ≤ 2 ^ 32 → x ≡ x % 2 ^ 32
plain m x h k = omega arith

turned : (m x : ℕ) → x < m → m ≤ 2 ^ 32 → x + 2 ^ 32 - m ≡ 2 ^ 32 - 1 - (m - suc x) % 2 ^ 32
turned m x h k = omega arith

extends : (w : Width) (x : ℕ) → x < 2 ^ bits w → 2 ^ bits w ≤ 2 ^ 32 → (t : Bool) → cond t x (x + 2 ^ 32 - 2 ^ bits w) ≡ as_word (sel t (pos x) (negsuc (2 ^ bits w - suc x)))
extends w x h k true = plain (2 ^ bits w) x h k
extends w x h k false = turned (2 ^ bits w) x h k

pub byte_extends : (x : ℕ) → x < 2 ^ 8 → extend_of 8 x ≡ as_word (to_z w8 x)
byte_extends x h = extends w8 x h (lit≤ tt) (ltb x (2 ^ 7))

pub half_extends : (x : ℕ) → x < 2 ^ 16 → extend_of 16 x ≡ as_word (to_z w16 x)
half_extends x h = extends w16 x h (lit≤ tt) (ltb x (2 ^ 15))
