-- What the test of a word says of its instruction: that it takes the prefix, or not; of Refused anything.
use Rattle.std.specs.Prelude.{ℕ, ◌<◌, ◌≡◌, Bool, ◌&&◌, eqb, ltb}
use Rattle.isa.specs.declared.Prefix.{Prefix}
use Rattle.isa.specs.declared.XReg.{XReg}
use Rattle.isa.specs.declared.Instr.{Instr}
use Rattle.isa.specs.declared.Instr.TheVariants as I
use Rattle.isa.specs.Bounds.{scalar_registers, field_limit}
use Rattle.isa.specs.Fields.{x}
use Rattle.isa.specs.Prefix.{reg_ext, digits_of, on_fields, takes_of, allowed}

pub data Tells (p : Prefix) (b : Bool) (i : Instr) : Type 0 where
  none : i ≡ I.Refused → Tells p b i
  is : allowed p.kind (takes_of (on_fields (digits_of p) i)) ≡ b → Tells p b i

abbrev pub is_ext : Prefix → Bool
is_ext p = eqb p.kind reg_ext

-- d is the test that the prefix is REGEXT and that there is the scalar register which f makes of a field, whatever the field
abbrev pub Named : Prefix → (XReg → XReg) → Bool → Type 0
Named p f d = (n : ℕ) → n < field_limit → (is_ext p && ltb (f (x n)).0 scalar_registers) ≡ d

-- what is known of the prefix: whether it is REGEXT, and that test of the registers in the fields of rd, rs1 and rs2
pub record Known (p : Prefix) (e d a b : Bool) : Type 0 where
  pub ext : is_ext p ≡ e
  pub xd : Named p (digits_of p).xd d
  pub x1 : Named p (digits_of p).x1 a
  pub x2 : Named p (digits_of p).x2 b
