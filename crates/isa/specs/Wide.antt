-- A word with the numbers of its registers above it, as the code hands it on: one number of 64 bits. No step's meaning uses it.
use Rattle.std.specs.Prelude.{ℕ, ◌+◌, ◌*◌, ◌/◌, ◌%◌, ◌^◌, ◌≡◌, Bool, true, false, cond, eqb, ltb}
use Rattle.isa.specs.declared.XReg.{XReg}
use Rattle.isa.specs.declared.VReg.{VReg}
use Rattle.isa.specs.declared.Source.TheVariants as From
use Rattle.isa.specs.declared.Prefix.{Prefix}
use Rattle.isa.specs.declared.Instr.{Instr}
use Rattle.isa.specs.declared.Instr.TheVariants as I
use Rattle.isa.specs.Fields.{Fields, x, v, fields_of, imm_i}
use Rattle.isa.specs.Prefix.{OnFields, reg_ext, digits_of, on_fields, prefixed}
use Rattle.isa.specs.Decode.{decode_of}
use Rattle.isa.specs.Kinds.{csr_op_of, instr_of}

-- the word w in bits 31 to 0; in 39 to 32, 47 to 40 and 55 to 48 the digits d, a and b on its fields of rd, rs1 and rs2; t from bit 56 on
abbrev pub wide_word : ℕ → ℕ → ℕ → ℕ → ℕ → ℕ
wide_word w d a b t =
    let c : Fields = fields_of w in
    w + (d * 2 ^ 5 + c.rd + (a * 2 ^ 5 + c.rs1) * 2 ^ 8 + (b * 2 ^ 5 + c.rs2) * 2 ^ 16 + t * 2 ^ 24) * 2 ^ 32

-- no prefix
abbrev pub plain_wide : ℕ → ℕ
plain_wide w = wide_word w 0 0 0 0

-- REGEXTI has no x1, the immediate's upper six bits in 61 to 56, and bit 62 is 1
abbrev pub widened : Prefix → ℕ → ℕ
widened p w =
    let n : ℕ = p.bits in
    cond (eqb p.kind reg_ext) (wide_word w (n % 2 ^ 3) (n / 2 ^ 3 % 2 ^ 3) (n / 2 ^ 6 % 2 ^ 3) 0)
    (wide_word w (n % 2 ^ 3) 0 (n / 2 ^ 3 % 2 ^ 3) (2 ^ 6 + n / 2 ^ 6 % 2 ^ 6))

abbrev pub is_long : ℕ → Bool
is_long w = eqb (w / 2 ^ 62 % 2) 1

abbrev pub long_in : ℕ → ℕ → ℕ
long_in w i = w / 2 ^ 56 % 2 ^ 6 * 2 ^ 5 + i

-- the registers are those above the word, whatever its fields; of a scalar one's number six bits, since a greater one was refused
abbrev pub numbers_in : ℕ → OnFields
numbers_in w =
    record {
      xd = λ r. x (w / 2 ^ 32 % 2 ^ 6);
      x1 = λ r. x (w / 2 ^ 40 % 2 ^ 6);
      x2 = λ r. x (w / 2 ^ 48 % 2 ^ 6);
      vd = λ r. v (w / 2 ^ 32 % 2 ^ 8);
      v1 = λ r. v (w / 2 ^ 40 % 2 ^ 8);
      v2 = λ r. v (w / 2 ^ 48 % 2 ^ 8);
      imm = λ i. cond (is_long w) (From.Long (long_in w i)) (From.I i);
    }

abbrev pub xd_in : ℕ → XReg
xd_in w = (numbers_in w).xd (x (fields_of w).rd)

abbrev pub xs1_in : ℕ → XReg
xs1_in w = (numbers_in w).x1 (x (fields_of w).rs1)

abbrev pub xs2_in : ℕ → XReg
xs2_in w = (numbers_in w).x2 (x (fields_of w).rs2)

abbrev pub vd_in : ℕ → VReg
vd_in w = (numbers_in w).vd (v (fields_of w).rd)

abbrev pub vs1_in : ℕ → VReg
vs1_in w = (numbers_in w).v1 (v (fields_of w).rs1)

abbrev pub vs2_in : ℕ → VReg
vs2_in w = (numbers_in w).v2 (v (fields_of w).rs2)

-- a CSR word: of the register form, or of the immediate one, whose rs1 is no register
abbrev pub csr_by : Bool → ℕ → Instr
csr_by b w = let c : Fields = fields_of w in cond b (I.Csr (csr_op_of c) (xd_in w) (xs1_in w) (imm_i c)) (I.CsrImm (csr_op_of c) (xd_in w) c.rs1 (imm_i c))

abbrev pub of_register : ℕ → Bool
of_register w = ltb (fields_of w).funct3 0b100

abbrev pub csr_wide : ℕ → Instr
csr_wide w = csr_by (of_register w) w

-- the number by which CSRRS and CSRRC write
abbrev pub csr_source : ℕ → ℕ
csr_source w = cond (of_register w) (xs1_in w).0 (fields_of w).rs1

-- the instruction of kind k that such a word has
abbrev pub wide_of : ℕ → ℕ → Instr
wide_of k w = on_fields (numbers_in w) (instr_of k w)

-- the test t of whether the word w takes the prefix p: where it does, the digits go on its registers
pub record Judged (t : Bool) (p : Prefix) (w : ℕ) : Type 0 where
  pub taken : t ≡ true → prefixed p (decode_of w) ≡ on_fields (digits_of p) (decode_of w)
  pub refused : t ≡ false → prefixed p (decode_of w) ≡ I.Refused
