-- A word's fields, and the immediates that they hold.
use Rattle.std.specs.Prelude.{ℕ, ◌+◌, ◌*◌, ◌/◌, ◌%◌, ◌^◌, Bool, eqb}
use Rattle.isa.specs.declared.XReg.{XReg}
use Rattle.isa.specs.declared.VReg.{VReg}

-- as in an R-type word, all but the opcode
pub record Fields : Type 0 where
  pub rd : ℕ
  pub funct3 : ℕ
  pub rs1 : ℕ
  pub rs2 : ℕ
  pub funct7 : ℕ

-- bits 11 to 7, 14 to 12, 19 to 15, 24 to 20, 31 to 25
abbrev pub fields_of : ℕ → Fields
fields_of w =
    record {
      rd = w / 2 ^ 7 % 2 ^ 5;
      funct3 = w / 2 ^ 12 % 2 ^ 3;
      rs1 = w / 2 ^ 15 % 2 ^ 5;
      rs2 = w / 2 ^ 20 % 2 ^ 5;
      funct7 = w / 2 ^ 25 % 2 ^ 7;
    }

-- the top six bits, and vm, the bit under them
abbrev pub funct6 : Fields → ℕ
funct6 c = c.funct7 / 2

abbrev pub vm : Fields → ℕ
vm c = c.funct7 % 2

-- a vector word that is masked
abbrev pub is_masked : Fields → Bool
is_masked c = eqb (vm c) 0

abbrev pub x : ℕ → XReg
x n = record { 0 = n }

abbrev pub v : ℕ → VReg
v n = record { 0 = n }

-- the immediates of the RISC-V manual's formats. I: 12 bits, the word's 31 to 20
abbrev pub imm_i : Fields → ℕ
imm_i c = c.funct7 * 2 ^ 5 + c.rs2

-- S: 12 bits, the word's 31 to 25 and 11 to 7
abbrev pub imm_s : Fields → ℕ
imm_s c = c.funct7 * 2 ^ 5 + c.rd

-- B: 13 bits, 12 to 1 being the word's 31, 7, 30 to 25 and 11 to 8
abbrev pub imm_b : Fields → ℕ
imm_b c = c.funct7 / 2 ^ 6 * 2 ^ 12 + c.rd % 2 * 2 ^ 11 + c.funct7 % 2 ^ 6 * 2 ^ 5 + c.rd / 2 * 2

-- U: 20 bits, the word's 31 to 12
abbrev pub imm_u : Fields → ℕ
imm_u c = c.funct7 * 2 ^ 13 + c.rs2 * 2 ^ 8 + c.rs1 * 2 ^ 3 + c.funct3

-- J: 21 bits, 20 to 1 being the word's 31, 19 to 12, 20, 30 to 25 and 24 to 21
abbrev pub imm_j : Fields → ℕ
imm_j c =
    c.funct7 / 2 ^ 6 * 2 ^ 20 + c.rs1 * 2 ^ 15 + c.funct3 * 2 ^ 12 + c.rs2 % 2 * 2 ^ 11 + c.funct7 % 2 ^ 6 * 2 ^ 5
    + c.rs2 / 2 * 2

-- a private word's offset, 11 bits: those of I and S without bit 31; a store's is a house rule
abbrev pub private_load_offset : Fields → ℕ
private_load_offset c = c.funct7 % 2 ^ 6 * 2 ^ 5 + c.rs2

abbrev pub private_store_offset : Fields → ℕ
private_store_offset c = c.funct7 % 2 ^ 6 * 2 ^ 5 + c.rd
