-- The word of an instruction, by the same tables.
use Rattle.std.specs.Prelude.{ℕ, ◌+◌, ◌*◌, ◌/◌, ◌%◌, ◌^◌, List, [], ◌∷◌, ◌++◌, Bool, true, false, cond, eqb}
use Rattle.answer.specs.Rows.{Row}
use Rattle.word.specs.declared.Op.{Op}
use Rattle.word.specs.declared.Cond.{Cond}
use Rattle.word.specs.declared.Cond.TheVariants as C
use Rattle.isa.specs.declared.LoadOp.{LoadOp}
use Rattle.isa.specs.declared.LoadOp.TheVariants as L
use Rattle.isa.specs.declared.StoreOp.{StoreOp}
use Rattle.isa.specs.declared.StoreOp.TheVariants as S
use Rattle.isa.specs.declared.CsrOp.{CsrOp}
use Rattle.isa.specs.declared.CsrOp.TheVariants as R
use Rattle.isa.specs.declared.Source.{Source}
use Rattle.isa.specs.declared.Source.TheVariants as From
use Rattle.isa.specs.declared.Space.{Space}
use Rattle.isa.specs.declared.Space.TheVariants.{Plain, Private}
use Rattle.isa.specs.declared.Instr.{Instr}
use Rattle.isa.specs.declared.Instr.TheVariants as I
use Rattle.isa.specs.Fields.{Fields}
use Rattle.isa.specs.Scalar.{conditions, loads, stores, immediates, left_shifts, right_shifts, base, multiplies, alternates, csr_ops, csr_immediates}
use Rattle.isa.specs.Vector.{OpForms, vector_table, multiply_table}
use Rattle.isa.specs.Ventus.{vstores}
use Rattle.isa.specs.Number.{number}
use Rattle.isa.specs.Fits.{field_of}

-- a number for each op of the small kinds
abbrev pub cond_number : Cond → ℕ
cond_number C.Eq = 0
cond_number C.Ne = 1
cond_number C.Lt = 2
cond_number C.Ge = 3
cond_number C.Ltu = 4
cond_number C.Geu = 5

abbrev pub load_number : LoadOp → ℕ
load_number L.B = 0
load_number L.H = 1
load_number L.W = 2
load_number L.Bu = 3
load_number L.Hu = 4

abbrev pub store_number : StoreOp → ℕ
store_number S.B = 0
store_number S.H = 1
store_number S.W = 2

abbrev pub csr_number : CsrOp → ℕ
csr_number R.Rw = 0
csr_number R.Rs = 1
csr_number R.Rc = 2

-- the code of an op: a table read the other way, or 0
abbrev pub code_in : {A : Type 0} → (A → ℕ) → List (Row A) → A → ℕ
code_in number [] a = 0
code_in number (r ∷ rs) a = cond (eqb (number a) (number r.is)) r.code (code_in number rs a)

-- both codes of an op, where a word has two: each table under the code that it stands for
pub record Codes : Type 0 where
  pub op : Op
  pub first : ℕ
  pub second : ℕ

abbrev pub under : ℕ → List (Row Op) → List Codes
under k [] = []
under k (r ∷ rs) = record { op = r.is; first = k; second = r.code } ∷ under k rs

abbrev pub formed_under : ℕ → List (Row OpForms) → List Codes
formed_under k [] = []
formed_under k (r ∷ rs) = record { op = r.is.op; first = k; second = r.code } ∷ formed_under k rs

abbrev pub first_of : List Codes → Op → ℕ
first_of [] o = 0
first_of (r ∷ rs) o = cond (eqb (number o) (number r.op)) r.first (first_of rs o)

abbrev pub second_of : List Codes → Op → ℕ
second_of [] o = 0
second_of (r ∷ rs) o = cond (eqb (number o) (number r.op)) r.second (second_of rs o)

-- OP: funct7, funct3
abbrev pub op_codes : List Codes
op_codes = under 0b0000000 base ++ under 0b0000001 multiplies ++ under 0b0100000 alternates

-- OP-IMM's shifts: funct3, funct7; the other ops with funct7 0, where their immediate stands
abbrev pub flat : List (Row Op) → List Codes
flat [] = []
flat (r ∷ rs) = record { op = r.is; first = r.code; second = 0 } ∷ flat rs

abbrev pub imm_codes : List Codes
imm_codes = flat immediates ++ under 0b001 left_shifts ++ under 0b101 right_shifts

-- vector words: the funct3 of the group's VV form (M: 010), funct6
abbrev pub vector_codes : List Codes
vector_codes = formed_under 0b000 vector_table ++ formed_under 0b010 multiply_table

-- VX is 100 over VV; VI is 011
abbrev pub operand_code : ℕ → Source → ℕ
operand_code n (From.V r) = n
operand_code n (From.X r) = 0b100 + n
operand_code n (From.I k) = 0b011
operand_code n (From.Long k) = 0b011

-- a word from its fields
abbrev pub word_from : ℕ → Fields → ℕ
word_from op c = op + c.rd * 2 ^ 7 + c.funct3 * 2 ^ 12 + c.rs1 * 2 ^ 15 + c.rs2 * 2 ^ 20 + c.funct7 * 2 ^ 25

-- the RISC-V manual's formats
abbrev pub type_r : ℕ → ℕ → ℕ → ℕ → ℕ → Fields
type_r funct7 rs2 rs1 funct3 rd = record { rd = rd; funct3 = funct3; rs1 = rs1; rs2 = rs2; funct7 = funct7 }

abbrev pub type_i : ℕ → ℕ → ℕ → ℕ → Fields
type_i imm rs1 funct3 rd = type_r (imm / 32) (imm % 32) rs1 funct3 rd

abbrev pub type_s : ℕ → ℕ → ℕ → ℕ → Fields
type_s imm rs2 rs1 funct3 = type_r (imm / 32) rs2 rs1 funct3 (imm % 32)

abbrev pub type_b : ℕ → ℕ → ℕ → ℕ → Fields
type_b imm rs2 rs1 funct3 = type_r (imm / 4096 * 64 + imm / 32 % 64) rs2 rs1 funct3 (imm / 2 % 16 * 2 + imm / 2048 % 2)

abbrev pub type_u : ℕ → ℕ → Fields
type_u imm rd = type_r (imm / 8192) (imm / 256 % 32) (imm / 8 % 32) (imm % 8) rd

abbrev pub type_j : ℕ → ℕ → Fields
type_j imm rd =
    type_r (imm / 1048576 * 64 + imm / 32 % 64) (imm / 2 % 16 * 2 + imm / 2048 % 2) (imm / 32768 % 32) (imm / 4096 % 8) rd

-- funct6 with vm under it, which is 0 where the word is masked
abbrev pub with_vm : Bool → ℕ → ℕ
with_vm t n = n * 2 + cond t 0 1

abbrev pub lane_opcode : Space → ℕ
lane_opcode Plain = 0b1111011
lane_opcode Private = 0b0101011

unfoldable pub word_of : Instr → ℕ
word_of I.Refused = 0
word_of (I.Lui d n) = word_from 0b0110111 (type_u n d.0)
word_of (I.Auipc d n) = word_from 0b0010111 (type_u n d.0)
word_of (I.Jal d n) = word_from 0b1101111 (type_j n d.0)
word_of (I.Jalr d a n) = word_from 0b1100111 (type_i n a.0 0b000 d.0)
word_of (I.Branch o a b n) = word_from 0b1100011 (type_b n b.0 a.0 (code_in cond_number conditions o))
word_of (I.Load o d a n) = word_from 0b0000011 (type_i n a.0 (code_in load_number loads o) d.0)
word_of (I.Store o a b n) = word_from 0b0100011 (type_s n b.0 a.0 (code_in store_number stores o))
word_of (I.OpImm o d a n) = word_from 0b0010011 (type_i (second_of imm_codes o * 32 + n) a.0 (first_of imm_codes o) d.0)
word_of (I.OpReg o d a b) = word_from 0b0110011 (type_r (first_of op_codes o) b.0 a.0 (second_of op_codes o) d.0)
word_of (I.Fence d a n) = word_from 0b0001111 (type_i n a 0b000 d)
word_of (I.Csr o d a n) = word_from 0b1110011 (type_i n a.0 (code_in csr_number csr_ops o) d.0)
word_of (I.CsrImm o d a n) = word_from 0b1110011 (type_i n a (code_in csr_number csr_immediates o) d.0)
word_of (I.Vector o a) =
    word_from 0b1010111
    (type_r (with_vm a.masked (second_of vector_codes o)) a.vs2.0 (field_of a.src) (operand_code (first_of vector_codes o) a.src) a.vd.0)
word_of (I.VMove d s) = word_from 0b1010111 (type_r (with_vm false 0b010111) 0 (field_of s) (operand_code 0b000 s) d.0)
word_of (I.VMerge d b s) = word_from 0b1010111 (type_r (with_vm true 0b010111) b.0 (field_of s) (operand_code 0b000 s) d.0)
word_of (I.VMoveXS d b) = word_from 0b1010111 (type_r (with_vm false 0b010000) b.0 0 0b010 d.0)
word_of (I.VMoveSX d a) = word_from 0b1010111 (type_r (with_vm false 0b010000) 0 a.0 0b110 d.0)
word_of (I.Vid t d) = word_from 0b1010111 (type_r (with_vm t 0b010100) 0 0b10001 0b010 d.0)
word_of (I.VBranch o a b n) = word_from 0b1011011 (type_b n b.0 a.0 (code_in cond_number conditions o))
word_of I.Join = word_from 0b1011011 (type_r 0 0 0 0b010 0)
word_of (I.SetRpc d a n) = word_from 0b1011011 (type_i n a.0 0b011 d.0)
word_of I.EndPrg = word_from 0b0001011 (type_r 0b0000000 0 0 0b100 0)
word_of (I.Barrier n) = word_from 0b0001011 (type_r 0b0000010 0 n 0b100 0)
word_of (I.VLoad s o d a n) = word_from (lane_opcode s) (type_i n a.0 (code_in load_number loads o) d.0)
word_of (I.VStore s o a b n) = word_from (lane_opcode s) (type_s n b.0 a.0 (code_in store_number vstores o))
word_of (I.RegExt n) = word_from 0b0001011 (type_i n 0 0b010 0)
word_of (I.RegExtI n) = word_from 0b0001011 (type_i n 0 0b011 0)
