-- The scalar words: RV32I without ECALL and EBREAK, M, the six CSR instructions, FENCE.
use Rattle.std.specs.Prelude.{List, [], ◌∷◌, ◌++◌}
use Rattle.answer.specs.Rows.{Row, ◌⇒◌}
use Rattle.word.specs.declared.Op.{Op}
use Rattle.word.specs.declared.Op.TheVariants as O
use Rattle.word.specs.declared.Cond.{Cond}
use Rattle.word.specs.declared.Cond.TheVariants as C
use Rattle.isa.specs.declared.Instr.{Instr}
use Rattle.isa.specs.declared.Instr.TheVariants as I
use Rattle.isa.specs.declared.LoadOp.{LoadOp}
use Rattle.isa.specs.declared.LoadOp.TheVariants as L
use Rattle.isa.specs.declared.StoreOp.{StoreOp}
use Rattle.isa.specs.declared.StoreOp.TheVariants as S
use Rattle.isa.specs.declared.CsrOp.{CsrOp}
use Rattle.isa.specs.declared.CsrOp.TheVariants as R
use Rattle.isa.specs.Fields.{Fields, x, imm_i, imm_s, imm_b, imm_u, imm_j}
use Rattle.isa.specs.Table.{Words, word_at, as_words}

-- by opcode alone
abbrev pub lui_word : Fields → Instr
lui_word c = I.Lui (x c.rd) (imm_u c)

abbrev pub auipc_word : Fields → Instr
auipc_word c = I.Auipc (x c.rd) (imm_u c)

abbrev pub jal_word : Fields → Instr
jal_word c = I.Jal (x c.rd) (imm_j c)

-- by funct3
abbrev pub jumps : Words
jumps = 0b000 ⇒ (λ c. I.Jalr (x c.rd) (x c.rs1) (imm_i c)) ∷ []

unfoldable pub jalr_word : Fields → Instr
jalr_word c = word_at c c.funct3 jumps

abbrev pub conditions : List (Row Cond)
conditions =
    0b000 ⇒ C.Eq ∷ 0b001 ⇒ C.Ne ∷ 0b100 ⇒ C.Lt ∷ 0b101 ⇒ C.Ge ∷ 0b110 ⇒ C.Ltu ∷ 0b111 ⇒ C.Geu ∷ []

abbrev pub branch_as : Cond → Fields → Instr
branch_as o c = I.Branch o (x c.rs1) (x c.rs2) (imm_b c)

unfoldable pub branch_word : Fields → Instr
branch_word c = word_at c c.funct3 (as_words branch_as conditions)

abbrev pub loads : List (Row LoadOp)
loads = 0b000 ⇒ L.B ∷ 0b001 ⇒ L.H ∷ 0b010 ⇒ L.W ∷ 0b100 ⇒ L.Bu ∷ 0b101 ⇒ L.Hu ∷ []

abbrev pub load_as : LoadOp → Fields → Instr
load_as o c = I.Load o (x c.rd) (x c.rs1) (imm_i c)

unfoldable pub load_word : Fields → Instr
load_word c = word_at c c.funct3 (as_words load_as loads)

abbrev pub stores : List (Row StoreOp)
stores = 0b000 ⇒ S.B ∷ 0b001 ⇒ S.H ∷ 0b010 ⇒ S.W ∷ []

abbrev pub store_as : StoreOp → Fields → Instr
store_as o c = I.Store o (x c.rs1) (x c.rs2) (imm_s c)

unfoldable pub store_word : Fields → Instr
store_word c = word_at c c.funct3 (as_words store_as stores)

-- OP-IMM: by funct3; a shift by funct7 too, its amount in rs2's place
abbrev pub immediates : List (Row Op)
immediates =
    0b000 ⇒ O.Add ∷ 0b010 ⇒ O.Slt ∷ 0b011 ⇒ O.Sltu ∷ 0b100 ⇒ O.Xor ∷ 0b110 ⇒ O.Or ∷ 0b111 ⇒ O.And ∷ []

abbrev pub left_shifts : List (Row Op)
left_shifts = 0b0000000 ⇒ O.Sll ∷ []

abbrev pub right_shifts : List (Row Op)
right_shifts = 0b0000000 ⇒ O.Srl ∷ 0b0100000 ⇒ O.Sra ∷ []

abbrev pub immediate_as : Op → Fields → Instr
immediate_as o c = I.OpImm o (x c.rd) (x c.rs1) (imm_i c)

abbrev pub shift_as : Op → Fields → Instr
shift_as o c = I.OpImm o (x c.rd) (x c.rs1) c.rs2

unfoldable pub shift_word : List (Row Op) → Fields → Instr
shift_word t c = word_at c c.funct7 (as_words shift_as t)

abbrev pub shifts : Words
shifts = 0b001 ⇒ shift_word left_shifts ∷ 0b101 ⇒ shift_word right_shifts ∷ []

unfoldable pub op_imm_word : Fields → Instr
op_imm_word c = word_at c c.funct3 (as_words immediate_as immediates ++ shifts)

-- OP: by funct7, then by funct3
abbrev pub base : List (Row Op)
base =
    0b000 ⇒ O.Add ∷ 0b001 ⇒ O.Sll ∷ 0b010 ⇒ O.Slt ∷ 0b011 ⇒ O.Sltu
    ∷ 0b100 ⇒ O.Xor ∷ 0b101 ⇒ O.Srl ∷ 0b110 ⇒ O.Or ∷ 0b111 ⇒ O.And ∷ []

abbrev pub multiplies : List (Row Op)
multiplies =
    0b000 ⇒ O.Mul ∷ 0b001 ⇒ O.Mulh ∷ 0b010 ⇒ O.Mulhsu ∷ 0b011 ⇒ O.Mulhu
    ∷ 0b100 ⇒ O.Div ∷ 0b101 ⇒ O.Divu ∷ 0b110 ⇒ O.Rem ∷ 0b111 ⇒ O.Remu ∷ []

abbrev pub alternates : List (Row Op)
alternates = 0b000 ⇒ O.Sub ∷ 0b101 ⇒ O.Sra ∷ []

abbrev pub op_as : Op → Fields → Instr
op_as o c = I.OpReg o (x c.rd) (x c.rs1) (x c.rs2)

unfoldable pub by_funct3 : List (Row Op) → Fields → Instr
by_funct3 t c = word_at c c.funct3 (as_words op_as t)

abbrev pub ops : List (Row (List (Row Op)))
ops = 0b0000000 ⇒ base ∷ 0b0000001 ⇒ multiplies ∷ 0b0100000 ⇒ alternates ∷ []

unfoldable pub op_word : Fields → Instr
op_word c = word_at c c.funct7 (as_words by_funct3 ops)

-- FENCE: its other fields are ignored, and kept
abbrev pub fences : Words
fences = 0b000 ⇒ (λ c. I.Fence c.rd c.rs1 (imm_i c)) ∷ []

unfoldable pub fence_word : Fields → Instr
fence_word c = word_at c c.funct3 fences

abbrev pub csr_ops : List (Row CsrOp)
csr_ops = 0b001 ⇒ R.Rw ∷ 0b010 ⇒ R.Rs ∷ 0b011 ⇒ R.Rc ∷ []

abbrev pub csr_immediates : List (Row CsrOp)
csr_immediates = 0b101 ⇒ R.Rw ∷ 0b110 ⇒ R.Rs ∷ 0b111 ⇒ R.Rc ∷ []

abbrev pub csr_as : CsrOp → Fields → Instr
csr_as o c = I.Csr o (x c.rd) (x c.rs1) (imm_i c)

abbrev pub csr_imm_as : CsrOp → Fields → Instr
csr_imm_as o c = I.CsrImm o (x c.rd) c.rs1 (imm_i c)

unfoldable pub csr_word : Fields → Instr
csr_word c = word_at c c.funct3 (as_words csr_as csr_ops ++ as_words csr_imm_as csr_immediates)
