-- A word's instruction by its kind: one row a kind, made of the word's fields. Of every kind and every word: a kind with no row is Refused.
use Rattle.std.specs.Prelude.{ℕ, ◌%◌, [], ◌∷◌, ◌++◌, cond, leb, ltb}
use Rattle.answer.specs.Rows.{◌⇒◌}
use Rattle.word.specs.declared.Op.{Op}
use Rattle.word.specs.declared.Op.TheVariants as O
use Rattle.word.specs.declared.Cond.{Cond}
use Rattle.word.specs.declared.Cond.TheVariants as C
use Rattle.isa.specs.declared.Source.{Source}
use Rattle.isa.specs.declared.LoadOp.{LoadOp}
use Rattle.isa.specs.declared.LoadOp.TheVariants as L
use Rattle.isa.specs.declared.StoreOp.{StoreOp}
use Rattle.isa.specs.declared.StoreOp.TheVariants as S
use Rattle.isa.specs.declared.CsrOp.{CsrOp}
use Rattle.isa.specs.declared.CsrOp.TheVariants as R
use Rattle.isa.specs.declared.Instr.{Instr}
use Rattle.isa.specs.declared.Instr.TheVariants as I
use Rattle.isa.specs.Fields.{Fields, x, v, is_masked, fields_of, imm_i}
use Rattle.isa.specs.Table.{pick_row, Words, word_at}
use Rattle.isa.specs.Scalar.{lui_word, auipc_word, jal_word, conditions, branch_as, loads, load_as, stores, store_as, immediate_as, shift_as, op_as, csr_ops, csr_as, csr_immediates, csr_imm_as}
use Rattle.isa.specs.Vector.{from_v, from_x, from_i}
use Rattle.isa.specs.Ventus.{vbranch_as, set_rpc_as, vstores, vload_as, vstore_as, pload_as, pstore_as}
use Rattle.isa.specs.Number.{op_at}

-- the condition or operation that funct3 names; where it names none, the table's last
unfoldable pub cond_of : Fields → Cond
cond_of c = pick_row C.Geu c.funct3 conditions

unfoldable pub load_op_of : Fields → LoadOp
load_op_of c = pick_row L.Hu c.funct3 loads

unfoldable pub store_op_of : Fields → StoreOp
store_op_of c = pick_row S.W c.funct3 stores

unfoldable pub lane_store_op_of : Fields → StoreOp
lane_store_op_of c = pick_row S.W c.funct3 vstores

-- a CSR word: where funct3 is below 0b100 its operand is the word of register rs1, else the field rs1 itself
unfoldable pub csr_op_of : Fields → CsrOp
csr_op_of c = cond (ltb c.funct3 0b100) (pick_row R.Rc c.funct3 csr_ops) (pick_row R.Rc c.funct3 csr_immediates)

unfoldable pub any_csr_word : Fields → Instr
any_csr_word c = cond (ltb c.funct3 0b100) (csr_as (csr_op_of c) c) (csr_imm_as (csr_op_of c) c)

-- a vector word's last operand: VV 000 and 010, VI 011, else VX
unfoldable pub source_in : Fields → Source
source_in c = pick_row (from_x c) c.funct3 (0b000 ⇒ from_v c ∷ 0b010 ⇒ from_v c ∷ 0b011 ⇒ from_i c ∷ [])

abbrev pub lane_op_word : Op → Fields → Instr
lane_op_word o c = I.Vector o (record { vd = v c.rd; vs2 = v c.rs2; src = source_in c; masked = is_masked c })

-- the numbers are those of src/kinds.rt
abbrev pub scalar_groups : Words
scalar_groups =
    1 ⇒ lui_word ∷ 2 ⇒ auipc_word ∷ 3 ⇒ jal_word ∷ 4 ⇒ (λ c. I.Jalr (x c.rd) (x c.rs1) (imm_i c))
    ∷ 5 ⇒ (λ c. branch_as (cond_of c) c) ∷ 6 ⇒ (λ c. load_as (load_op_of c) c) ∷ 7 ⇒ (λ c. store_as (store_op_of c) c)
    ∷ 8 ⇒ (λ c. I.Fence c.rd c.rs1 (imm_i c)) ∷ 9 ⇒ any_csr_word ∷ []

abbrev pub lane_groups : Words
lane_groups =
    10 ⇒ (λ c. vbranch_as (cond_of c) c) ∷ 11 ⇒ set_rpc_as
    ∷ 12 ⇒ (λ c. vload_as (load_op_of c) c) ∷ 13 ⇒ (λ c. vstore_as (lane_store_op_of c) c)
    ∷ 14 ⇒ (λ c. pload_as (load_op_of c) c) ∷ 15 ⇒ (λ c. pstore_as (lane_store_op_of c) c)
    ∷ 43 ⇒ (λ c. I.Join) ∷ 44 ⇒ (λ c. I.EndPrg) ∷ 45 ⇒ (λ c. I.Barrier c.rs1)
    ∷ 46 ⇒ (λ c. I.VMoveXS (x c.rd) (v c.rs2)) ∷ 47 ⇒ (λ c. I.VMoveSX (v c.rd) (x c.rs1))
    ∷ 48 ⇒ (λ c. I.Vid (is_masked c) (v c.rd)) ∷ 49 ⇒ (λ c. I.VMove (v c.rd) (source_in c))
    ∷ 50 ⇒ (λ c. I.RegExt (imm_i c)) ∷ 51 ⇒ (λ c. I.RegExtI (imm_i c))
    ∷ 52 ⇒ (λ c. I.VMerge (v c.rd) (v c.rs2) (source_in c)) ∷ []

abbrev pub groups : Words
groups = scalar_groups ++ lane_groups

abbrev pub of_sums : Words
of_sums =
    16 ⇒ op_as O.Add ∷ 17 ⇒ op_as O.Sub ∷ 18 ⇒ op_as O.Sll ∷ 19 ⇒ op_as O.Srl ∷ 20 ⇒ op_as O.Sra ∷ 21 ⇒ op_as O.Slt
    ∷ 22 ⇒ op_as O.Sltu ∷ 23 ⇒ op_as O.And ∷ 24 ⇒ op_as O.Or ∷ 25 ⇒ op_as O.Xor ∷ []

abbrev pub of_products : Words
of_products =
    26 ⇒ op_as O.Mul ∷ 27 ⇒ op_as O.Mulh ∷ 28 ⇒ op_as O.Mulhsu ∷ 29 ⇒ op_as O.Mulhu ∷ 30 ⇒ op_as O.Div ∷ 31 ⇒ op_as O.Divu
    ∷ 32 ⇒ op_as O.Rem ∷ 33 ⇒ op_as O.Remu ∷ []

abbrev pub of_registers : Words
of_registers = of_sums ++ of_products

abbrev pub of_immediates : Words
of_immediates =
    34 ⇒ immediate_as O.Add ∷ 35 ⇒ shift_as O.Sll ∷ 36 ⇒ shift_as O.Srl ∷ 37 ⇒ shift_as O.Sra ∷ 38 ⇒ immediate_as O.Slt
    ∷ 39 ⇒ immediate_as O.Sltu ∷ 40 ⇒ immediate_as O.And ∷ 41 ⇒ immediate_as O.Or ∷ 42 ⇒ immediate_as O.Xor ∷ []

-- a vector operation's kind is vector_kinds plus the op's number, which is below op_limit
abbrev pub vector_kinds : ℕ
vector_kinds = 128

abbrev pub op_limit : ℕ
op_limit = 32

unfoldable pub row_of : ℕ → Fields → Instr
row_of k c =
    cond (leb vector_kinds k) (lane_op_word (op_at (k % op_limit)) c) (word_at c k (groups ++ of_registers ++ of_immediates))

abbrev pub instr_of : ℕ → ℕ → Instr
instr_of k w = row_of k (fields_of w)
