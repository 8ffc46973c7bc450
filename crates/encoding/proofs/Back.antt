-- The way back from a word's instruction to the word, group by group.
use Prim.Native.Nat.{ℕ, ◌+◌, ◌*◌, ◌/◌, ◌%◌, ◌^◌, ◌<◌}
use mathlib.Core.Path.{◌≡◌, refl, sym, ◌∙◌, subst}
use mathlib.Core.List.{List, ◌++◌}
use mathlib.Core.Bool.{Bool, true, false, ◌&&◌}
use native.Mathlib.Omega.{arith}
use lib.Dec.{T, eqb, eqb→eq}
use borrow.Author.Tests.{eqb-true, eqb-false}
use Rattle.answer.specs.Rows.{Row}
use Rattle.word.specs.declared.Op.{Op}
use Rattle.isa.specs.declared.LoadOp.{LoadOp}
use Rattle.isa.specs.declared.StoreOp.{StoreOp}
use Rattle.isa.specs.declared.Source.{Source}
use Rattle.isa.specs.declared.Source.TheVariants as From
use Rattle.isa.specs.declared.Instr.{Instr}
use Rattle.isa.specs.declared.Instr.TheVariants as I
use Rattle.isa.specs.Fields.{Fields, fields_of, funct6, vm, is_masked, imm_i, imm_s, imm_b, imm_u, imm_j, private_load_offset, private_store_offset}
use Rattle.isa.specs.Table.{on, word_at, as_words}
use Rattle.isa.specs.Scalar.{lui_word, auipc_word, jal_word, jumps, jalr_word, conditions, branch_as, branch_word, loads, load_as, load_word, stores, store_as, store_word, immediates, left_shifts, right_shifts, immediate_as, shift_as, shift_word, shifts, op_imm_word, op_as, by_funct3, ops, op_word, fences, fence_word, csr_ops, csr_immediates, csr_as, csr_imm_as, csr_word}
use Rattle.isa.specs.Vector.{OpForms, has, vector_table, multiply_table, vector_as, move_word, moves, plain_word, moves_m, multiply_word, from_v, from_x, from_i, operands, vector_word}
use Rattle.isa.specs.Ventus.{vbranch_as, join_word, joins, splits_word, end_prg_word, barrier_word, stops, stop_word, prefix_word, warp_words, warp_word, vstores, accesses, vload_as, vstore_as, lane_access_word, pload_as, pstore_as, private_word}
use Rattle.isa.specs.Decode.{opcodes, decode_of}
use Rattle.isa.specs.Fits.{field_of}
use Rattle.isa.proofs.Laws.{both_true, Rows, found, rows_append, every_row, rows_tested, either_at, fixed_at_lem}
use Rattle.isa.proofs.Decoded.{SmallFields, small}
use Rattle.encoding.specs.Encode.{cond_number, load_number, store_number, csr_number, code_in, first_of, second_of, op_codes, imm_codes, vector_codes, operand_code, word_from, type_r, type_i, type_s, type_b, type_u, type_j, with_vm, word_of}

-- a word is its fields, one cut at a time
cut₁ : (w : ℕ) → w ≡ w % 128 + w / 128 * 128
cut₁ w = omega arith

cut₂ : (w : ℕ) → w / 128 ≡ w / 128 % 32 + w / 4096 * 32
cut₂ w = omega arith

cut₃ : (w : ℕ) → w / 4096 ≡ w / 4096 % 8 + w / 32768 * 8
cut₃ w = omega arith

cut₄ : (w : ℕ) → w / 32768 ≡ w / 32768 % 32 + w / 1048576 * 32
cut₄ w = omega arith

cut₅ : (w : ℕ) → w < 2 ^ 32 → w / 1048576 ≡ w / 1048576 % 32 + w / 33554432 % 128 * 32
cut₅ w b = omega arith

sum :
    (w a b d e f g p q r s : ℕ) → w ≡ a + p * 128 → p ≡ b + q * 32 → q ≡ d + r * 8 → r ≡ e + s * 32 → s ≡ f + g * 32
    → a + b * 128 + d * 4096 + e * 32768 + f * 1048576 + g * 33554432 ≡ w
sum w a b d e f g p q r s h₁ h₂ h₃ h₄ h₅ = omega arith

whole : (w : ℕ) → w < 2 ^ 32 → word_from (w % 2 ^ 7) (fields_of w) ≡ w
whole w b =
    sum w (w % 128) (w / 128 % 32) (w / 4096 % 8) (w / 32768 % 32) (w / 1048576 % 32) (w / 33554432 % 128) (w / 128) (w / 4096)
    (w / 32768) (w / 1048576) (cut₁ w) (cut₂ w) (cut₃ w) (cut₄ w) (cut₅ w b)

same :
    (op : ℕ) (c : Fields) (f7 rs2 rs1 f3 rd : ℕ) → f7 ≡ c.funct7 → rs2 ≡ c.rs2 → rs1 ≡ c.rs1 → f3 ≡ c.funct3 → rd ≡ c.rd
    → word_from op (type_r f7 rs2 rs1 f3 rd) ≡ word_from op c
same op c f7 rs2 rs1 f3 rd e₁ e₂ e₃ e₄ e₅ = cc

-- a low part below 32
high : (a b : ℕ) → b < 32 → (a * 32 + b) / 32 ≡ a
high a b h = omega arith

low : (a b : ℕ) → b < 32 → (a * 32 + b) % 32 ≡ b
low a b h = omega arith

-- the parts of a branch's offset: h is its bits 4096 and up, b bit 2048, d bits 1024 to 32, e bits 16 to 2
module _ (h b d e : ℕ) (hb : b < 2) (hd : d < 64) (he : e < 16) where
  off_h : (h * 4096 + b * 2048 + d * 32 + e * 2) / 4096 ≡ h
  off_h = omega arith

  off_b : (h * 4096 + b * 2048 + d * 32 + e * 2) / 2048 % 2 ≡ b
  off_b = omega arith

  off_d : (h * 4096 + b * 2048 + d * 32 + e * 2) / 32 % 64 ≡ d
  off_d = omega arith

  off_e : (h * 4096 + b * 2048 + d * 32 + e * 2) / 2 % 16 ≡ e
  off_e = omega arith

-- and of a jump's, with p and q at bits 32768 and 4096
module _ (h p q b d e : ℕ) (hp : p < 32) (hq : q < 8) (hb : b < 2) (hd : d < 64) (he : e < 16) where
  jmp_h : (h * 1048576 + p * 32768 + q * 4096 + b * 2048 + d * 32 + e * 2) / 1048576 ≡ h
  jmp_h = omega arith

  jmp_p : (h * 1048576 + p * 32768 + q * 4096 + b * 2048 + d * 32 + e * 2) / 32768 % 32 ≡ p
  jmp_p = omega arith

  jmp_q : (h * 1048576 + p * 32768 + q * 4096 + b * 2048 + d * 32 + e * 2) / 4096 % 8 ≡ q
  jmp_q = omega arith

  jmp_b : (h * 1048576 + p * 32768 + q * 4096 + b * 2048 + d * 32 + e * 2) / 2048 % 2 ≡ b
  jmp_b = omega arith

  jmp_d : (h * 1048576 + p * 32768 + q * 4096 + b * 2048 + d * 32 + e * 2) / 32 % 64 ≡ d
  jmp_d = omega arith

  jmp_e : (h * 1048576 + p * 32768 + q * 4096 + b * 2048 + d * 32 + e * 2) / 2 % 16 ≡ e
  jmp_e = omega arith

join₆₄ : (n h d : ℕ) → h ≡ n / 64 → d ≡ n % 64 → h * 64 + d ≡ n
join₆₄ n h d e₁ e₂ = omega arith

join₂ : (n e b : ℕ) → e ≡ n / 2 → b ≡ n % 2 → e * 2 + b ≡ n
join₂ n e b e₁ e₂ = omega arith

mod₂ : (n : ℕ) → n % 2 < 2
mod₂ n = omega arith

mod₆₄ : (n : ℕ) → n % 64 < 64
mod₆₄ n = omega arith

half : (n : ℕ) → n < 32 → n / 2 < 16
half n h = omega arith

-- i is Refused, or its word is the word of the fields
abbrev Back : ℕ → Fields → Instr → Type 0
Back op c i = (i ≡ I.Refused → ⊥) → word_of i ≡ word_from op c

refused : (op : ℕ) (c : Fields) → Back op c I.Refused
refused op c ne = absurd (ne refl)

-- both codes of an op are those of the row
abbrev coded : ℕ → ℕ → ℕ → ℕ → Bool
coded a k b n = eqb a k && eqb b n

codes : (a k b n : ℕ) → T (coded a k b n) → (a ≡ k) × (b ≡ n)
codes a k b n q = let s = both_true (eqb a k) (eqb b n) q in (eqb→eq a k s.0, eqb→eq b n s.1)

module _ (op : ℕ) (c : Fields) (h : SmallFields c) where
  type_i_lem : (f3 : ℕ) → f3 ≡ c.funct3 → word_from op (type_i (imm_i c) c.rs1 f3 c.rd) ≡ word_from op c
  type_i_lem f3 e = same op c _ _ _ _ _ (high c.funct7 c.rs2 h.rs2) (low c.funct7 c.rs2 h.rs2) refl e refl

  type_s_lem : (f3 : ℕ) → f3 ≡ c.funct3 → word_from op (type_s (imm_s c) c.rs2 c.rs1 f3) ≡ word_from op c
  type_s_lem f3 e = same op c _ _ _ _ _ (high c.funct7 c.rd h.rd) refl refl e (low c.funct7 c.rd h.rd)

  type_b_lem : (f3 : ℕ) → f3 ≡ c.funct3 → word_from op (type_b (imm_b c) c.rs2 c.rs1 f3) ≡ word_from op c
  type_b_lem f3 e =
      let H = c.funct7 / 64 in
      let B = c.rd % 2 in
      let D = c.funct7 % 64 in
      let E = c.rd / 2 in
      let hb = mod₂ c.rd in
      let hd = mod₆₄ c.funct7 in
      let he = half c.rd h.rd in
      same op c _ _ _ _ _ (join₆₄ c.funct7 _ _ (off_h H B D E hb hd he) (off_d H B D E hb hd he)) refl refl e
      (join₂ c.rd _ _ (off_e H B D E hb hd he) (off_b H B D E hb hd he))

  type_u_lem : word_from op (type_u (imm_u c) c.rd) ≡ word_from op c
  type_u_lem = same op c _ _ _ _ _ (omega arith) (omega arith) (omega arith) (omega arith) refl

  type_j_lem : word_from op (type_j (imm_j c) c.rd) ≡ word_from op c
  type_j_lem =
      let H = c.funct7 / 64 in
      let P = c.rs1 in
      let Q = c.funct3 in
      let B = c.rs2 % 2 in
      let D = c.funct7 % 64 in
      let E = c.rs2 / 2 in
      let hp = h.rs1 in
      let hq = h.funct3 in
      let hb = mod₂ c.rs2 in
      let hd = mod₆₄ c.funct7 in
      let he = half c.rs2 h.rs2 in
      same op c _ _ _ _ _
      (join₆₄ c.funct7 _ _ (jmp_h H P Q B D E hp hq hb hd he) (jmp_d H P Q B D E hp hq hb hd he))
      (join₂ c.rs2 _ _ (jmp_e H P Q B D E hp hq hb hd he) (jmp_b H P Q B D E hp hq hb hd he))
      (jmp_p H P Q B D E hp hq hb hd he)
      (jmp_q H P Q B D E hp hq hb hd he)
      refl

  -- a table of ops by one code, each of which has its code back
  table_back :
      {A : Type 0} (make : A → Fields → Instr) (code : A → ℕ) (k : ℕ) (t : List (Row A)) → T (every_row (λ a n. eqb (code a) n) t)
      → ((a : A) → code a ≡ k → word_of (make a c) ≡ word_from op c) → Rows (Back op c) (on c) k (as_words make t)
  table_back make code k t q f = rows_tested (Back op c) make (λ a n. eqb (code a) n) c k t q (λ a q ne. f a (eqb→eq (code a) k q))

module _ (c : Fields) (h : SmallFields c) where
  lui_back : Back 0b0110111 c (lui_word c)
  unfolding word_of
  lui_back ne = type_u_lem 0b0110111 c h

  auipc_back : Back 0b0010111 c (auipc_word c)
  unfolding word_of
  auipc_back ne = type_u_lem 0b0010111 c h

  jal_back : Back 0b1101111 c (jal_word c)
  unfolding word_of
  jal_back ne = type_j_lem 0b1101111 c h

  jalr_back : Back 0b1100111 c (jalr_word c)
  unfolding jalr_word word_of
  jalr_back = found (Back 0b1100111 c) (on c) I.Refused c.funct3 jumps (refused _ c) ((λ e ne. type_i_lem 0b1100111 c h 0 (sym e)), tt)

  branch_back : Back 0b1100011 c (branch_word c)
  unfolding branch_word word_of
  branch_back =
      found (Back 0b1100011 c) (on c) I.Refused c.funct3 (as_words branch_as conditions) (refused _ c)
      (table_back 0b1100011 c h branch_as (code_in cond_number conditions) c.funct3 conditions tt (λ o e. type_b_lem 0b1100011 c h _ e))

  load_back : Back 0b0000011 c (load_word c)
  unfolding load_word word_of
  load_back =
      found (Back 0b0000011 c) (on c) I.Refused c.funct3 (as_words load_as loads) (refused _ c)
      (table_back 0b0000011 c h load_as (code_in load_number loads) c.funct3 loads tt (λ o e. type_i_lem 0b0000011 c h _ e))

  store_back : Back 0b0100011 c (store_word c)
  unfolding store_word word_of
  store_back =
      found (Back 0b0100011 c) (on c) I.Refused c.funct3 (as_words store_as stores) (refused _ c)
      (table_back 0b0100011 c h store_as (code_in store_number stores) c.funct3 stores tt (λ o e. type_s_lem 0b0100011 c h _ e))

  -- OP-IMM: the code by funct3, and a shift's by funct7
  immediates_back : Rows (Back 0b0010011 c) (on c) c.funct3 (as_words immediate_as immediates)
  unfolding word_of
  immediates_back =
      rows_tested (Back 0b0010011 c) immediate_as (λ o n. coded (second_of imm_codes o) 0 (first_of imm_codes o) n) c c.funct3 immediates tt
      (λ o q ne.
      let e = codes (second_of imm_codes o) 0 (first_of imm_codes o) c.funct3 q in
      let z : second_of imm_codes o * 32 + imm_i c ≡ imm_i c = omega (arith, e.0) in
      rw z (type_i_lem 0b0010011 c h _ e.1))

  shift_word_lem : (o : Op) → second_of imm_codes o ≡ c.funct7 → first_of imm_codes o ≡ c.funct3 → Back 0b0010011 c (shift_as o c)
  unfolding word_of
  shift_word_lem o e₁ e₂ ne = rw e₁ (type_i_lem 0b0010011 c h _ e₂)

  shift_back :
      (t : List (Row Op)) → T (every_row (λ o n. coded (first_of imm_codes o) c.funct3 (second_of imm_codes o) n) t)
      → Back 0b0010011 c (shift_word t c)
  unfolding shift_word
  shift_back t q =
      found (Back 0b0010011 c) (on c) I.Refused c.funct7 (as_words shift_as t) (refused _ c)
      (rows_tested (Back 0b0010011 c) shift_as (λ o n. coded (first_of imm_codes o) c.funct3 (second_of imm_codes o) n) c c.funct7 t q
      (λ o q. let e = codes (first_of imm_codes o) c.funct3 (second_of imm_codes o) c.funct7 q in shift_word_lem o e.1 e.0))

  abbrev shifts_at : List (Row Op) → ℕ → Type 0
  shifts_at t k = T (every_row (λ o n. coded (first_of imm_codes o) k (second_of imm_codes o) n) t)

  op_imm_back : Back 0b0010011 c (op_imm_word c)
  unfolding op_imm_word
  op_imm_back =
      found (Back 0b0010011 c) (on c) I.Refused c.funct3 (as_words immediate_as immediates ++ shifts) (refused _ c)
      (rows_append (Back 0b0010011 c) (on c) c.funct3 (as_words immediate_as immediates) shifts immediates_back (
        (λ e. shift_back left_shifts (subst (shifts_at left_shifts) (sym e) tt)),
        ((λ e. shift_back right_shifts (subst (shifts_at right_shifts) (sym e) tt)), tt),
      ))

  -- OP: the table by funct7, the row by funct3
  abbrev ops_at : List (Row Op) → ℕ → Bool
  ops_at t k = every_row (λ o n. coded (first_of op_codes o) k (second_of op_codes o) n) t

  by_funct3_back : (t : List (Row Op)) → T (ops_at t c.funct7) → Back 0b0110011 c (by_funct3 t c)
  unfolding by_funct3 word_of
  by_funct3_back t q =
      found (Back 0b0110011 c) (on c) I.Refused c.funct3 (as_words op_as t) (refused _ c)
      (rows_tested (Back 0b0110011 c) op_as (λ o n. coded (first_of op_codes o) c.funct7 (second_of op_codes o) n) c c.funct3 t q
      (λ o q ne.
      let e = codes (first_of op_codes o) c.funct7 (second_of op_codes o) c.funct3 q in
      same 0b0110011 c _ _ _ _ _ e.0 refl refl e.1 refl))

  op_back : Back 0b0110011 c (op_word c)
  unfolding op_word
  op_back =
      found (Back 0b0110011 c) (on c) I.Refused c.funct7 (as_words by_funct3 ops) (refused _ c)
      (rows_tested (Back 0b0110011 c) by_funct3 ops_at c c.funct7 ops tt by_funct3_back)

  fence_back : Back 0b0001111 c (fence_word c)
  unfolding fence_word word_of
  fence_back = found (Back 0b0001111 c) (on c) I.Refused c.funct3 fences (refused _ c) ((λ e ne. type_i_lem 0b0001111 c h 0 (sym e)), tt)

  csr_back : Back 0b1110011 c (csr_word c)
  unfolding csr_word word_of
  csr_back =
      found (Back 0b1110011 c) (on c) I.Refused c.funct3 (as_words csr_as csr_ops ++ as_words csr_imm_as csr_immediates) (refused _ c)
      (rows_append (Back 0b1110011 c) (on c) c.funct3 (as_words csr_as csr_ops) (as_words csr_imm_as csr_immediates)
      (table_back 0b1110011 c h csr_as (code_in csr_number csr_ops) c.funct3 csr_ops tt (λ o e. type_i_lem 0b1110011 c h _ e))
      (table_back 0b1110011 c h csr_imm_as (code_in csr_number csr_immediates) c.funct3 csr_immediates tt
      (λ o e. type_i_lem 0b1110011 c h _ e)))

  -- funct6 and vm make funct7
  with_vm_lem : (n : ℕ) → n ≡ funct6 c → (t : Bool) → is_masked c ≡ t → with_vm t n ≡ c.funct7
  with_vm_lem n e true q = omega (arith, eqb-true (vm c) 0 q)
  with_vm_lem n e false q = omega (arith, eqb-false (vm c) 0 q)

  is_one : vm c ≡ 1 → is_masked c ≡ false
  is_one q = rw q

  -- the vector words: by the last operand, whose form is funct3
  formed_back :
      (s : Source) (g : ℕ) → field_of s ≡ c.rs1 → operand_code g s ≡ c.funct3
      → (t : List (Row OpForms)) → T (every_row (λ f n. coded (first_of vector_codes f.op) g (second_of vector_codes f.op) n) t)
      → Rows (Back 0b1010111 c) (on c) (funct6 c) (as_words (vector_as s) t)
  unfolding word_of
  formed_back s g r o t q =
      rows_tested (Back 0b1010111 c) (vector_as s) (λ f n. coded (first_of vector_codes f.op) g (second_of vector_codes f.op) n) c
      (funct6 c) t q
      (λ f q.
      let e = codes (first_of vector_codes f.op) g (second_of vector_codes f.op) (funct6 c) q in
      either_at (Back 0b1010111 c) (has s f) _ I.Refused
      (λ t ne. same 0b1010111 c _ _ _ _ _ (with_vm_lem _ e.1 (is_masked c) refl) refl r (rw e.0 o) refl) (λ t. refused _ c))

  -- vmerge or vmv.v
  move_back : (s : Source) → field_of s ≡ c.rs1 → operand_code 0 s ≡ c.funct3 → funct6 c ≡ 0b010111 → Back 0b1010111 c (move_word s c)
  unfolding word_of
  move_back s r o e =
      either_at (Back 0b1010111 c) (is_masked c) _ _ (λ q ne. same 0b1010111 c _ _ _ _ _ (with_vm_lem _ (sym e) true q) refl r o refl)
      (λ q. fixed_at_lem (Back 0b1010111 c) c.rs2 0 _ (refused _ c)
      (λ z ne. same 0b1010111 c _ _ _ _ _ (with_vm_lem _ (sym e) false q) (sym z) r o refl))

  plain_back : (s : Source) → field_of s ≡ c.rs1 → operand_code 0 s ≡ c.funct3 → Back 0b1010111 c (plain_word s c)
  unfolding plain_word
  plain_back s r o =
      found (Back 0b1010111 c) (on c) I.Refused (funct6 c) (moves s ++ as_words (vector_as s) vector_table) (refused _ c)
      (rows_append (Back 0b1010111 c) (on c) (funct6 c) (moves s) (as_words (vector_as s) vector_table) ((λ e. move_back s r o e), tt)
      (formed_back s 0 r o vector_table tt))

  moves_m_back : (s : Source) → operand_code 2 s ≡ c.funct3 → Rows (Back 0b1010111 c) (on c) (funct6 c) (moves_m s)
  unfolding word_of
  moves_m_back (From.V a) o = (
    (λ e.
        fixed_at_lem (Back 0b1010111 c) (vm c) 1 _ (refused _ c)
        (λ m. fixed_at_lem (Back 0b1010111 c) c.rs1 0 _ (refused _ c)
        (λ z ne. same 0b1010111 c _ _ _ _ _ (with_vm_lem _ (sym e) false (is_one m)) refl (sym z) o refl))),
    (
      (λ e.
          fixed_at_lem (Back 0b1010111 c) c.rs2 0 _ (refused _ c)
          (λ y. fixed_at_lem (Back 0b1010111 c) c.rs1 0b10001 _ (refused _ c)
          (λ z ne. same 0b1010111 c _ _ _ _ _ (with_vm_lem _ (sym e) (is_masked c) refl) (sym y) (sym z) o refl))),
      tt,
    ),
  )
  moves_m_back (From.X a) o = (
    (λ e.
        fixed_at_lem (Back 0b1010111 c) (vm c) 1 _ (refused _ c)
        (λ m. fixed_at_lem (Back 0b1010111 c) c.rs2 0 _ (refused _ c)
        (λ z ne. same 0b1010111 c _ _ _ _ _ (with_vm_lem _ (sym e) false (is_one m)) (sym z) refl o refl))),
    tt,
  )
  moves_m_back (From.I n) o = tt
  moves_m_back (From.Long n) o = tt

  multiply_back : (s : Source) → field_of s ≡ c.rs1 → operand_code 2 s ≡ c.funct3 → Back 0b1010111 c (multiply_word s c)
  unfolding multiply_word
  multiply_back s r o =
      found (Back 0b1010111 c) (on c) I.Refused (funct6 c) (moves_m s ++ as_words (vector_as s) multiply_table) (refused _ c)
      (rows_append (Back 0b1010111 c) (on c) (funct6 c) (moves_m s) (as_words (vector_as s) multiply_table) (moves_m_back s o)
      (formed_back s 2 r o multiply_table tt))

  vector_back : Back 0b1010111 c (vector_word c)
  unfolding vector_word
  vector_back =
      found (Back 0b1010111 c) (on c) I.Refused c.funct3 operands (refused _ c) (
        (λ e. plain_back (from_v c) refl (sym e)),
        (
          (λ e. plain_back (from_i c) refl (sym e)),
          (
            (λ e. plain_back (from_x c) refl (sym e)),
            ((λ e. multiply_back (from_v c) refl (sym e)), ((λ e. multiply_back (from_x c) refl (sym e)), tt)),
          ),
        ),
      )

  join_back : c.funct3 ≡ 2 → Back 0b1011011 c (join_word c)
  unfolding join_word word_of
  join_back e =
      fixed_at_lem (Back 0b1011011 c) c.funct7 0 _ (refused _ c)
      (λ f. fixed_at_lem (Back 0b1011011 c) c.rs2 0 _ (refused _ c)
      (λ s. fixed_at_lem (Back 0b1011011 c) c.rs1 0 _ (refused _ c)
      (λ r. fixed_at_lem (Back 0b1011011 c) c.rd 0 I.Join (refused _ c)
      (λ d ne. same 0b1011011 c 0 0 0 2 0 (sym f) (sym s) (sym r) (sym e) (sym d)))))

  splits_back : Back 0b1011011 c (splits_word c)
  unfolding splits_word word_of
  splits_back =
      found (Back 0b1011011 c) (on c) I.Refused c.funct3 (as_words vbranch_as conditions ++ joins) (refused _ c)
      (rows_append (Back 0b1011011 c) (on c) c.funct3 (as_words vbranch_as conditions) joins
      (table_back 0b1011011 c h vbranch_as (code_in cond_number conditions) c.funct3 conditions tt (λ o e. type_b_lem 0b1011011 c h _ e))
      ((λ e. join_back e), ((λ e ne. type_i_lem 0b1011011 c h 3 (sym e)), tt)))

  stop_back : c.funct3 ≡ 0b100 → Back 0b0001011 c (stop_word c)
  unfolding stop_word end_prg_word barrier_word word_of
  stop_back f =
      found (Back 0b0001011 c) (on c) I.Refused c.funct7 stops (refused _ c) (
        (λ e. fixed_at_lem (Back 0b0001011 c) c.rs2 0 _ (refused _ c)
            (λ s. fixed_at_lem (Back 0b0001011 c) c.rs1 0 _ (refused _ c)
            (λ r. fixed_at_lem (Back 0b0001011 c) c.rd 0 I.EndPrg (refused _ c)
            (λ d ne. same 0b0001011 c 0 0 0 4 0 (sym e) (sym s) (sym r) (sym f) (sym d))))),
        (
          (λ e. fixed_at_lem (Back 0b0001011 c) c.rs2 0 _ (refused _ c)
              (λ s. fixed_at_lem (Back 0b0001011 c) c.rd 0 (I.Barrier c.rs1) (refused _ c)
              (λ d ne. same 0b0001011 c 2 0 c.rs1 4 0 (sym e) (sym s) refl (sym f) (sym d)))),
          tt,
        ),
      )

  -- a prefix, of whose word the fields of rs1 and rd are 0
  prefix_back :
      (f3 : ℕ) (make : ℕ → Instr) → (word_of (make (imm_i c)) ≡ word_from 0b0001011 (type_i (imm_i c) 0 f3 0)) → c.funct3 ≡ f3
      → Back 0b0001011 c (prefix_word make c)
  unfolding prefix_word
  prefix_back f3 make m f =
      fixed_at_lem (Back 0b0001011 c) c.rs1 0 _ (refused _ c)
      (λ r. fixed_at_lem (Back 0b0001011 c) c.rd 0 _ (refused _ c)
      (λ d ne.
      m
      ∙ same 0b0001011 c _ _ _ _ _ (high c.funct7 c.rs2 h.rs2) (low c.funct7 c.rs2 h.rs2) (sym r) (sym f) (sym d)))

  warp_back : Back 0b0001011 c (warp_word c)
  unfolding warp_word word_of
  warp_back =
      found (Back 0b0001011 c) (on c) I.Refused c.funct3 warp_words (refused _ c)
      ((λ f. stop_back f), ((λ f. prefix_back 2 I.RegExt refl f), ((λ f. prefix_back 3 I.RegExtI refl f), tt)))

  -- loads and stores of lanes
  accesses_back :
      (op : ℕ) (load : LoadOp → Fields → Instr) (store : StoreOp → Fields → Instr)
      → ((o : LoadOp) → code_in load_number loads o ≡ c.funct3 → word_of (load o c) ≡ word_from op c)
      → ((o : StoreOp) → code_in store_number vstores o ≡ c.funct3 → word_of (store o c) ≡ word_from op c)
      → Back op c (word_at c c.funct3 (accesses load store))
  accesses_back op load store l s =
      found (Back op c) (on c) I.Refused c.funct3 (accesses load store) (refused _ c)
      (rows_append (Back op c) (on c) c.funct3 (as_words load loads) (as_words store vstores)
      (table_back op c h load (code_in load_number loads) c.funct3 loads tt l)
      (table_back op c h store (code_in store_number vstores) c.funct3 vstores tt s))

  lane_access_back : Back 0b1111011 c (lane_access_word c)
  unfolding lane_access_word word_of
  lane_access_back = accesses_back 0b1111011 vload_as vstore_as (λ o e. type_i_lem 0b1111011 c h _ e) (λ o e. type_s_lem 0b1111011 c h _ e)

  private_back : Back 0b0101011 c (private_word c)
  unfolding private_word word_of
  private_back =
      fixed_at_lem (Back 0b0101011 c) (c.funct7 / 64) 0 _ (refused _ c)
      (λ z.
      let l : private_load_offset c ≡ imm_i c = omega arith in
      let s : private_store_offset c ≡ imm_s c = omega arith in
      accesses_back 0b0101011 pload_as pstore_as (λ o e. rw l (type_i_lem 0b0101011 c h _ e)) (λ o e. rw s (type_s_lem 0b0101011 c h _ e)))

-- every word that is not Refused is the word of its own instruction
pub back : (w : ℕ) → w < 2 ^ 32 → (decode_of w ≡ I.Refused → ⊥) → word_of (decode_of w) ≡ w
unfolding decode_of
back w b ne =
    let c = fields_of w in
    let h = small w in
    let at : (n : ℕ) (i : Instr) → Back n c i → w % 2 ^ 7 ≡ n → Back (w % 2 ^ 7) c i =
    λ n i b e. subst (λ (m : ℕ). Back m c i) (sym e) b in
    found (Back (w % 2 ^ 7) c) (on c) I.Refused (w % 2 ^ 7) opcodes (refused _ c) (
      at 0b0110111 _ (lui_back c h),
      (
        at 0b0010111 _ (auipc_back c h),
        (
          at 0b1101111 _ (jal_back c h),
          (
            at 0b1100111 _ (jalr_back c h),
            (
              at 0b1100011 _ (branch_back c h),
              (
                at 0b0000011 _ (load_back c h),
                (
                  at 0b0100011 _ (store_back c h),
                  (
                    at 0b0010011 _ (op_imm_back c h),
                    (
                      at 0b0110011 _ (op_back c h),
                      (
                        at 0b0001111 _ (fence_back c h),
                        (
                          at 0b1110011 _ (csr_back c h),
                          (
                            at 0b1010111 _ (vector_back c h),
                            (
                              at 0b1011011 _ (splits_back c h),
                              (
                                at 0b0001011 _ (warp_back c h),
                                (at 0b1111011 _ (lane_access_back c h), (at 0b0101011 _ (private_back c h), tt)),
                              ),
                            ),
                          ),
                        ),
                      ),
                    ),
                  ),
                ),
              ),
            ),
          ),
        ),
      ),
    )
    ne ∙ whole w b
