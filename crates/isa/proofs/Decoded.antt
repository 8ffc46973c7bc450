-- What a word decodes to fits (Fits.antt).
use Prim.Native.Nat.{ℕ, ◌/◌, ◌%◌, ◌^◌, ◌<◌}
use mathlib.Core.Path.{◌≡◌, refl}
use mathlib.Core.List.{List, [], ◌∷◌, ◌++◌}
use mathlib.Core.Bool.{Bool, true, false, cond, not, ◌&&◌, ◌||◌}
use native.Mathlib.Omega.{arith}
use lib.Dec.{T}
use borrow.Author.Tests.{lt-ltb}
use Rattle.answer.specs.Rows.{Row}
use Rattle.word.specs.declared.Op.{Op}
use Rattle.isa.specs.declared.LoadOp.{LoadOp}
use Rattle.isa.specs.declared.StoreOp.{StoreOp}
use Rattle.isa.specs.declared.Source.{Source}
use Rattle.isa.specs.declared.Source.TheVariants as From
use Rattle.isa.specs.declared.Instr.{Instr}
use Rattle.isa.specs.declared.Instr.TheVariants as I
use Rattle.isa.specs.Bounds.{field_limit}
use Rattle.isa.specs.Fields.{Fields, x, v, fields_of, funct6, vm, is_masked, imm_i}
use Rattle.isa.specs.Table.{on, word_at, as_words, fixed}
use Rattle.isa.specs.Scalar.{lui_word, auipc_word, jal_word, jumps, jalr_word, conditions, branch_as, branch_word, loads, load_as, load_word, stores, store_as, store_word, immediates, left_shifts, right_shifts, immediate_as, shift_as, shift_word, shifts, op_imm_word, base, multiplies, alternates, op_as, by_funct3, ops, op_word, fences, fence_word, csr_ops, csr_immediates, csr_as, csr_imm_as, csr_word}
use Rattle.isa.specs.Vector.{OpForms, vector_table, multiply_table, has, vector_as, moves, plain_word, moves_m, multiply_word, operands, vector_word}
use Rattle.isa.specs.Ventus.{vbranch_as, join_word, joins, splits_word, end_prg_word, barrier_word, stops, stop_word, prefix_word, warp_words, warp_word, vstores, accesses, vload_as, vstore_as, lane_access_word, pload_as, pstore_as, private_word}
use Rattle.isa.specs.Decode.{opcodes, decode_of}
use Rattle.isa.specs.Fits.{Range, ◌under◌, ◌listed◌, is_in, field_of, source_limit, shift_ops, vector_ops, ranges_of, holds_all, fits_of, AllHold, Fits}
use Rattle.isa.proofs.Laws.{both_true, Rows, found, rows_append, every_row, rows_tested, either_at, fixed_at_lem}

-- the fields are those of a word; funct7 is what is left
pub record SmallFields (c : Fields) : Type 0 where
  pub rd : c.rd < field_limit
  pub funct3 : c.funct3 < 8
  pub rs1 : c.rs1 < field_limit
  pub rs2 : c.rs2 < field_limit

pub small : (w : ℕ) → SmallFields (fields_of w)
small w = record { rd = omega arith; funct3 = omega arith; rs1 = omega arith; rs2 = omega arith }

-- the facts of a list of ranges make its test true
true_of : (b : Bool) → T b → b ≡ true
true_of true t = refl
true_of false t = absurd t

all_hold : (rs : List Range) → AllHold rs → holds_all rs ≡ true
all_hold [] h = refl
all_hold ((n under k) ∷ rs) h = rw (lt-ltb n k h.0) (all_hold rs h.1)
all_hold ((o listed t) ∷ rs) h = rw (true_of (is_in o t) h.0) (all_hold rs h.1)

no_amount : (b : Bool) (n : ℕ) → T (not b) → cond b n 0 < field_limit
no_amount true n t = absurd t
no_amount false n t = omega arith

an_amount : (b : Bool) (n : ℕ) → n < field_limit → cond b n 0 < field_limit
an_amount true n h = h
an_amount false n h = omega arith

-- each op that has the form is in the list of those that have it
abbrev formed_in : Source → OpForms → ℕ → Bool
formed_in s f n = not (has s f) || is_in f.op (vector_ops s)

plain_ops : (s : Source) → T (every_row (formed_in s) vector_table)
plain_ops (From.V r) = tt
plain_ops (From.X r) = tt
plain_ops (From.I n) = tt
plain_ops (From.Long n) = tt

multiply_ops : (s : Source) → T (every_row (formed_in s) multiply_table)
multiply_ops (From.V r) = tt
multiply_ops (From.X r) = tt
multiply_ops (From.I n) = tt
multiply_ops (From.Long n) = tt

where_formed : (i : Instr) (b l : Bool) → T (not b || l) → (T l → Fits i) → Fits (cond b i I.Refused)
where_formed i true l t f = f t
where_formed i false l t f = tt

module _ (c : Fields) (h : SmallFields c) (top : c.funct7 < 128) where
  lui_fits : Fits (lui_word c)
  lui_fits = (h.rd, (omega arith, tt))

  auipc_fits : Fits (auipc_word c)
  auipc_fits = (h.rd, (omega arith, tt))

  jal_fits : Fits (jal_word c)
  jal_fits = (h.rd, (omega arith, (omega arith, tt)))

  jalr_fits : Fits (jalr_word c)
  unfolding jalr_word
  jalr_fits = found Fits (on c) I.Refused c.funct3 jumps tt ((λ e. (h.rd, (h.rs1, (omega arith, tt)))), tt)

  -- a table of ops whose words all fit
  ops_fit :
      {A : Type 0} (make : A → Fields → Instr) (k : ℕ) (t : List (Row A)) → T (every_row (λ a n. true) t) → ((a : A) → Fits (make a c))
      → Rows Fits (on c) k (as_words make t)
  ops_fit make k t q f = rows_tested Fits make (λ a n. true) c k t q (λ a q. f a)

  branch_fits : Fits (branch_word c)
  unfolding branch_word
  branch_fits =
      found Fits (on c) I.Refused c.funct3 (as_words branch_as conditions) tt
      (ops_fit branch_as c.funct3 conditions tt (λ o. (h.rs1, (h.rs2, (omega arith, (omega arith, tt))))))

  load_fits : Fits (load_word c)
  unfolding load_word
  load_fits =
      found Fits (on c) I.Refused c.funct3 (as_words load_as loads) tt
      (ops_fit load_as c.funct3 loads tt (λ o. (h.rd, (h.rs1, (omega arith, tt)))))

  store_fits : Fits (store_word c)
  unfolding store_word
  store_fits =
      found Fits (on c) I.Refused c.funct3 (as_words store_as stores) tt
      (ops_fit store_as c.funct3 stores tt (λ o. (h.rs1, (h.rs2, (omega arith, tt)))))

  abbrev imm_ops : List (Row Op)
  imm_ops = immediates ++ shift_ops

  immediates_fit : Rows Fits (on c) c.funct3 (as_words immediate_as immediates)
  immediates_fit =
      rows_tested Fits immediate_as (λ o n. not (is_in o shift_ops) && is_in o imm_ops) c c.funct3 immediates tt
      (λ o q.
      let s = both_true (not (is_in o shift_ops)) (is_in o imm_ops) q in
      (h.rd, (h.rs1, (omega arith, (no_amount (is_in o shift_ops) _ s.0, (s.1, tt))))))

  shift_fits : (t : List (Row Op)) → T (every_row (λ o n. is_in o imm_ops) t) → Fits (shift_word t c)
  unfolding shift_word
  shift_fits t q =
      found Fits (on c) I.Refused c.funct7 (as_words shift_as t) tt
      (rows_tested Fits shift_as (λ o n. is_in o imm_ops) c c.funct7 t q
      (λ o q. (h.rd, (h.rs1, (omega (arith, h.rs2), (an_amount (is_in o shift_ops) c.rs2 h.rs2, (q, tt)))))))

  op_imm_fits : Fits (op_imm_word c)
  unfolding op_imm_word
  op_imm_fits =
      found Fits (on c) I.Refused c.funct3 (as_words immediate_as immediates ++ shifts) tt
      (rows_append Fits (on c) c.funct3 (as_words immediate_as immediates) shifts immediates_fit
      ((λ e. shift_fits left_shifts tt), ((λ e. shift_fits right_shifts tt), tt)))

  abbrev reg_ops : List (Row Op)
  reg_ops = base ++ multiplies ++ alternates

  by_funct3_fits : (t : List (Row Op)) → T (every_row (λ o n. is_in o reg_ops) t) → Fits (by_funct3 t c)
  unfolding by_funct3
  by_funct3_fits t q =
      found Fits (on c) I.Refused c.funct3 (as_words op_as t) tt
      (rows_tested Fits op_as (λ o n. is_in o reg_ops) c c.funct3 t q (λ o q. (h.rd, (h.rs1, (h.rs2, (q, tt))))))

  op_fits : Fits (op_word c)
  unfolding op_word
  op_fits =
      found Fits (on c) I.Refused c.funct7 (as_words by_funct3 ops) tt
      (rows_tested Fits by_funct3 (λ t n. every_row (λ o n. is_in o reg_ops) t) c c.funct7 ops tt by_funct3_fits)

  fence_fits : Fits (fence_word c)
  unfolding fence_word
  fence_fits = found Fits (on c) I.Refused c.funct3 fences tt ((λ e. (h.rd, (h.rs1, (omega arith, tt)))), tt)

  csr_fits : Fits (csr_word c)
  unfolding csr_word
  csr_fits =
      found Fits (on c) I.Refused c.funct3 (as_words csr_as csr_ops ++ as_words csr_imm_as csr_immediates) tt
      (rows_append Fits (on c) c.funct3 (as_words csr_as csr_ops) (as_words csr_imm_as csr_immediates)
      (ops_fit csr_as c.funct3 csr_ops tt (λ o. (h.rd, (h.rs1, (omega arith, tt)))))
      (ops_fit csr_imm_as c.funct3 csr_immediates tt (λ o. (h.rd, (h.rs1, (omega arith, tt))))))

  -- a row of fixed fields: what is left where each has its value
  fixed_fits : (n k : ℕ) (i : Instr) → Fits i → Fits (fixed n k i)
  fixed_fits n k i f = fixed_at_lem Fits n k i tt (λ e. f)

  -- the vector words, by the last operand
  vector_rows :
      (s : Source) (t : List (Row OpForms)) → field_of s < source_limit s → T (every_row (formed_in s) t)
      → Rows Fits (on c) (funct6 c) (as_words (vector_as s) t)
  vector_rows s t z q =
      rows_tested Fits (vector_as s) (formed_in s) c (funct6 c) t q
      (λ f q. where_formed _ (has s f) (is_in f.op (vector_ops s)) q (λ l. (h.rd, (h.rs2, (z, (l, tt))))))

  plain_fits : (s : Source) → field_of s < source_limit s → Fits (plain_word s c)
  unfolding plain_word
  plain_fits s z =
      found Fits (on c) I.Refused (funct6 c) (moves s ++ as_words (vector_as s) vector_table) tt
      (rows_append Fits (on c) (funct6 c) (moves s) (as_words (vector_as s) vector_table)
      ((λ e. either_at Fits (is_masked c) _ _ (λ t. (h.rd, (h.rs2, (z, tt)))) (λ t. fixed_fits c.rs2 0 (I.VMove (v c.rd) s) (h.rd, (z, tt)))), tt)
      (vector_rows s vector_table z (plain_ops s)))

  moves_m_fit : (s : Source) → Rows Fits (on c) (funct6 c) (moves_m s)
  moves_m_fit (From.V r) = (
    (λ e. fixed_fits (vm c) 1 _ (fixed_fits c.rs1 0 _ (h.rd, (h.rs2, tt)))),
    ((λ e. fixed_fits c.rs2 0 _ (fixed_fits c.rs1 0b10001 _ (h.rd, tt))), tt),
  )
  moves_m_fit (From.X r) = ((λ e. fixed_fits (vm c) 1 _ (fixed_fits c.rs2 0 _ (h.rd, (h.rs1, tt)))), tt)
  moves_m_fit (From.I n) = tt
  moves_m_fit (From.Long n) = tt

  multiply_fits : (s : Source) → field_of s < source_limit s → Fits (multiply_word s c)
  unfolding multiply_word
  multiply_fits s z =
      found Fits (on c) I.Refused (funct6 c) (moves_m s ++ as_words (vector_as s) multiply_table) tt
      (rows_append Fits (on c) (funct6 c) (moves_m s) (as_words (vector_as s) multiply_table) (moves_m_fit s)
      (vector_rows s multiply_table z (multiply_ops s)))

  vector_fits : Fits (vector_word c)
  unfolding vector_word
  vector_fits =
      found Fits (on c) I.Refused c.funct3 operands tt (
        (λ e. plain_fits (From.V (v c.rs1)) h.rs1),
        (
          (λ e. plain_fits (From.I c.rs1) h.rs1),
          (
            (λ e. plain_fits (From.X (x c.rs1)) h.rs1),
            (
              (λ e. multiply_fits (From.V (v c.rs1)) h.rs1),
              ((λ e. multiply_fits (From.X (x c.rs1)) h.rs1), tt),
            ),
          ),
        ),
      )

  join_fits : Fits (join_word c)
  unfolding join_word
  join_fits =
      fixed_fits c.funct7 0 _ (fixed_fits c.rs2 0 _ (fixed_fits c.rs1 0 _ (fixed_fits c.rd 0 I.Join tt)))

  splits_fit : Fits (splits_word c)
  unfolding splits_word
  splits_fit =
      found Fits (on c) I.Refused c.funct3 (as_words vbranch_as conditions ++ joins) tt
      (rows_append Fits (on c) c.funct3 (as_words vbranch_as conditions) joins
      (ops_fit vbranch_as c.funct3 conditions tt (λ o. (h.rs1, (h.rs2, (omega arith, (omega arith, tt))))))
      ((λ e. join_fits), ((λ e. (h.rd, (h.rs1, (omega arith, tt)))), tt)))

  end_prg_fits : Fits (end_prg_word c)
  unfolding end_prg_word
  end_prg_fits = fixed_fits c.rs2 0 _ (fixed_fits c.rs1 0 _ (fixed_fits c.rd 0 I.EndPrg tt))

  barrier_fits : Fits (barrier_word c)
  unfolding barrier_word
  barrier_fits = fixed_fits c.rs2 0 _ (fixed_fits c.rd 0 (I.Barrier c.rs1) (h.rs1, tt))

  stop_fits : Fits (stop_word c)
  unfolding stop_word
  stop_fits = found Fits (on c) I.Refused c.funct7 stops tt ((λ e. end_prg_fits), ((λ e. barrier_fits), tt))

  prefix_fits : (make : ℕ → Instr) → Fits (make (imm_i c)) → Fits (prefix_word make c)
  unfolding prefix_word
  prefix_fits make f = fixed_fits c.rs1 0 _ (fixed_fits c.rd 0 (make (imm_i c)) f)

  warp_fits : Fits (warp_word c)
  unfolding warp_word
  warp_fits =
      found Fits (on c) I.Refused c.funct3 warp_words tt
      ((λ e. stop_fits), ((λ e. prefix_fits I.RegExt (omega arith, tt)), ((λ e. prefix_fits I.RegExtI (omega arith, tt)), tt)))

  -- loads and stores of lanes, where their offsets fit
  accesses_fit :
      (load : LoadOp → Fields → Instr) (store : StoreOp → Fields → Instr) → ((o : LoadOp) → Fits (load o c))
      → ((o : StoreOp) → Fits (store o c)) → Fits (word_at c c.funct3 (accesses load store))
  accesses_fit load store l s =
      found Fits (on c) I.Refused c.funct3 (accesses load store) tt
      (rows_append Fits (on c) c.funct3 (as_words load loads) (as_words store vstores) (ops_fit load c.funct3 loads tt l)
      (ops_fit store c.funct3 vstores tt s))

  lane_access_fits : Fits (lane_access_word c)
  unfolding lane_access_word
  lane_access_fits =
      accesses_fit vload_as vstore_as (λ o. (h.rd, (h.rs1, (omega arith, tt)))) (λ o. (h.rs1, (h.rs2, (omega arith, tt))))

  private_fits : Fits (private_word c)
  unfolding private_word
  private_fits =
      fixed_at_lem Fits (c.funct7 / 64) 0 _ tt
      (λ e. accesses_fit pload_as pstore_as (λ o. (h.rd, (h.rs1, (omega arith, tt)))) (λ o. (h.rs1, (h.rs2, (omega arith, tt)))))

-- every register and immediate of a decoded word is in its range
pub decoded : (w : ℕ) → Fits (decode_of w)
unfolding decode_of
decoded w =
    let c = fields_of w in
    let h = small w in
    let t : c.funct7 < 128 = omega arith in
    found Fits (on c) I.Refused (w % 2 ^ 7) opcodes tt (
      (λ e. lui_fits c h t),
      (
        (λ e. auipc_fits c h t),
        (
          (λ e. jal_fits c h t),
          (
            (λ e. jalr_fits c h t),
            (
              (λ e. branch_fits c h t),
              (
                (λ e. load_fits c h t),
                (
                  (λ e. store_fits c h t),
                  (
                    (λ e. op_imm_fits c h t),
                    (
                      (λ e. op_fits c h t),
                      (
                        (λ e. fence_fits c h t),
                        (
                          (λ e. csr_fits c h t),
                          (
                            (λ e. vector_fits c h t),
                            (
                              (λ e. splits_fit c h t),
                              ((λ e. warp_fits c h t), ((λ e. lane_access_fits c h t), ((λ e. private_fits c h t), tt))),
                            ),
                          ),
                        ),
                      ),
                    ),
                  ),
                ),
              ),
            ),
          ),
        ),
      ),
    )

pub decoded_fits : (w : ℕ) → fits_of (decode_of w) ≡ true
decoded_fits w = all_hold (ranges_of (decode_of w)) (decoded w)
