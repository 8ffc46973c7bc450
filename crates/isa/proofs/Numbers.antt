-- The numbers above a word: the instruction that is read with them is the word's own, or the one that its prefix makes of it.
use Prim.Native.Nat.{ℕ, ◌+◌, ◌*◌, ◌/◌, ◌%◌, ◌^◌, ◌<◌}
use mathlib.Core.Path.{◌≡◌, refl, ap, subst, ◌∙◌}
use mathlib.Core.List.{[], ◌∷◌, ◌++◌}
use mathlib.Core.Bool.{Bool, true, false, cond}
use native.Mathlib.Omega.{arith}
use lib.Dec.{eqb, leb, ltb}
use lib.ListN.{drop}
use Rattle.answer.specs.Rows.{◌⇒◌}
use Rattle.word.specs.declared.Op.{Op}
use Rattle.isa.specs.declared.Source.{Source}
use Rattle.isa.specs.declared.Source.TheVariants as From
use Rattle.isa.specs.declared.Space.{Space}
use Rattle.isa.specs.declared.LoadOp.{LoadOp}
use Rattle.isa.specs.declared.StoreOp.{StoreOp}
use Rattle.isa.specs.declared.Prefix.{Prefix}
use Rattle.isa.specs.declared.Instr.{Instr}
use Rattle.isa.specs.declared.Instr.TheVariants as I
use Rattle.isa.specs.Bounds.{scalar_registers}
use Rattle.isa.specs.Fields.{Fields, x, v, fields_of}
use Rattle.isa.specs.Table.{on, word_at}
use Rattle.isa.specs.Scalar.{immediate_as, shift_as, op_as, csr_as, csr_imm_as}
use Rattle.isa.specs.Vector.{from_v, from_x, from_i}
use Rattle.isa.specs.Number.{op_at}
use Rattle.isa.specs.Kinds.{csr_op_of, any_csr_word, source_in, lane_op_word, scalar_groups, lane_groups, groups, of_sums, of_products, of_registers, of_immediates, vector_kinds, op_limit, row_of, instr_of}
use Rattle.isa.specs.Prefix.{OnFields, reg_ext, by_digits, ext_of, ext_iof, digits_of, on_source, on_fields, takes_by, takes_of}
use Rattle.isa.specs.Wide.{wide_word, plain_wide, widened, numbers_in, wide_of}
use Rattle.isa.proofs.Laws.{Rows, found, rows_append}
use Rattle.isa.proofs.Decoded.{small}
use Rattle.isa.proofs.Digits.{ScalarsOf, zero_digits}

-- f gives what g gives of the fields c; of a scalar register, where there is such a register
record AgreeAt (c : Fields) (f g : OnFields) : Type 0 where
  xd : (g.xd (x c.rd)).0 < scalar_registers → f.xd (x c.rd) ≡ g.xd (x c.rd)
  x1 : (g.x1 (x c.rs1)).0 < scalar_registers → f.x1 (x c.rs1) ≡ g.x1 (x c.rs1)
  x2 : (g.x2 (x c.rs2)).0 < scalar_registers → f.x2 (x c.rs2) ≡ g.x2 (x c.rs2)
  vd : f.vd (v c.rd) ≡ g.vd (v c.rd)
  v1 : f.v1 (v c.rs1) ≡ g.v1 (v c.rs1)
  v2 : f.v2 (v c.rs2) ≡ g.v2 (v c.rs2)
  imm : f.imm c.rs1 ≡ g.imm c.rs1

-- every row of the kinds makes its instruction of the fields alone, so that they give the same instruction
module _ (c : Fields) (f g : OnFields) (h : AgreeAt c f g) where
  abbrev P : Instr → Type 0
  P i = ScalarsOf (takes_of (on_fields g i)) → on_fields f i ≡ on_fields g i

  abbrev S : Source → Type 0
  S s = ScalarsOf (takes_by (on_source g s)) → on_source f s ≡ on_source g s

  from_v_lem : S (from_v c)
  from_v_lem t = rw h.v1

  from_x_lem : S (from_x c)
  from_x_lem t = rw (h.x1 t.0)

  from_i_lem : S (from_i c)
  from_i_lem t = h.imm

  source_agrees : S (source_in c)
  unfolding source_in
  source_agrees =
      found S (λ (s : Source). s) (from_x c) c.funct3 (0b000 ⇒ from_v c ∷ 0b010 ⇒ from_v c ∷ 0b011 ⇒ from_i c ∷ []) from_x_lem
      ((λ e. from_v_lem), ((λ e. from_v_lem), ((λ e. from_i_lem), tt)))

  csr_agrees : P (any_csr_word c)
  unfolding any_csr_word
  csr_agrees = go (ltb c.funct3 0b100)
    where
      go : (b : Bool) → P (cond b (csr_as (csr_op_of c) c) (csr_imm_as (csr_op_of c) c))
      go true t = rw (h.xd t.0, h.x1 t.1.0)
      go false t = rw (h.xd t.0)

  of_registers_lem : (o : Op) → P (op_as o c)
  of_registers_lem o t = rw (h.xd t.0, h.x1 t.1.0, h.x2 t.1.1.0)

  of_immediate : (o : Op) → P (immediate_as o c)
  of_immediate o t = rw (h.xd t.0, h.x1 t.1.0)

  shift : (o : Op) → P (shift_as o c)
  shift o t = rw (h.xd t.0, h.x1 t.1.0)

  lane_op : (o : Op) → P (lane_op_word o c)
  lane_op o t = rw (h.vd, h.v2, source_agrees t)

  lane_load : (s : Space) (o : LoadOp) (n : ℕ) → P (I.VLoad s o (v c.rd) (v c.rs1) n)
  lane_load s o n t = rw (h.vd, h.v1)

  lane_store : (s : Space) (o : StoreOp) (n : ℕ) → P (I.VStore s o (v c.rs1) (v c.rs2) n)
  lane_store s o n t = rw (h.v1, h.v2)

  module _ (k : ℕ) where
    scalar_rows : Rows P (on c) k scalar_groups
    scalar_rows = (
      (λ e t. rw (h.xd t.0)),
      (
        (λ e t. rw (h.xd t.0)),
        (
          (λ e t. rw (h.xd t.0)),
          (
            (λ e t. rw (h.xd t.0, h.x1 t.1.0)),
            (
              (λ e t. rw (h.x1 t.0, h.x2 t.1.0)),
              (
                (λ e t. rw (h.xd t.0, h.x1 t.1.0)),
                ((λ e t. rw (h.x1 t.0, h.x2 t.1.0)), ((λ e t. refl), ((λ e. csr_agrees), tt))),
              ),
            ),
          ),
        ),
      ),
    )

    stop_rows : Rows P (on c) k (drop 6 lane_groups)
    stop_rows = (
      (λ e t. refl),
      (
        (λ e t. refl),
        (
          (λ e t. refl),
          (
            (λ e t. rw (h.xd t.0, h.v2)),
            (
              (λ e t. rw (h.vd, h.x1 t.0)),
              (
                (λ e t. rw h.vd),
                ((λ e t. rw (h.vd, source_agrees t)), ((λ e t. refl), ((λ e t. refl), ((λ e t. rw (h.vd, h.v2, source_agrees t)), tt)))),
              ),
            ),
          ),
        ),
      ),
    )

    lane_rows : Rows P (on c) k lane_groups
    lane_rows = (
      (λ e t. rw (h.v1, h.v2)),
      (
        (λ e t. rw (h.xd t.0, h.x1 t.1.0)),
        (
          (λ e. lane_load _ _ _),
          ((λ e. lane_store _ _ _), ((λ e. lane_load _ _ _), ((λ e. lane_store _ _ _), stop_rows))),
        ),
      ),
    )

    op : {o : Op} {j : ℕ} → k ≡ j → P (op_as o c)
    op e = of_registers_lem _

    register_rows : Rows P (on c) k of_registers
    register_rows =
        rows_append P (on c) k of_sums of_products (op, (op, (op, (op, (op, (op, (op, (op, (op, (op, tt))))))))))
        (op, (op, (op, (op, (op, (op, (op, (op, tt))))))))

    immediate_rows : Rows P (on c) k of_immediates
    immediate_rows = (
      (λ e. of_immediate _),
      (
        (λ e. shift _),
        (
          (λ e. shift _),
          (
            (λ e. shift _),
            (
              (λ e. of_immediate _),
              ((λ e. of_immediate _), ((λ e. of_immediate _), ((λ e. of_immediate _), ((λ e. of_immediate _), tt)))),
            ),
          ),
        ),
      ),
    )

    agrees : P (row_of k c)
    unfolding row_of
    agrees = go (leb vector_kinds k)
      where
        go : (b : Bool) → P (cond b (lane_op_word (op_at (k % op_limit)) c) (word_at c k (groups ++ of_registers ++ of_immediates)))
        go true = lane_op (op_at (k % op_limit))
        go false =
            found P (on c) I.Refused k (groups ++ of_registers ++ of_immediates) (λ t. refl)
            (rows_append P (on c) k (groups ++ of_registers) of_immediates
            (rows_append P (on c) k groups of_registers (rows_append P (on c) k scalar_groups lane_groups scalar_rows lane_rows) register_rows) immediate_rows)

-- ---- where the numbers stand

module _ (w n : ℕ) (b : w < 2 ^ 32) where
  upper32 : (w + n * 2 ^ 32) / 2 ^ 32 ≡ n
  upper32 = omega arith

  upper40 : (w + n * 2 ^ 32) / 2 ^ 40 ≡ n / 2 ^ 8
  upper40 = omega arith

  upper48 : (w + n * 2 ^ 32) / 2 ^ 48 ≡ n / 2 ^ 16
  upper48 = omega arith

  upper56 : (w + n * 2 ^ 32) / 2 ^ 56 ≡ n / 2 ^ 24
  upper56 = omega arith

  upper62 : (w + n * 2 ^ 32) / 2 ^ 62 ≡ n / 2 ^ 30
  upper62 = omega arith

-- above the word's fields
fields_above : (w a : ℕ) → fields_of (w + a * 2 ^ 32) ≡ fields_of w
fields_above w a = rw (f7 w a, f12 w a, f15 w a, f20 w a, f25 w a)
  where
    f7 : (w a : ℕ) → (w + a * 2 ^ 32) / 2 ^ 7 % 2 ^ 5 ≡ w / 2 ^ 7 % 2 ^ 5
    f7 w a = omega arith

    f12 : (w a : ℕ) → (w + a * 2 ^ 32) / 2 ^ 12 % 2 ^ 3 ≡ w / 2 ^ 12 % 2 ^ 3
    f12 w a = omega arith

    f15 : (w a : ℕ) → (w + a * 2 ^ 32) / 2 ^ 15 % 2 ^ 5 ≡ w / 2 ^ 15 % 2 ^ 5
    f15 w a = omega arith

    f20 : (w a : ℕ) → (w + a * 2 ^ 32) / 2 ^ 20 % 2 ^ 5 ≡ w / 2 ^ 20 % 2 ^ 5
    f20 w a = omega arith

    f25 : (w a : ℕ) → (w + a * 2 ^ 32) / 2 ^ 25 % 2 ^ 7 ≡ w / 2 ^ 25 % 2 ^ 7
    f25 w a = omega arith

-- of a number below 64 six bits are all
six_bits : (m d : ℕ) → m % 2 ^ 8 ≡ d → d < scalar_registers → m % 2 ^ 6 ≡ d
six_bits m d e b = omega arith

abbrev above : ℕ → ℕ → ℕ → ℕ → ℕ
above d a c t = d + a * 2 ^ 8 + c * 2 ^ 16 + t * 2 ^ 24

module _ (d a c t : ℕ) (p : d < 2 ^ 8) (q : a < 2 ^ 8) (r : c < 2 ^ 8) where
  first : above d a c t % 2 ^ 8 ≡ d
  first = omega arith

  second : above d a c t / 2 ^ 8 % 2 ^ 8 ≡ a
  second = let e : above d a c t / 2 ^ 8 ≡ a + c * 2 ^ 8 + t * 2 ^ 16 = omega arith in rw e (omega arith)

  third : above d a c t / 2 ^ 16 % 2 ^ 8 ≡ c
  third = let e : above d a c t / 2 ^ 16 ≡ c + t * 2 ^ 8 = omega arith in rw e (omega arith)

  top : above d a c t / 2 ^ 24 ≡ t
  top = omega arith

  top_bit : above d a c t / 2 ^ 30 ≡ t / 2 ^ 6
  top_bit = omega arith

number_small : (d n : ℕ) → d < 2 ^ 3 → n < 2 ^ 5 → d * 2 ^ 5 + n < 2 ^ 8
number_small d n h l = omega arith

module _ (w d a c t : ℕ) (b : w < 2 ^ 32) (hd : d < 2 ^ 3) (ha : a < 2 ^ 3) (hc : c < 2 ^ 3) where
  abbrev D : ℕ
  D = d * 2 ^ 5 + (fields_of w).rd

  abbrev A : ℕ
  A = a * 2 ^ 5 + (fields_of w).rs1

  abbrev C : ℕ
  C = c * 2 ^ 5 + (fields_of w).rs2

  abbrev N : ℕ
  N = above D A C t

  sd : D < 2 ^ 8
  sd = number_small d (fields_of w).rd hd (small w).rd

  sa : A < 2 ^ 8
  sa = number_small a (fields_of w).rs1 ha (small w).rs1

  sc : C < 2 ^ 8
  sc = number_small c (fields_of w).rs2 hc (small w).rs2

  nd : N % 2 ^ 8 ≡ D
  nd = first D A C t sd sa sc

  na : N / 2 ^ 8 % 2 ^ 8 ≡ A
  na = second D A C t sd sa sc

  nc : N / 2 ^ 16 % 2 ^ 8 ≡ C
  nc = third D A C t sd sa sc

  abbrev low6 : ℕ → ℕ
  low6 m = m % 2 ^ 6

  abbrev low8 : ℕ → ℕ
  low8 m = m % 2 ^ 8

  by_digits_lem : (f : ℕ → Source) → (numbers_in (wide_word w d a c t)).imm (fields_of w).rs1 ≡ f (fields_of w).rs1 → AgreeAt (fields_of w) (numbers_in (wide_word w d a c t)) (by_digits d a c f)
  by_digits_lem f e =
      record {
        xd = λ s. ap x (ap low6 (upper32 w N b) ∙ six_bits N D nd s);
        x1 = λ s. ap x (ap low6 (upper40 w N b) ∙ six_bits (N / 2 ^ 8) A na s);
        x2 = λ s. ap x (ap low6 (upper48 w N b) ∙ six_bits (N / 2 ^ 16) C nc s);
        vd = ap v (ap low8 (upper32 w N b) ∙ nd);
        v1 = ap v (ap low8 (upper40 w N b) ∙ na);
        v2 = ap v (ap low8 (upper48 w N b) ∙ nc);
        imm = e;
      }

  -- the instruction of a row, read from the numbers
  read : (f : ℕ → Source) → (numbers_in (wide_word w d a c t)).imm (fields_of w).rs1 ≡ f (fields_of w).rs1 → (k : ℕ) (i : Instr) → instr_of k w ≡ i
      → ScalarsOf (takes_of (on_fields (by_digits d a c f) i)) → wide_of k (wide_word w d a c t) ≡ on_fields (by_digits d a c f) i
  read f e k i q s =
      let z : ℕ = wide_word w d a c t in
      let g : OnFields = by_digits d a c f in
      ap (λ (u : Fields). on_fields (numbers_in z) (row_of k u)) (fields_above w N)
      ∙ ap (on_fields (numbers_in z)) q
      ∙ subst (λ (j : Instr). ScalarsOf (takes_of (on_fields g j)) → on_fields (numbers_in z) j ≡ on_fields g j) q (agrees (fields_of w) (numbers_in z) g (by_digits_lem f e) k) s

  bit_is : (n : ℕ) → t / 2 ^ 6 ≡ n → wide_word w d a c t / 2 ^ 62 ≡ n
  bit_is n e = upper62 w N b ∙ top_bit D A C t sd sa sc ∙ e

  bits_are : wide_word w d a c t / 2 ^ 56 ≡ t
  bits_are = upper56 w N b ∙ top D A C t sd sa sc

-- no REGEXTI: the immediate has its five bits
short : (w d a c : ℕ) → w < 2 ^ 32 → d < 2 ^ 3 → a < 2 ^ 3 → c < 2 ^ 3 → (i : ℕ) → (numbers_in (wide_word w d a c 0)).imm i ≡ From.I i
short w d a c b hd ha hc i = rw (bit_is w d a c 0 b hd ha hc 0 refl)

long : (w d c s : ℕ) → w < 2 ^ 32 → d < 2 ^ 3 → c < 2 ^ 3 → s < 2 ^ 6 → (i : ℕ) → (numbers_in (wide_word w d 0 c (2 ^ 6 + s))).imm i ≡ From.Long (s * 2 ^ 5 + i)
long w d c s b hd hc hs i =
    let z : 0 < 2 ^ 3 = omega arith in
    let e : (2 ^ 6 + s) / 2 ^ 6 ≡ 1 = omega arith in
    let q : (2 ^ 6 + s) % 2 ^ 6 ≡ s = omega arith in
    rw (bit_is w d 0 c (2 ^ 6 + s) b hd z hc 1 e, bits_are w d 0 c (2 ^ 6 + s) b hd z hc, q)

-- ---- the instruction that is read

module _ (w k : ℕ) (b : w < 2 ^ 32) (i : Instr) (e : instr_of k w ≡ i) where
  -- with no prefix
  pub read_plain : ScalarsOf (takes_of i) → wide_of k (plain_wide w) ≡ i
  read_plain s =
      let z : 0 < 2 ^ 3 = omega arith in
      let q : on_fields (ext_of 0) i ≡ i = zero_digits 0 refl refl refl i in
      read w 0 0 0 0 b z z z From.I (short w 0 0 0 b z z z (fields_of w).rs1) k i e (rw q s) ∙ q

  -- with a prefix
  by_kind : (t : Bool) (n : ℕ) → n < 2 ^ 12
      → ScalarsOf (takes_of (on_fields (cond t (ext_of n) (ext_iof n)) i))
      → wide_of k (cond t (wide_word w (n % 2 ^ 3) (n / 2 ^ 3 % 2 ^ 3) (n / 2 ^ 6 % 2 ^ 3) 0) (wide_word w (n % 2 ^ 3) 0 (n / 2 ^ 3 % 2 ^ 3) (2 ^ 6 + n / 2 ^ 6 % 2 ^ 6))) ≡ on_fields (cond t (ext_of n) (ext_iof n)) i
  by_kind true n q s =
      let hd : n % 2 ^ 3 < 2 ^ 3 = omega arith in
      let ha : n / 2 ^ 3 % 2 ^ 3 < 2 ^ 3 = omega arith in
      let hc : n / 2 ^ 6 % 2 ^ 3 < 2 ^ 3 = omega arith in
      read w (n % 2 ^ 3) (n / 2 ^ 3 % 2 ^ 3) (n / 2 ^ 6 % 2 ^ 3) 0 b hd ha hc From.I (short w _ _ _ b hd ha hc (fields_of w).rs1) k i e s
  by_kind false n q s =
      let hd : n % 2 ^ 3 < 2 ^ 3 = omega arith in
      let hc : n / 2 ^ 3 % 2 ^ 3 < 2 ^ 3 = omega arith in
      let hs : n / 2 ^ 6 % 2 ^ 6 < 2 ^ 6 = omega arith in
      let z : 0 < 2 ^ 3 = omega arith in
      let m : n / 2 ^ 6 % 2 ^ 6 ≡ n / 2 ^ 6 = omega arith in
      read w (n % 2 ^ 3) 0 (n / 2 ^ 3 % 2 ^ 3) (2 ^ 6 + n / 2 ^ 6 % 2 ^ 6) b hd z hc (λ j. From.Long (n / 2 ^ 6 * 2 ^ 5 + j))
      (long w (n % 2 ^ 3) (n / 2 ^ 3 % 2 ^ 3) (n / 2 ^ 6 % 2 ^ 6) b hd hc hs (fields_of w).rs1 ∙ ap (λ (y : ℕ). From.Long (y * 2 ^ 5 + (fields_of w).rs1)) m) k i e s

  pub read_widened : (p : Prefix) → p.bits < 2 ^ 12 → ScalarsOf (takes_of (on_fields (digits_of p) i)) → wide_of k (widened p w) ≡ on_fields (digits_of p) i
  read_widened p q s = by_kind (eqb p.kind reg_ext) p.bits q s
