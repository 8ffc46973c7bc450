-- What the test says of each opcode's words.
use Prim.Native.Nat.{ℕ, ◌/◌, ◌<◌, ◌≤◌}
use mathlib.Core.Path.{◌≡◌, refl, sym, ◌∙◌, subst}
use mathlib.Core.List.{List, [], ◌++◌}
use mathlib.Core.Bool.{Bool, true, false, cond, ◌&&◌}
use lib.Dec.{T, ltb, leb}
use borrow.Author.Tests.{lt-leb, le-ltb}
use Rattle.answer.specs.Rows.{Row}
use Rattle.word.specs.declared.Op.{Op}
use Rattle.isa.specs.declared.Prefix.{Prefix}
use Rattle.isa.specs.declared.LoadOp.{LoadOp}
use Rattle.isa.specs.declared.StoreOp.{StoreOp}
use Rattle.isa.specs.declared.CsrOp.{CsrOp}
use Rattle.isa.specs.declared.Source.{Source}
use Rattle.isa.specs.declared.Source.TheVariants as From
use Rattle.isa.specs.declared.Instr.{Instr}
use Rattle.isa.specs.declared.Instr.TheVariants as I
use Rattle.isa.specs.Bounds.{scalar_registers}
use Rattle.isa.specs.Fields.{Fields, x, funct6, vm, is_masked}
use Rattle.isa.specs.Table.{on, word_at, as_words, fixed}
use Rattle.isa.specs.Scalar.{jumps, jalr_word, conditions, branch_as, branch_word, loads, load_as, load_word, stores, store_as, store_word, immediates, left_shifts, right_shifts, immediate_as, shift_as, shift_word, shifts, op_imm_word, op_as, by_funct3, ops, op_word, fences, fence_word, csr_ops, csr_immediates, csr_as, csr_imm_as, csr_word}
use Rattle.isa.specs.Vector.{OpForms, vector_table, multiply_table, has, vector_as, moves, plain_word, moves_m, multiply_word, from_v, from_x, from_i, operands, vector_word}
use Rattle.isa.specs.Ventus.{vbranch_as, join_word, joins, splits_word, end_prg_word, barrier_word, stops, stop_word, prefix_word, warp_words, warp_word, vstores, accesses, vload_as, vstore_as, lane_access_word, pload_as, pstore_as, private_word}
use Rattle.isa.specs.Prefix.{ext_of, ext_iof, digits_of, on_source, Takes, takes_by, allowed}
use Rattle.isa.proofs.Laws.{Rows, found, rows_append, every_row, rows_tested, either_at, fixed_at_lem, NoneFrom, past}
use Rattle.isa.proofs.Decoded.{SmallFields}
use Rattle.prefix.specs.Tells.{Tells, none, is, is_ext, Known}

and_none : (e : Bool) → (e && true) ≡ e
and_none true = refl
and_none false = refl

and_one : (e u : Bool) → (e && (u && true)) ≡ (e && u)
and_one true u = and_none u
and_one false u = refl

and_two : (e u t : Bool) → (e && (u && (t && true))) ≡ ((e && u) && (e && t))
and_two true u t = and_one u t
and_two false u t = refl

and_three : (e u t z : Bool) → (e && (u && (t && (z && true)))) ≡ ((e && u) && ((e && t) && (e && z)))
and_three true true t z = and_one t z
and_three true false t z = refl
and_three false u t z = refl

-- a VI form takes both prefixes
an_immediate : (t : Bool) (n m k : ℕ) → allowed k (takes_by (on_source (cond t (ext_of n) (ext_iof n)) (From.I m))) ≡ true
an_immediate true n m k = refl
an_immediate false n m k = refl

module _ {p : Prefix} {e d a b : Bool} (h : Known p e d a b) (c : Fields) (s : SmallFields c) where
  abbrev ok : Takes → Bool
  ok t = allowed p.kind t

  abbrev D : Bool
  D = ltb ((digits_of p).xd (x c.rd)).0 scalar_registers

  abbrev A : Bool
  A = ltb ((digits_of p).x1 (x c.rs1)).0 scalar_registers

  abbrev B : Bool
  B = ltb ((digits_of p).x2 (x c.rs2)).0 scalar_registers

  -- the words by their scalar registers
  no_scalar : (is_ext p && true) ≡ e
  no_scalar = and_none (is_ext p) ∙ h.ext

  pub by_d : (is_ext p && (D && true)) ≡ d
  by_d = and_one (is_ext p) D ∙ h.xd c.rd s.rd

  by_a : (is_ext p && (A && true)) ≡ a
  by_a = and_one (is_ext p) A ∙ h.x1 c.rs1 s.rs1

  pub by_da : (is_ext p && (D && (A && true))) ≡ (d && a)
  by_da = and_two (is_ext p) D A ∙ rw (h.xd c.rd s.rd, h.x1 c.rs1 s.rs1)

  by_ab : (is_ext p && (A && (B && true))) ≡ (a && b)
  by_ab = and_two (is_ext p) A B ∙ rw (h.x1 c.rs1 s.rs1, h.x2 c.rs2 s.rs2)

  by_dab : (is_ext p && (D && (A && (B && true)))) ≡ (d && (a && b))
  by_dab = and_three (is_ext p) D A B ∙ rw (h.xd c.rd s.rd, h.x1 c.rs1 s.rs1, h.x2 c.rs2 s.rs2)

  -- a table's words, of all of which the same is said; those of the codes that pass the test
  tested_say :
      {O : Type 0} (t : Bool) (make : O → Fields → Instr) (q : ℕ → Bool) (k : ℕ) (rows : List (Row O)) → T (every_row (λ o n. q n) rows)
      → ((o : O) → T (q k) → Tells p t (make o c)) → Rows (Tells p t) (on c) k (as_words make rows)
  tested_say t make q k rows z f = rows_tested (Tells p t) make (λ o n. q n) c k rows z f

  all_say :
      {O : Type 0} (t : Bool) (make : O → Fields → Instr) (k : ℕ) (rows : List (Row O)) → T (every_row (λ o n. true) rows)
      → ((o : O) → Tells p t (make o c)) → Rows (Tells p t) (on c) k (as_words make rows)
  all_say t make k rows z f = tested_say t make (λ n. true) k rows z (λ o q. f o)

  fixed_says : (t : Bool) (n k : ℕ) (i : Instr) → Tells p t i → Tells p t (fixed n k i)
  fixed_says t n k i f = fixed_at_lem (Tells p t) n k i (none refl) (λ q. f)

  -- ---- the scalar words

  pub jalr_says : Tells p (d && a) (jalr_word c)
  unfolding jalr_word
  jalr_says = found (Tells p (d && a)) (on c) I.Refused c.funct3 jumps (none refl) ((λ q. is by_da), tt)

  pub branch_says : Tells p (a && b) (branch_word c)
  unfolding branch_word
  branch_says =
      found (Tells p (a && b)) (on c) I.Refused c.funct3 (as_words branch_as conditions) (none refl)
      (all_say (a && b) branch_as c.funct3 conditions tt (λ o. is by_ab))

  pub load_says : Tells p (d && a) (load_word c)
  unfolding load_word
  load_says =
      found (Tells p (d && a)) (on c) I.Refused c.funct3 (as_words load_as loads) (none refl)
      (all_say (d && a) load_as c.funct3 loads tt (λ o. is by_da))

  pub store_says : Tells p (a && b) (store_word c)
  unfolding store_word
  store_says =
      found (Tells p (a && b)) (on c) I.Refused c.funct3 (as_words store_as stores) (none refl)
      (all_say (a && b) store_as c.funct3 stores tt (λ o. is by_ab))

  shift_says : (t : List (Row Op)) → T (every_row (λ o n. true) t) → Tells p (d && a) (shift_word t c)
  unfolding shift_word
  shift_says t z =
      found (Tells p (d && a)) (on c) I.Refused c.funct7 (as_words shift_as t) (none refl)
      (all_say (d && a) shift_as c.funct7 t z (λ o. is by_da))

  pub op_imm_says : Tells p (d && a) (op_imm_word c)
  unfolding op_imm_word
  op_imm_says =
      found (Tells p (d && a)) (on c) I.Refused c.funct3 (as_words immediate_as immediates ++ shifts) (none refl)
      (rows_append (Tells p (d && a)) (on c) c.funct3 (as_words immediate_as immediates) shifts
      (all_say (d && a) immediate_as c.funct3 immediates tt (λ o. is by_da))
      ((λ q. shift_says left_shifts tt), ((λ q. shift_says right_shifts tt), tt)))

  by_funct3_says : (t : List (Row Op)) → T (every_row (λ o n. true) t) → Tells p (d && (a && b)) (by_funct3 t c)
  unfolding by_funct3
  by_funct3_says t z =
      found (Tells p (d && (a && b))) (on c) I.Refused c.funct3 (as_words op_as t) (none refl)
      (all_say (d && (a && b)) op_as c.funct3 t z (λ o. is by_dab))

  pub op_says : Tells p (d && (a && b)) (op_word c)
  unfolding op_word
  op_says =
      found (Tells p (d && (a && b))) (on c) I.Refused c.funct7 (as_words by_funct3 ops) (none refl)
      (rows_tested (Tells p (d && (a && b))) by_funct3 (λ t n. every_row (λ o n. true) t) c c.funct7 ops tt by_funct3_says)

  pub fence_says : Tells p e (fence_word c)
  unfolding fence_word
  fence_says = found (Tells p e) (on c) I.Refused c.funct3 fences (none refl) ((λ q. is no_scalar), tt)

  csr_says :
      (t : Bool) → ((o : CsrOp) → T (ltb c.funct3 4) → Tells p t (csr_as o c)) → ((o : CsrOp) → T (leb 4 c.funct3) → Tells p t (csr_imm_as o c))
      → Tells p t (csr_word c)
  unfolding csr_word
  csr_says t f g =
      found (Tells p t) (on c) I.Refused c.funct3 (as_words csr_as csr_ops ++ as_words csr_imm_as csr_immediates) (none refl)
      (rows_append (Tells p t) (on c) c.funct3 (as_words csr_as csr_ops) (as_words csr_imm_as csr_immediates)
      (tested_say t csr_as (λ n. ltb n 4) c.funct3 csr_ops tt f) (tested_say t csr_imm_as (λ n. leb 4 n) c.funct3 csr_immediates tt g))

  pub csr_below : c.funct3 < 4 → Tells p (d && a) (csr_word c)
  csr_below l = csr_says (d && a) (λ o q. is by_da) (λ o q. absurd (rw (lt-leb 4 c.funct3 l) at q))

  pub csr_from : 4 ≤ c.funct3 → Tells p d (csr_word c)
  csr_from l = csr_says d (λ o q. absurd (rw (le-ltb c.funct3 4 l) at q)) (λ o q. is by_d)

  -- ---- the vector words

  -- by the last operand
  module _ (t : Bool) (r : Source) (z : ok (takes_by (on_source (digits_of p) r)) ≡ t) where
    formed_say : (rows : List (Row OpForms)) → T (every_row (λ f n. true) rows) → Rows (Tells p t) (on c) (funct6 c) (as_words (vector_as r) rows)
    formed_say rows q = all_say t (vector_as r) (funct6 c) rows q (λ f. either_at (Tells p t) (has r f) _ I.Refused (λ q. is z) (λ q. none refl))

    plain_says : Tells p t (plain_word r c)
    unfolding plain_word
    plain_says =
        found (Tells p t) (on c) I.Refused (funct6 c) (moves r ++ as_words (vector_as r) vector_table) (none refl)
        (rows_append (Tells p t) (on c) (funct6 c) (moves r) (as_words (vector_as r) vector_table) ((λ q. either_at (Tells p t) (is_masked c) _ _ (λ m. is z) (λ m. fixed_says t c.rs2 0 _ (is z))), tt)
        (formed_say vector_table tt))

    multiply_says : Rows (Tells p t) (on c) (funct6 c) (moves_m r) → Tells p t (multiply_word r c)
    unfolding multiply_word
    multiply_says m =
        found (Tells p t) (on c) I.Refused (funct6 c) (moves_m r ++ as_words (vector_as r) multiply_table) (none refl)
        (rows_append (Tells p t) (on c) (funct6 c) (moves_m r) (as_words (vector_as r) multiply_table) m (formed_say multiply_table tt))

  multiply_x : Tells p a (multiply_word (from_x c) c)
  multiply_x = multiply_says a (from_x c) by_a ((λ q. fixed_says a (vm c) 1 _ (fixed_says a c.rs2 0 _ (is by_a))), tt)

  pub multiply_v_scalar : funct6 c ≡ 0b010000 → Tells p d (multiply_word (from_v c) c)
  unfolding multiply_word
  multiply_v_scalar q = rw q (fixed_says d (vm c) 1 _ (fixed_says d c.rs1 0 _ (is by_d)))

  pub multiply_v : (funct6 c ≡ 0b010000 → ⊥) → Tells p e (multiply_word (from_v c) c)
  multiply_v ne =
      multiply_says e (from_v c) no_scalar (
        (λ q. absurd (ne q)),
        ((λ q. fixed_says e c.rs2 0 _ (fixed_says e c.rs1 0b10001 _ (is no_scalar))), tt),
      )

  -- by funct3
  module _ (t : Bool) where
    operands_at : (k : ℕ) → c.funct3 ≡ k → Tells p t (word_at c k operands) → Tells p t (vector_word c)
    unfolding vector_word
    operands_at k q f = subst (λ (n : ℕ). Tells p t (word_at c n operands)) (sym q) f

    pub vector_mvv : c.funct3 ≡ 0b010 → Tells p t (multiply_word (from_v c) c) → Tells p t (vector_word c)
    vector_mvv q f = operands_at 0b010 q f

    pub vector_none : NoneFrom (Unit {0}) c.funct3 operands → Tells p t (vector_word c)
    unfolding vector_word
    vector_none r = none (sym (past (on c) I.Refused c.funct3 operands [] r))

  pub vector_vv : c.funct3 ≡ 0b000 → Tells p e (vector_word c)
  vector_vv q = operands_at e 0b000 q (plain_says e (from_v c) no_scalar)

  pub vector_vi : c.funct3 ≡ 0b011 → Tells p true (vector_word c)
  vector_vi q = operands_at true 0b011 q (plain_says true (from_i c) (an_immediate (is_ext p) p.bits c.rs1 p.kind))

  pub vector_vx : c.funct3 ≡ 0b100 → Tells p a (vector_word c)
  vector_vx q = operands_at a 0b100 q (plain_says a (from_x c) by_a)

  pub vector_mvx : c.funct3 ≡ 0b110 → Tells p a (vector_word c)
  vector_mvx q = operands_at a 0b110 q multiply_x

  -- ---- the Ventus words

  join_says : Tells p false (join_word c)
  unfolding join_word
  join_says =
      fixed_says false c.funct7 0 _ (fixed_says false c.rs2 0 _ (fixed_says false c.rs1 0 _ (fixed_says false c.rd 0 I.Join (is refl))))

  pub splits_say : (c.funct3 ≡ 0b011 → ⊥) → Tells p false (splits_word c)
  unfolding splits_word
  splits_say ne =
      found (Tells p false) (on c) I.Refused c.funct3 (as_words vbranch_as conditions ++ joins) (none refl)
      (rows_append (Tells p false) (on c) c.funct3 (as_words vbranch_as conditions) joins
      (all_say false vbranch_as c.funct3 conditions tt (λ o. is refl)) ((λ q. join_says), ((λ q. absurd (ne q)), tt)))

  stop_says : Tells p false (stop_word c)
  unfolding stop_word end_prg_word barrier_word
  stop_says =
      found (Tells p false) (on c) I.Refused c.funct7 stops (none refl) (
        (λ q. fixed_says false c.rs2 0 _ (fixed_says false c.rs1 0 _ (fixed_says false c.rd 0 I.EndPrg (is refl)))),
        ((λ q. fixed_says false c.rs2 0 _ (fixed_says false c.rd 0 (I.Barrier c.rs1) (is refl))), tt),
      )

  prefix_says : (make : ℕ → Instr) → ((n : ℕ) → Tells p false (make n)) → Tells p false (prefix_word make c)
  unfolding prefix_word
  prefix_says make f = fixed_says false c.rs1 0 _ (fixed_says false c.rd 0 _ (f _))

  pub warp_says : Tells p false (warp_word c)
  unfolding warp_word
  warp_says =
      found (Tells p false) (on c) I.Refused c.funct3 warp_words (none refl)
      ((λ q. stop_says), ((λ q. prefix_says I.RegExt (λ n. is refl)), ((λ q. prefix_says I.RegExtI (λ n. is refl)), tt)))

  accesses_say :
      (load : LoadOp → Fields → Instr) (store : StoreOp → Fields → Instr) → ((o : LoadOp) → Tells p e (load o c))
      → ((o : StoreOp) → Tells p e (store o c)) → Tells p e (word_at c c.funct3 (accesses load store))
  accesses_say load store f g =
      found (Tells p e) (on c) I.Refused c.funct3 (accesses load store) (none refl)
      (rows_append (Tells p e) (on c) c.funct3 (as_words load loads) (as_words store vstores) (all_say e load c.funct3 loads tt f)
      (all_say e store c.funct3 vstores tt g))

  pub lane_access_says : Tells p e (lane_access_word c)
  unfolding lane_access_word
  lane_access_says = accesses_say vload_as vstore_as (λ o. is no_scalar) (λ o. is no_scalar)

  pub private_says : Tells p e (private_word c)
  unfolding private_word
  private_says = fixed_says e (c.funct7 / 64) 0 _ (accesses_say pload_as pstore_as (λ o. is no_scalar) (λ o. is no_scalar))
