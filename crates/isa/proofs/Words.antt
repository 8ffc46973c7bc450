-- A kind's instruction, of fields that were read from the word: antt computes the row at the kind's number.
use Prim.Native.Nat.{ℕ, ◌%◌, ◌≤◌}
use mathlib.Core.Path.{◌≡◌, refl}
use mathlib.Core.Bool.{Bool, true, false, cond}
use lib.Dec.{ltb}
use borrow.Author.Tests.{le-leb}
use Rattle.word.specs.declared.Cond.{Cond}
use Rattle.isa.specs.declared.XReg.{XReg}
use Rattle.isa.specs.declared.VReg.{VReg}
use Rattle.isa.specs.declared.Source.{Source}
use Rattle.isa.specs.declared.Space.TheVariants.{Plain, Private}
use Rattle.isa.specs.declared.LoadOp.{LoadOp}
use Rattle.isa.specs.declared.StoreOp.{StoreOp}
use Rattle.isa.specs.declared.Instr.TheVariants as I
use Rattle.isa.specs.Fields.{fields_of, is_masked, imm_i, imm_s, imm_b, imm_u, imm_j, private_load_offset, private_store_offset}
use Rattle.isa.specs.Number.{op_at}
use Rattle.isa.specs.Kinds.{cond_of, load_op_of, store_op_of, lane_store_op_of, csr_op_of, any_csr_word, source_in, lane_op_word, vector_kinds, op_limit, row_of}
use Rattle.isa.specs.Scalar.{csr_as, csr_imm_as}
use Rattle.isa.specs.Prefix.{on_source, on_fields}
use Rattle.isa.specs.Wide.{numbers_in, xd_in, xs1_in, xs2_in, vd_in, vs1_in, vs2_in, csr_by, csr_wide, wide_of}

module _ (k w : ℕ) where
  pub lui_is : {r : XReg} {n : ℕ} → k ≡ 1 → r ≡ xd_in w → n ≡ imm_u (fields_of w) → wide_of k w ≡ I.Lui r n
  unfolding row_of
  lui_is e er en = rw (e, er, en)

  pub auipc_is :
      {r : XReg} {n : ℕ} → k ≡ 2 → r ≡ xd_in w → n ≡ imm_u (fields_of w)
      → wide_of k w ≡ I.Auipc r n
  unfolding row_of
  auipc_is e er en = rw (e, er, en)

  pub jal_is : {r : XReg} {n : ℕ} → k ≡ 3 → r ≡ xd_in w → n ≡ imm_j (fields_of w) → wide_of k w ≡ I.Jal r n
  unfolding row_of
  jal_is e er en = rw (e, er, en)

  pub jalr_is :
      {r : XReg} {a : XReg} {n : ℕ} → k ≡ 4 → r ≡ xd_in w → a ≡ xs1_in w → n ≡ imm_i (fields_of w)
      → wide_of k w ≡ I.Jalr r a n
  unfolding row_of
  jalr_is e er ea en = rw (e, er, ea, en)

  pub branch_is :
      {t : Cond} {a : XReg} {b : XReg} {n : ℕ} → k ≡ 5
      → t ≡ cond_of (fields_of w) → a ≡ xs1_in w → b ≡ xs2_in w → n ≡ imm_b (fields_of w)
      → wide_of k w ≡ I.Branch t a b n
  unfolding row_of
  branch_is e et ea eb en = rw (e, et, ea, eb, en)

  pub load_is :
      {o : LoadOp} {r : XReg} {a : XReg} {n : ℕ} → k ≡ 6
      → o ≡ load_op_of (fields_of w) → r ≡ xd_in w → a ≡ xs1_in w → n ≡ imm_i (fields_of w)
      → wide_of k w ≡ I.Load o r a n
  unfolding row_of
  load_is e eo er ea en = rw (e, eo, er, ea, en)

  pub store_is :
      {o : StoreOp} {a : XReg} {b : XReg} {n : ℕ} → k ≡ 7
      → o ≡ store_op_of (fields_of w) → a ≡ xs1_in w → b ≡ xs2_in w → n ≡ imm_s (fields_of w)
      → wide_of k w ≡ I.Store o a b n
  unfolding row_of
  store_is e eo ea eb en = rw (e, eo, ea, eb, en)

  pub fence_is :
      {d : ℕ} {a : ℕ} {n : ℕ} → k ≡ 8 → d ≡ (fields_of w).rd → a ≡ (fields_of w).rs1 → n ≡ imm_i (fields_of w)
      → wide_of k w ≡ I.Fence d a n
  unfolding row_of
  fence_is e ed ea en = rw (e, ed, ea, en)

  pub csr_is : k ≡ 9 → wide_of k w ≡ csr_wide w
  unfolding row_of any_csr_word
  csr_is e = rw e (either (ltb (fields_of w).funct3 0b100))
    where
      either : (b : Bool) → on_fields (numbers_in w) (cond b (csr_as (csr_op_of (fields_of w)) (fields_of w)) (csr_imm_as (csr_op_of (fields_of w)) (fields_of w))) ≡ csr_by b w
      either true = refl
      either false = refl

  pub vbranch_is :
      {t : Cond} {a : VReg} {b : VReg} {n : ℕ} → k ≡ 10
      → t ≡ cond_of (fields_of w) → a ≡ vs1_in w → b ≡ vs2_in w → n ≡ imm_b (fields_of w)
      → wide_of k w ≡ I.VBranch t a b n
  unfolding row_of
  vbranch_is e et ea eb en = rw (e, et, ea, eb, en)

  pub setrpc_is :
      {r : XReg} {a : XReg} {n : ℕ} → k ≡ 11 → r ≡ xd_in w → a ≡ xs1_in w → n ≡ imm_i (fields_of w)
      → wide_of k w ≡ I.SetRpc r a n
  unfolding row_of
  setrpc_is e er ea en = rw (e, er, ea, en)

  pub vload_is :
      {o : LoadOp} {r : VReg} {a : VReg} {n : ℕ} → k ≡ 12
      → o ≡ load_op_of (fields_of w) → r ≡ vd_in w → a ≡ vs1_in w → n ≡ imm_i (fields_of w)
      → wide_of k w ≡ I.VLoad Plain o r a n
  unfolding row_of
  vload_is e eo er ea en = rw (e, eo, er, ea, en)

  pub vstore_is :
      {o : StoreOp} {a : VReg} {b : VReg} {n : ℕ} → k ≡ 13
      → o ≡ lane_store_op_of (fields_of w) → a ≡ vs1_in w → b ≡ vs2_in w → n ≡ imm_s (fields_of w)
      → wide_of k w ≡ I.VStore Plain o a b n
  unfolding row_of
  vstore_is e eo ea eb en = rw (e, eo, ea, eb, en)

  pub pload_is :
      {o : LoadOp} {r : VReg} {a : VReg} {n : ℕ} → k ≡ 14
      → o ≡ load_op_of (fields_of w) → r ≡ vd_in w → a ≡ vs1_in w → n ≡ private_load_offset (fields_of w)
      → wide_of k w ≡ I.VLoad Private o r a n
  unfolding row_of
  pload_is e eo er ea en = rw (e, eo, er, ea, en)

  pub pstore_is :
      {o : StoreOp} {a : VReg} {b : VReg} {n : ℕ} → k ≡ 15
      → o ≡ lane_store_op_of (fields_of w) → a ≡ vs1_in w → b ≡ vs2_in w → n ≡ private_store_offset (fields_of w)
      → wide_of k w ≡ I.VStore Private o a b n
  unfolding row_of
  pstore_is e eo ea eb en = rw (e, eo, ea, eb, en)

  pub join_is : k ≡ 43 → wide_of k w ≡ I.Join
  unfolding row_of
  join_is e = rw e

  pub endprg_is : k ≡ 44 → wide_of k w ≡ I.EndPrg
  unfolding row_of
  endprg_is e = rw e

  pub barrier_is : {n : ℕ} → k ≡ 45 → n ≡ (fields_of w).rs1 → wide_of k w ≡ I.Barrier n
  unfolding row_of
  barrier_is e en = rw (e, en)

  pub vmove_xs_is :
      {r : XReg} {b : VReg} → k ≡ 46 → r ≡ xd_in w → b ≡ vs2_in w
      → wide_of k w ≡ I.VMoveXS r b
  unfolding row_of
  vmove_xs_is e er eb = rw (e, er, eb)

  pub vmove_sx_is :
      {r : VReg} {a : XReg} → k ≡ 47 → r ≡ vd_in w → a ≡ xs1_in w
      → wide_of k w ≡ I.VMoveSX r a
  unfolding row_of
  vmove_sx_is e er ea = rw (e, er, ea)

  pub vid_is : {t : Bool} {r : VReg} → k ≡ 48 → t ≡ is_masked (fields_of w) → r ≡ vd_in w → wide_of k w ≡ I.Vid t r
  unfolding row_of
  vid_is e et er = rw (e, et, er)

  pub regext_is : {n : ℕ} → k ≡ 50 → n ≡ imm_i (fields_of w) → wide_of k w ≡ I.RegExt n
  unfolding row_of
  regext_is e en = rw (e, en)

  pub regexti_is : {n : ℕ} → k ≡ 51 → n ≡ imm_i (fields_of w) → wide_of k w ≡ I.RegExtI n
  unfolding row_of
  regexti_is e en = rw (e, en)

  pub vmove_is :
      {r : VReg} {s : Source} → k ≡ 49 → r ≡ vd_in w → s ≡ on_source (numbers_in w) (source_in (fields_of w))
      → wide_of k w ≡ I.VMove r s
  unfolding row_of
  vmove_is e er es = rw (e, er, es)

  pub vmerge_is :
      {r b : VReg} {s : Source} → k ≡ 52 → r ≡ vd_in w → b ≡ vs2_in w → s ≡ on_source (numbers_in w) (source_in (fields_of w))
      → wide_of k w ≡ I.VMerge r b s
  unfolding row_of
  vmerge_is e er eb es = rw (e, er, eb, es)

  pub vector_is : vector_kinds ≤ k → wide_of k w ≡ on_fields (numbers_in w) (lane_op_word (op_at (k % op_limit)) (fields_of w))
  unfolding row_of
  vector_is l = rw (le-leb vector_kinds k l)
