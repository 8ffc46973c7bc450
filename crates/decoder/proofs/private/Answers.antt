use mathlib.Core.Path.{◌∙◌}
use mathlib.Core.List.{[], ◌∷◌}
use Prim.Native.Nat.{◌/◌}
use native.Mathlib.Omega.{arith}
use borrow.Author.Tests.{eq-eqb, ne_eqb}
use Rattle.isa.specs.Fields.{fields_of}
use Rattle.isa.specs.Table.{as_words}
use Rattle.isa.specs.Scalar.{loads}
use Rattle.isa.specs.Ventus.{vstores, pload_as, pstore_as, private_word}
use Rattle.isa.specs.Kinds.{load_op_of, lane_store_op_of, row_of}
use Rattle.isa.proofs.Tables.{range_in, range_out}
use Rattle.isa.specs.declared.LoadOp.TheVariants as L
use Rattle.isa.specs.declared.StoreOp.TheVariants as S
use Rattle.decoder.proofs.private.Goals as goal

pub returns-then-w-ne0 : goal.returns-then-w-ne0
unfolding row_of private_word load_op_of lane_store_op_of
returns-then-w-ne0 c = simp (ne_eqb _ _ c.if-w-ne0.true)

pub returns-in-0-to-2 : goal.returns-in-0-to-2
unfolding row_of private_word load_op_of lane_store_op_of
returns-in-0-to-2 c =
    let f = fields_of c.args.w in
    rw (eq-eqb (f.funct7 / 64) 0 c.if-w-ne0.false)
    (range_in pload_as f f.funct3 (as_words pstore_as vstores) loads (3 ∷ []) 0 6 (omega arith) (omega arith) c.in-0-to-2.in_default-own.rest L.Hu tt)

pub returns-in-3 : goal.returns-in-3
unfolding row_of private_word load_op_of lane_store_op_of
returns-in-3 c =
    let f = fields_of c.args.w in
    rw (eq-eqb (f.funct7 / 64) 0 c.if-w-ne0.false) (simp c.in-3.in-3-own.keys1)

pub returns-in-3-2 : goal.returns-in-3-2
unfolding row_of private_word load_op_of lane_store_op_of
returns-in-3-2 c =
    let f = fields_of c.args.w in
    rw (eq-eqb (f.funct7 / 64) 0 c.if-w-ne0.false)
    (range_in pstore_as f f.funct3 [] vstores [] 6 2 (omega arith) (omega arith) tt S.W tt
    ∙ range_out pload_as f f.funct3 (as_words pstore_as vstores) loads [] 6 2 (omega arith) (omega arith) tt tt)
