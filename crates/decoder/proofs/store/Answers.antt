use mathlib.Core.List.{[]}
use native.Mathlib.Omega.{arith}
use Rattle.isa.specs.Fields.{fields_of}
use Rattle.isa.specs.Scalar.{stores, store_as, store_word}
use Rattle.isa.specs.Kinds.{store_op_of, row_of}
use Rattle.isa.proofs.Tables.{range_in, range_out}
use Rattle.isa.specs.declared.StoreOp.TheVariants as S
use Rattle.decoder.proofs.store.Goals as goal

pub returns-in-0-to-2 : goal.returns-in-0-to-2
unfolding row_of store_word store_op_of
returns-in-0-to-2 c =
    let f = fields_of c.args.w in
    range_in store_as f f.funct3 [] stores [] 0 3 (omega arith) (omega arith) tt S.W tt

pub returns-in_default : goal.returns-in_default
unfolding row_of store_word store_op_of
returns-in_default c =
    let f = fields_of c.args.w in
    range_out store_as f f.funct3 [] stores [] 3 5 (omega arith) (omega arith) tt tt
