use mathlib.Core.List.{[]}
use native.Mathlib.Omega.{arith}
use Rattle.isa.specs.Fields.{fields_of}
use Rattle.isa.specs.Scalar.{loads, load_as, load_word}
use Rattle.isa.specs.Kinds.{load_op_of, row_of}
use Rattle.isa.proofs.Tables.{range_in, range_out}
use Rattle.isa.specs.declared.LoadOp.TheVariants as L
use Rattle.decoder.proofs.load.Goals as goal

pub returns-in_default : goal.returns-in_default
unfolding row_of load_word load_op_of
returns-in_default c =
    let f = fields_of c.args.w in
    range_out load_as f f.funct3 [] loads [] 3 1 (omega arith) (omega arith) tt tt

pub returns-in_default-2 : goal.returns-in_default-2
unfolding row_of load_word load_op_of
returns-in_default-2 c =
    let f = fields_of c.args.w in
    range_out load_as f f.funct3 [] loads [] 6 2 (omega arith) (omega arith) tt tt

pub returns-in-0-to-2 : goal.returns-in-0-to-2
unfolding row_of load_word load_op_of
returns-in-0-to-2 c =
    let f = fields_of c.args.w in
    range_in load_as f f.funct3 [] loads [] 0 3 (omega arith) (omega arith) tt L.Hu tt

pub returns-in-0-to-2-2 : goal.returns-in-0-to-2-2
unfolding row_of load_word load_op_of
returns-in-0-to-2-2 c =
    let f = fields_of c.args.w in
    range_in load_as f f.funct3 [] loads [] 4 2 (omega arith) (omega arith) tt L.Hu tt
