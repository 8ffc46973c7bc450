use Rattle.isa.specs.Fields.{fields_of}
use Rattle.isa.proofs.Decoded.{small}
use Rattle.prefix.proofs.Laws.{vector_vv, vector_vi, vector_vx, vector_mvv, vector_mvx, vector_none}
use Rattle.prefix.proofs.vector.Goals as goal

pub returns-in-0 : goal.returns-in-0
returns-in-0 c p b h = let w = c.args.w in vector_vv h (fields_of w) (small w) c.in-0.is

pub returns-in-3 : goal.returns-in-3
returns-in-3 c p b h = let w = c.args.w in vector_vi h (fields_of w) (small w) c.in-3.is

pub returns-in-4 : goal.returns-in-4
returns-in-4 c p b h = let w = c.args.w in vector_vx h (fields_of w) (small w) c.in-4.is

pub returns-in-2 : goal.returns-in-2
returns-in-2 c p b h =
    let w = c.args.w in
    vector_mvv h (fields_of w) (small w) _ c.in-2.is (c.multiply_vv.ensures p _ b h)

pub returns-in-6 : goal.returns-in-6
returns-in-6 c p b h = let w = c.args.w in vector_mvx h (fields_of w) (small w) c.in-6.is

pub returns-in_default : goal.returns-in_default
returns-in_default c p b h = let w = c.args.w in vector_none h (fields_of w) (small w) _ c.in_default.in_default-own.rest
