use Rattle.isa.specs.Fields.{fields_of}
use Rattle.isa.proofs.Decoded.{small}
use Rattle.prefix.proofs.Laws.{multiply_v_scalar, multiply_v}
use Rattle.prefix.proofs.multiply_vv.Goals as goal

pub returns-then-funct6-eq16 : goal.returns-then-funct6-eq16
returns-then-funct6-eq16 c p a b h = let w = c.args.w in multiply_v_scalar h (fields_of w) (small w) c.if-funct6-eq16.true

pub returns-else-funct6-eq16 : goal.returns-else-funct6-eq16
returns-else-funct6-eq16 c p a b h = let w = c.args.w in multiply_v h (fields_of w) (small w) c.if-funct6-eq16.false
