use Rattle.isa.specs.Fields.{fields_of}
use Rattle.isa.proofs.Decoded.{small}
use Rattle.prefix.proofs.Laws.{csr_below, csr_from}
use Rattle.prefix.proofs.csr.Goals as goal

pub returns-then-funct3-lt4 : goal.returns-then-funct3-lt4
returns-then-funct3-lt4 c p e b h = let w = c.args.w in csr_below h (fields_of w) (small w) c.if-funct3-lt4.true

pub returns-else-funct3-lt4 : goal.returns-else-funct3-lt4
returns-else-funct3-lt4 c p e b h = let w = c.args.w in csr_from h (fields_of w) (small w) c.if-funct3-lt4.false
