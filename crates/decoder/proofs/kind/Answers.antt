use Rattle.isa.specs.Decode.{decode_of}
use Rattle.decoder.proofs.kind.Goals as goal

pub returns-then-opcode-eq51 : goal.returns-then-opcode-eq51
unfolding decode_of
returns-then-opcode-eq51 c = simp c.if-opcode-eq51.true c.op.ensures
