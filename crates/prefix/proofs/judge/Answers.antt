use mathlib.Core.Path.{sym}
use mathlib.Core.List.{[]}
use Rattle.isa.specs.declared.Instr.TheVariants.{Refused}
use Rattle.isa.specs.Fields.{fields_of}
use Rattle.isa.specs.Table.{on}
use Rattle.isa.specs.Decode.{opcodes, decode_of}
use Rattle.isa.proofs.Laws.{past}
use Rattle.isa.proofs.Decoded.{small}
use Rattle.prefix.specs.Tells.{none, is}
use Rattle.prefix.proofs.Laws.{by_d, jalr_says, branch_says, load_says, store_says, op_imm_says, op_says, fence_says, warp_says, lane_access_says, private_says}
use Rattle.prefix.proofs.judge.Goals as goal

pub returns-in-55 : goal.returns-in-55
unfolding decode_of
returns-in-55 c p h = let w = c.args.w in rw c.in-55.is (is (by_d h (fields_of w) (small w)))

pub returns-in-23 : goal.returns-in-23
unfolding decode_of
returns-in-23 c p h = let w = c.args.w in rw c.in-23.is (is (by_d h (fields_of w) (small w)))

pub returns-in-111 : goal.returns-in-111
unfolding decode_of
returns-in-111 c p h = let w = c.args.w in rw c.in-111.is (is (by_d h (fields_of w) (small w)))

pub returns-in-103 : goal.returns-in-103
unfolding decode_of
returns-in-103 c p h = let w = c.args.w in rw c.in-103.is (jalr_says h (fields_of w) (small w))

pub returns-in-99 : goal.returns-in-99
unfolding decode_of
returns-in-99 c p h = let w = c.args.w in rw c.in-99.is (branch_says h (fields_of w) (small w))

pub returns-in-3 : goal.returns-in-3
unfolding decode_of
returns-in-3 c p h = let w = c.args.w in rw c.in-3.is (load_says h (fields_of w) (small w))

pub returns-in-35 : goal.returns-in-35
unfolding decode_of
returns-in-35 c p h = let w = c.args.w in rw c.in-35.is (store_says h (fields_of w) (small w))

pub returns-in-19 : goal.returns-in-19
unfolding decode_of
returns-in-19 c p h = let w = c.args.w in rw c.in-19.is (op_imm_says h (fields_of w) (small w))

pub returns-in-51 : goal.returns-in-51
unfolding decode_of
returns-in-51 c p h = let w = c.args.w in rw c.in-51.is (op_says h (fields_of w) (small w))

pub returns-in-15 : goal.returns-in-15
unfolding decode_of
returns-in-15 c p h = let w = c.args.w in rw c.in-15.is (fence_says h (fields_of w) (small w))

pub returns-in-115 : goal.returns-in-115
unfolding decode_of
returns-in-115 c p h = rw c.in-115.is (c.csr.ensures p _ _ h)

pub returns-in-87 : goal.returns-in-87
unfolding decode_of
returns-in-87 c p h = rw c.in-87.is (c.vector.ensures p _ h)

pub returns-in-91 : goal.returns-in-91
unfolding decode_of
returns-in-91 c p h = rw c.in-91.is (c.splits.ensures p _ _ h)

pub returns-in-11 : goal.returns-in-11
unfolding decode_of
returns-in-11 c p h = let w = c.args.w in rw c.in-11.is (warp_says h (fields_of w) (small w))

pub returns-in-123 : goal.returns-in-123
unfolding decode_of
returns-in-123 c p h = let w = c.args.w in rw c.in-123.is (lane_access_says h (fields_of w) (small w))

pub returns-in-43 : goal.returns-in-43
unfolding decode_of
returns-in-43 c p h = let w = c.args.w in rw c.in-43.is (private_says h (fields_of w) (small w))

pub returns-in_default : goal.returns-in_default
unfolding decode_of
returns-in_default c p h = let w = c.args.w in none (sym (past (on (fields_of w)) Refused _ opcodes [] c.in_default.in_default-own.rest))
