use mathlib.Core.Path.{◌∙◌}
use native.Mathlib.Omega.{arith}
use Rattle.isa.specs.Ventus.{splits_word, lane_access_word}
use Rattle.isa.specs.Decode.{decode_of}
use Rattle.isa.specs.Kinds.{cond_of, load_op_of, lane_store_op_of, row_of}
use Rattle.decoder.proofs.Codes.{codes}
use Rattle.decoder.proofs.lane_row.Goals as goal

pub returns-in-696 : goal.returns-in-696
unfolding row_of decode_of splits_word cond_of lane_access_word load_op_of lane_store_op_of
returns-in-696 c = c.vector.ensures ∙ simp (codes (omega arith) c.index.ensures c.in-696.is).1

pub returns-in-697 : goal.returns-in-697
unfolding row_of decode_of splits_word cond_of lane_access_word load_op_of lane_store_op_of
returns-in-697 c = c.vector-in-697.ensures ∙ simp (codes (omega arith) c.index.ensures c.in-697.is).1

pub returns-in-698 : goal.returns-in-698
unfolding row_of decode_of splits_word cond_of lane_access_word load_op_of lane_store_op_of
returns-in-698 c = c.vector-in-698.ensures ∙ simp (codes (omega arith) c.index.ensures c.in-698.is).1

pub returns-in-699 : goal.returns-in-699
unfolding row_of decode_of splits_word cond_of lane_access_word load_op_of lane_store_op_of
returns-in-699 c = c.vector-in-699.ensures ∙ simp (codes (omega arith) c.index.ensures c.in-699.is).1

pub returns-in-700 : goal.returns-in-700
unfolding row_of decode_of splits_word cond_of lane_access_word load_op_of lane_store_op_of
returns-in-700 c = c.vector-in-700.ensures ∙ simp (codes (omega arith) c.index.ensures c.in-700.is).1

pub returns-in-701 : goal.returns-in-701
unfolding row_of decode_of splits_word cond_of lane_access_word load_op_of lane_store_op_of
returns-in-701 c = c.vector-in-701.ensures ∙ simp (codes (omega arith) c.index.ensures c.in-701.is).1

pub returns-in-702 : goal.returns-in-702
unfolding row_of decode_of splits_word cond_of lane_access_word load_op_of lane_store_op_of
returns-in-702 c = c.vector-in-702.ensures ∙ simp (codes (omega arith) c.index.ensures c.in-702.is).1

pub returns-in-703 : goal.returns-in-703
unfolding row_of decode_of splits_word cond_of lane_access_word load_op_of lane_store_op_of
returns-in-703 c = c.vector-in-703.ensures ∙ simp (codes (omega arith) c.index.ensures c.in-703.is).1

pub returns-in-728 : goal.returns-in-728
unfolding row_of decode_of splits_word cond_of lane_access_word load_op_of lane_store_op_of
returns-in-728 c = let e = codes (omega arith) c.index.ensures c.in-728.is in simp (e.0, e.1)

pub returns-in-729 : goal.returns-in-729
unfolding row_of decode_of splits_word cond_of lane_access_word load_op_of lane_store_op_of
returns-in-729 c = let e = codes (omega arith) c.index.ensures c.in-729.is in simp (e.0, e.1)

pub returns-in-730 : goal.returns-in-730
unfolding row_of decode_of splits_word cond_of lane_access_word load_op_of lane_store_op_of
returns-in-730 c = let e = codes (omega arith) c.index.ensures c.in-730.is in c.join.ensures ∙ simp (e.0, e.1)

pub returns-in-731 : goal.returns-in-731
unfolding row_of decode_of splits_word cond_of lane_access_word load_op_of lane_store_op_of
returns-in-731 c = let e = codes (omega arith) c.index.ensures c.in-731.is in simp (e.0, e.1)

pub returns-in-732 : goal.returns-in-732
unfolding row_of decode_of splits_word cond_of lane_access_word load_op_of lane_store_op_of
returns-in-732 c = let e = codes (omega arith) c.index.ensures c.in-732.is in simp (e.0, e.1)

pub returns-in-733 : goal.returns-in-733
unfolding row_of decode_of splits_word cond_of lane_access_word load_op_of lane_store_op_of
returns-in-733 c = let e = codes (omega arith) c.index.ensures c.in-733.is in simp (e.0, e.1)

pub returns-in-734 : goal.returns-in-734
unfolding row_of decode_of splits_word cond_of lane_access_word load_op_of lane_store_op_of
returns-in-734 c = let e = codes (omega arith) c.index.ensures c.in-734.is in simp (e.0, e.1)

pub returns-in-735 : goal.returns-in-735
unfolding row_of decode_of splits_word cond_of lane_access_word load_op_of lane_store_op_of
returns-in-735 c = let e = codes (omega arith) c.index.ensures c.in-735.is in simp (e.0, e.1)

pub returns-in-984 : goal.returns-in-984
unfolding row_of decode_of splits_word cond_of lane_access_word load_op_of lane_store_op_of
returns-in-984 c = let e = codes (omega arith) c.index.ensures c.in-984.is in simp (e.0, e.1)

pub returns-in-985 : goal.returns-in-985
unfolding row_of decode_of splits_word cond_of lane_access_word load_op_of lane_store_op_of
returns-in-985 c = let e = codes (omega arith) c.index.ensures c.in-985.is in simp (e.0, e.1)

pub returns-in-986 : goal.returns-in-986
unfolding row_of decode_of splits_word cond_of lane_access_word load_op_of lane_store_op_of
returns-in-986 c = let e = codes (omega arith) c.index.ensures c.in-986.is in simp (e.0, e.1)

pub returns-in-987 : goal.returns-in-987
unfolding row_of decode_of splits_word cond_of lane_access_word load_op_of lane_store_op_of
returns-in-987 c = let e = codes (omega arith) c.index.ensures c.in-987.is in simp (e.0, e.1)

pub returns-in-988 : goal.returns-in-988
unfolding row_of decode_of splits_word cond_of lane_access_word load_op_of lane_store_op_of
returns-in-988 c = let e = codes (omega arith) c.index.ensures c.in-988.is in simp (e.0, e.1)

pub returns-in-989 : goal.returns-in-989
unfolding row_of decode_of splits_word cond_of lane_access_word load_op_of lane_store_op_of
returns-in-989 c = let e = codes (omega arith) c.index.ensures c.in-989.is in simp (e.0, e.1)

pub returns-in-990 : goal.returns-in-990
unfolding row_of decode_of splits_word cond_of lane_access_word load_op_of lane_store_op_of
returns-in-990 c = let e = codes (omega arith) c.index.ensures c.in-990.is in simp (e.0, e.1)

pub returns-in-991 : goal.returns-in-991
unfolding row_of decode_of splits_word cond_of lane_access_word load_op_of lane_store_op_of
returns-in-991 c = let e = codes (omega arith) c.index.ensures c.in-991.is in simp (e.0, e.1)
