use mathlib.Core.Path.{◌∙◌}
use native.Mathlib.Omega.{arith}
use Rattle.isa.specs.Scalar.{branch_word, op_imm_word, csr_word}
use Rattle.isa.specs.Decode.{decode_of}
use Rattle.isa.specs.Kinds.{cond_of, csr_op_of, any_csr_word, row_of}
use Rattle.decoder.proofs.Codes.{codes}
use Rattle.decoder.proofs.scalar_row.Goals as goal

pub returns-in-152 : goal.returns-in-152
unfolding row_of decode_of op_imm_word branch_word cond_of csr_word any_csr_word csr_op_of
returns-in-152 c = let e = codes (omega arith) c.index.ensures c.in-152.is in simp (e.0, e.1)

pub returns-in-153 : goal.returns-in-153
unfolding row_of decode_of op_imm_word branch_word cond_of csr_word any_csr_word csr_op_of
returns-in-153 c = let e = codes (omega arith) c.index.ensures c.in-153.is in c.shift.ensures ∙ simp (e.0, e.1)

pub returns-in-154 : goal.returns-in-154
unfolding row_of decode_of op_imm_word branch_word cond_of csr_word any_csr_word csr_op_of
returns-in-154 c = let e = codes (omega arith) c.index.ensures c.in-154.is in simp (e.0, e.1)

pub returns-in-155 : goal.returns-in-155
unfolding row_of decode_of op_imm_word branch_word cond_of csr_word any_csr_word csr_op_of
returns-in-155 c = let e = codes (omega arith) c.index.ensures c.in-155.is in simp (e.0, e.1)

pub returns-in-156 : goal.returns-in-156
unfolding row_of decode_of op_imm_word branch_word cond_of csr_word any_csr_word csr_op_of
returns-in-156 c = let e = codes (omega arith) c.index.ensures c.in-156.is in simp (e.0, e.1)

pub returns-in-157 : goal.returns-in-157
unfolding row_of decode_of op_imm_word branch_word cond_of csr_word any_csr_word csr_op_of
returns-in-157 c = let e = codes (omega arith) c.index.ensures c.in-157.is in c.shift-in-157.ensures ∙ simp (e.0, e.1)

pub returns-in-158 : goal.returns-in-158
unfolding row_of decode_of op_imm_word branch_word cond_of csr_word any_csr_word csr_op_of
returns-in-158 c = let e = codes (omega arith) c.index.ensures c.in-158.is in simp (e.0, e.1)

pub returns-in-159 : goal.returns-in-159
unfolding row_of decode_of op_imm_word branch_word cond_of csr_word any_csr_word csr_op_of
returns-in-159 c = let e = codes (omega arith) c.index.ensures c.in-159.is in simp (e.0, e.1)

pub returns-in-792 : goal.returns-in-792
unfolding row_of decode_of op_imm_word branch_word cond_of csr_word any_csr_word csr_op_of
returns-in-792 c = let e = codes (omega arith) c.index.ensures c.in-792.is in simp (e.0, e.1)

pub returns-in-793 : goal.returns-in-793
unfolding row_of decode_of op_imm_word branch_word cond_of csr_word any_csr_word csr_op_of
returns-in-793 c = let e = codes (omega arith) c.index.ensures c.in-793.is in simp (e.0, e.1)

pub returns-in-794 : goal.returns-in-794
unfolding row_of decode_of op_imm_word branch_word cond_of csr_word any_csr_word csr_op_of
returns-in-794 c = let e = codes (omega arith) c.index.ensures c.in-794.is in simp (e.0, e.1)

pub returns-in-795 : goal.returns-in-795
unfolding row_of decode_of op_imm_word branch_word cond_of csr_word any_csr_word csr_op_of
returns-in-795 c = let e = codes (omega arith) c.index.ensures c.in-795.is in simp (e.0, e.1)

pub returns-in-796 : goal.returns-in-796
unfolding row_of decode_of op_imm_word branch_word cond_of csr_word any_csr_word csr_op_of
returns-in-796 c = let e = codes (omega arith) c.index.ensures c.in-796.is in simp (e.0, e.1)

pub returns-in-797 : goal.returns-in-797
unfolding row_of decode_of op_imm_word branch_word cond_of csr_word any_csr_word csr_op_of
returns-in-797 c = let e = codes (omega arith) c.index.ensures c.in-797.is in simp (e.0, e.1)

pub returns-in-798 : goal.returns-in-798
unfolding row_of decode_of op_imm_word branch_word cond_of csr_word any_csr_word csr_op_of
returns-in-798 c = let e = codes (omega arith) c.index.ensures c.in-798.is in simp (e.0, e.1)

pub returns-in-799 : goal.returns-in-799
unfolding row_of decode_of op_imm_word branch_word cond_of csr_word any_csr_word csr_op_of
returns-in-799 c = let e = codes (omega arith) c.index.ensures c.in-799.is in simp (e.0, e.1)

pub returns-in-920 : goal.returns-in-920
unfolding row_of decode_of op_imm_word branch_word cond_of csr_word any_csr_word csr_op_of
returns-in-920 c = let e = codes (omega arith) c.index.ensures c.in-920.is in simp (e.0, e.1)

pub returns-in-921 : goal.returns-in-921
unfolding row_of decode_of op_imm_word branch_word cond_of csr_word any_csr_word csr_op_of
returns-in-921 c = let e = codes (omega arith) c.index.ensures c.in-921.is in simp (e.0, e.1)

pub returns-in-922 : goal.returns-in-922
unfolding row_of decode_of op_imm_word branch_word cond_of csr_word any_csr_word csr_op_of
returns-in-922 c = let e = codes (omega arith) c.index.ensures c.in-922.is in simp (e.0, e.1)

pub returns-in-923 : goal.returns-in-923
unfolding row_of decode_of op_imm_word branch_word cond_of csr_word any_csr_word csr_op_of
returns-in-923 c = let e = codes (omega arith) c.index.ensures c.in-923.is in simp (e.0, e.1)

pub returns-in-924 : goal.returns-in-924
unfolding row_of decode_of op_imm_word branch_word cond_of csr_word any_csr_word csr_op_of
returns-in-924 c = let e = codes (omega arith) c.index.ensures c.in-924.is in simp (e.0, e.1)

pub returns-in-925 : goal.returns-in-925
unfolding row_of decode_of op_imm_word branch_word cond_of csr_word any_csr_word csr_op_of
returns-in-925 c = let e = codes (omega arith) c.index.ensures c.in-925.is in simp (e.0, e.1)

pub returns-in-926 : goal.returns-in-926
unfolding row_of decode_of op_imm_word branch_word cond_of csr_word any_csr_word csr_op_of
returns-in-926 c = let e = codes (omega arith) c.index.ensures c.in-926.is in simp (e.0, e.1)

pub returns-in-927 : goal.returns-in-927
unfolding row_of decode_of op_imm_word branch_word cond_of csr_word any_csr_word csr_op_of
returns-in-927 c = let e = codes (omega arith) c.index.ensures c.in-927.is in simp (e.0, e.1)
