use mathlib.Core.Path.{◌≡◌, refl}
use mathlib.Core.List.{[], ◌∷◌, ◌++◌}
use native.Mathlib.Omega.{arith}
use Rattle.isa.specs.declared.Instr.TheVariants.{Refused}
use Rattle.isa.specs.Fields.{fields_of}
use Rattle.isa.specs.Table.{on, as_words}
use Rattle.isa.specs.Scalar.{alternates, op_as, ops, op_word, by_funct3}
use Rattle.isa.specs.Kinds.{row_of}
use Rattle.isa.proofs.Laws.{found}
use Rattle.isa.proofs.Tables.{range_out}
use Rattle.decoder.proofs.Codes.{eight, codes, no_row}
use Rattle.decoder.proofs.op.Goals as goal

pub returns-in-0 : goal.returns-in-0
unfolding row_of op_word by_funct3
returns-in-0 c = let e = codes (omega arith) c.index.ensures c.in-0.is in simp (e.0, e.1)

pub returns-in-1 : goal.returns-in-1
unfolding row_of op_word by_funct3
returns-in-1 c = let e = codes (omega arith) c.index.ensures c.in-1.is in simp (e.0, e.1)

pub returns-in-2 : goal.returns-in-2
unfolding row_of op_word by_funct3
returns-in-2 c = let e = codes (omega arith) c.index.ensures c.in-2.is in simp (e.0, e.1)

pub returns-in-3 : goal.returns-in-3
unfolding row_of op_word by_funct3
returns-in-3 c = let e = codes (omega arith) c.index.ensures c.in-3.is in simp (e.0, e.1)

pub returns-in-4 : goal.returns-in-4
unfolding row_of op_word by_funct3
returns-in-4 c = let e = codes (omega arith) c.index.ensures c.in-4.is in simp (e.0, e.1)

pub returns-in-5 : goal.returns-in-5
unfolding row_of op_word by_funct3
returns-in-5 c = let e = codes (omega arith) c.index.ensures c.in-5.is in simp (e.0, e.1)

pub returns-in-6 : goal.returns-in-6
unfolding row_of op_word by_funct3
returns-in-6 c = let e = codes (omega arith) c.index.ensures c.in-6.is in simp (e.0, e.1)

pub returns-in-7 : goal.returns-in-7
unfolding row_of op_word by_funct3
returns-in-7 c = let e = codes (omega arith) c.index.ensures c.in-7.is in simp (e.0, e.1)

pub returns-in-8 : goal.returns-in-8
unfolding row_of op_word by_funct3
returns-in-8 c = let e = codes (omega arith) c.index.ensures c.in-8.is in simp (e.0, e.1)

pub returns-in-9 : goal.returns-in-9
unfolding row_of op_word by_funct3
returns-in-9 c = let e = codes (omega arith) c.index.ensures c.in-9.is in simp (e.0, e.1)

pub returns-in-10 : goal.returns-in-10
unfolding row_of op_word by_funct3
returns-in-10 c = let e = codes (omega arith) c.index.ensures c.in-10.is in simp (e.0, e.1)

pub returns-in-11 : goal.returns-in-11
unfolding row_of op_word by_funct3
returns-in-11 c = let e = codes (omega arith) c.index.ensures c.in-11.is in simp (e.0, e.1)

pub returns-in-12 : goal.returns-in-12
unfolding row_of op_word by_funct3
returns-in-12 c = let e = codes (omega arith) c.index.ensures c.in-12.is in simp (e.0, e.1)

pub returns-in-13 : goal.returns-in-13
unfolding row_of op_word by_funct3
returns-in-13 c = let e = codes (omega arith) c.index.ensures c.in-13.is in simp (e.0, e.1)

pub returns-in-14 : goal.returns-in-14
unfolding row_of op_word by_funct3
returns-in-14 c = let e = codes (omega arith) c.index.ensures c.in-14.is in simp (e.0, e.1)

pub returns-in-15 : goal.returns-in-15
unfolding row_of op_word by_funct3
returns-in-15 c = let e = codes (omega arith) c.index.ensures c.in-15.is in simp (e.0, e.1)

pub returns-in-256 : goal.returns-in-256
unfolding row_of op_word by_funct3
returns-in-256 c = let e = codes (omega arith) c.index.ensures c.in-256.is in simp (e.0, e.1)

pub returns-in-261 : goal.returns-in-261
unfolding row_of op_word by_funct3
returns-in-261 c = let e = codes (omega arith) c.index.ensures c.in-261.is in simp (e.0, e.1)

pub returns-in_default : goal.returns-in_default
unfolding row_of op_word by_funct3
returns-in_default c =
    let f = fields_of c.args.w in
    let i = c.index.ensures in
    let r = c.in_default.in_default-own.rest in
    let other = no_row (eight 0b0000000 ++ eight 0b0000001 ++ (256 ∷ 261 ∷ [])) (omega arith) i r in
    found (λ i. Refused ≡ i) (on f) Refused f.funct7 (as_words by_funct3 ops) refl (
      (λ e. absurd (other 0b0000000 tt e)),
      (
        (λ e. absurd (other 0b0000001 tt e)),
        (
          (λ e. range_out op_as f f.funct3 [] alternates (0 ∷ 5 ∷ []) 0 8 (omega arith) (omega arith)
              ((tt, (λ d. r.0.1 (omega (arith, i)))), (λ d. r.1 (omega (arith, i)))) tt),
          tt,
        ),
      ),
    )
