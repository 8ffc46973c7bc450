use mathlib.Core.Path.{◌≡◌, refl}
use mathlib.Core.List.{[], ◌∷◌}
use native.Mathlib.Omega.{arith}
use Rattle.isa.specs.declared.Instr.TheVariants.{Refused}
use Rattle.isa.specs.Fields.{fields_of}
use Rattle.isa.specs.Table.{on}
use Rattle.isa.specs.Scalar.{left_shifts, right_shifts, shift_as, shift_word, shifts}
use Rattle.isa.specs.Kinds.{row_of}
use Rattle.isa.proofs.Laws.{found}
use Rattle.isa.proofs.Tables.{range_out}
use Rattle.decoder.proofs.Codes.{codes}
use Rattle.decoder.proofs.shift.Goals as goal

pub returns-in-1 : goal.returns-in-1
unfolding row_of shift_word
returns-in-1 c = let e = codes (omega arith) c.index.ensures c.in-1.is in simp (e.0, e.1)

pub returns-in-5 : goal.returns-in-5
unfolding row_of shift_word
returns-in-5 c = let e = codes (omega arith) c.index.ensures c.in-5.is in simp (e.0, e.1)

pub returns-in-261 : goal.returns-in-261
unfolding row_of shift_word
returns-in-261 c = let e = codes (omega arith) c.index.ensures c.in-261.is in simp (e.0, e.1)

pub returns-in_default : goal.returns-in_default
unfolding row_of shift_word
returns-in_default c =
    let f = fields_of c.args.w in
    let i = c.index.ensures in
    let r = c.in_default.in_default-own.rest in
    found (λ i. Refused ≡ i) (on f) Refused f.funct3 shifts refl (
      (λ e. range_out shift_as f f.funct7 [] left_shifts (0 ∷ []) 0 128 (omega arith) (omega arith)
          (tt, (λ d. r.0.0.1 (omega (arith, i)))) tt),
      (
        (λ e. range_out shift_as f f.funct7 [] right_shifts (0 ∷ 32 ∷ []) 0 128 (omega arith) (omega arith)
            ((tt, (λ d. r.0.1 (omega (arith, i)))), (λ d. r.1 (omega (arith, i)))) tt),
        tt,
      ),
    )
