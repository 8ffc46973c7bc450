-- Laws of the vector tables' forms, by what a `match` on funct6 tells.
use Prim.Native.Nat.{ℕ, ◌+◌, ◌<◌, ◌≤◌}
use mathlib.Core.Path.{◌≡◌, refl, ◌∙◌}
use mathlib.Core.List.{List, [], ◌∷◌, ◌++◌}
use mathlib.Core.Bool.{Bool, true, false, cond}
use lib.Dec.{T, eqb}
use Rattle.answer.specs.Rows.{Row}
use Rattle.answer.proofs.Matches.{NoneOf, each, in_range}
use Rattle.isa.specs.declared.Source.{Source}
use Rattle.isa.specs.declared.Instr.{Instr}
use Rattle.isa.specs.declared.Instr.TheVariants.{Refused}
use Rattle.isa.specs.Fields.{Fields}
use Rattle.isa.specs.Table.{seek, Words, on, word_at, as_words}
use Rattle.isa.specs.Vector.{OpForms, has, vector_as}
use Rattle.isa.specs.Kinds.{source_in, lane_op_word}
use Rattle.isa.proofs.Laws.{NoneFrom, past}

module _ (c : Fields) (k : ℕ) where
  -- a row that has the form is the vector word of its op
  formed_row :
      (b form rest : Bool) (i m n : Instr) → T (cond b form rest) → (T rest → m ≡ n) → cond b i m ≡ cond b (cond form i Refused) n
  formed_row true true rest i m n t e = refl
  formed_row true false rest i m n t e = absurd t
  formed_row false form rest i m n t e = e t

  formed :
      (t : List (Row OpForms)) → T (seek (has (source_in c)) true k t)
      → seek (λ f. lane_op_word f.op c) Refused k t ≡ word_at c k (as_words (vector_as (source_in c)) t)
  formed [] q = refl
  formed (r ∷ rs) q = formed_row (eqb k r.code) (has (source_in c) r.is) _ _ _ _ q (formed rs)

  -- every row of the range has the form of the last operand; u are the words before the table's
  module _
      (s : Source) (q : source_in c ≡ s) (u : Words) (e : NoneFrom (Unit {0}) k u) (t : List (Row OpForms)) (xs : List ℕ) (lo n : ℕ)
      (a : lo ≤ k) (b : k < lo + n) (h : NoneOf (Unit {0}) k xs) where
    pub form_in :
        T (each (λ k. seek (has s) true k t) xs lo n)
        → seek (λ f. lane_op_word f.op c) Refused k t ≡ word_at c k (u ++ as_words (vector_as s) t)
    form_in p =
        rw (← q) (formed t (rw (← q) at (in_range (λ k. seek (has s) true k t) xs lo n k p a b h)))
        ∙ past (on c) Refused k u (as_words (vector_as s) t) e
