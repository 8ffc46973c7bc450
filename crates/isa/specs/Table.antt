-- Tables of codes, and what stands at a code.
use Rattle.std.specs.Prelude.{ℕ, List, [], ◌∷◌, cond, eqb}
use Rattle.answer.specs.Rows.{Row, ◌⇒◌}
use Rattle.isa.specs.Fields.{Fields}
use Rattle.isa.specs.declared.Instr.{Instr}
use Rattle.isa.specs.declared.Instr.TheVariants.{Refused}

-- what f makes of the row at code k, or the other answer where there is no such row
abbrev pub seek : {A B : Type 0} → (A → B) → B → ℕ → List (Row A) → B
seek f other k [] = other
seek f other k (r ∷ rs) = cond (eqb k r.code) (f r.is) (seek f other k rs)

-- what a table has at a code, or z where it has no such row
abbrev pub pick_row : {A : Type 0} → A → ℕ → List (Row A) → A
pick_row z k t = seek (λ a. a) z k t

-- words by a code: each row makes an instruction of the other fields
abbrev pub Words : Type 0
Words = List (Row (Fields → Instr))

abbrev pub on : Fields → (Fields → Instr) → Instr
on c make = make c

-- the word with these fields and the code k, or Refused
abbrev pub word_at : Fields → ℕ → Words → Instr
word_at c k t = seek (on c) Refused k t

-- the words of a table of ops
abbrev pub as_words : {A : Type 0} → (A → Fields → Instr) → List (Row A) → Words
as_words make [] = []
as_words make (r ∷ rs) = r.code ⇒ make r.is ∷ as_words make rs

-- the instruction where the fixed field n has the value it must have, else Refused
abbrev pub fixed : ℕ → ℕ → Instr → Instr
fixed n k i = cond (eqb n k) i Refused
