-- A number for each op, so that two can be compared; and the op of a number.
use Rattle.std.specs.Prelude.{ℕ, List, [], ◌∷◌}
use Rattle.answer.specs.Rows.{Row, ◌⇒◌}
use Rattle.word.specs.declared.Op.{Op}
use Rattle.word.specs.declared.Op.TheVariants as O
use Rattle.isa.specs.Table.{pick_row}

abbrev pub number : Op → ℕ
number O.Add = 0
number O.Sub = 1
number O.Rsub = 2
number O.Sll = 3
number O.Srl = 4
number O.Sra = 5
number O.Slt = 6
number O.Sltu = 7
number O.And = 8
number O.Or = 9
number O.Xor = 10
number O.Mul = 11
number O.Mulh = 12
number O.Mulhsu = 13
number O.Mulhu = 14
number O.Div = 15
number O.Divu = 16
number O.Rem = 17
number O.Remu = 18
number O.Min = 19
number O.Minu = 20
number O.Max = 21
number O.Maxu = 22
number O.Seq = 23
number O.Sne = 24
number O.Sle = 25
number O.Sleu = 26
number O.Sgt = 27
number O.Sgtu = 28

abbrev pub every_op : List Op
every_op =
    O.Add ∷ O.Sub ∷ O.Rsub ∷ O.Sll ∷ O.Srl ∷ O.Sra ∷ O.Slt ∷ O.Sltu ∷ O.And ∷ O.Or ∷ O.Xor
    ∷ O.Mul ∷ O.Mulh ∷ O.Mulhsu ∷ O.Mulhu ∷ O.Div ∷ O.Divu ∷ O.Rem ∷ O.Remu ∷ O.Min ∷ O.Minu ∷ O.Max ∷ O.Maxu
    ∷ O.Seq ∷ O.Sne ∷ O.Sle ∷ O.Sleu ∷ O.Sgt ∷ O.Sgtu ∷ []

abbrev pub by_number : List Op → List (Row Op)
by_number [] = []
by_number (o ∷ os) = number o ⇒ o ∷ by_number os

-- the last op where no op has the number
unfoldable pub op_at : ℕ → Op
op_at n = pick_row O.Sgtu n (by_number every_op)
