-- The vector words: the table of the rules, row by row, with its forms column.
use Rattle.std.specs.Prelude.{List, [], ◌∷◌, ◌++◌, Bool, true, false, cond}
use Rattle.answer.specs.Rows.{Row, ◌⇒◌}
use Rattle.word.specs.declared.Op.{Op}
use Rattle.word.specs.declared.Op.TheVariants as O
use Rattle.isa.specs.declared.Source.{Source}
use Rattle.isa.specs.declared.Source.TheVariants as From
use Rattle.isa.specs.declared.Instr.{Instr}
use Rattle.isa.specs.declared.Instr.TheVariants as I
use Rattle.isa.specs.Fields.{Fields, x, v, funct6, vm, is_masked}
use Rattle.isa.specs.Table.{Words, word_at, as_words, fixed}

-- an op, and the forms that it has
pub record OpForms : Type 0 where
  pub op : Op
  pub vv : Bool
  pub vx : Bool
  pub vi : Bool

abbrev pub VV-VX-VI : Op → OpForms
VV-VX-VI o = record { op = o; vv = true; vx = true; vi = true }

abbrev pub VV-VX : Op → OpForms
VV-VX o = record { op = o; vv = true; vx = true; vi = false }

abbrev pub VX-VI : Op → OpForms
VX-VI o = record { op = o; vv = false; vx = true; vi = true }

-- the compares, which give 1 or 0, by funct6
abbrev pub compares : List (Row OpForms)
compares =
    0b011000 ⇒ VV-VX-VI O.Seq ∷ 0b011001 ⇒ VV-VX-VI O.Sne
    ∷ 0b011010 ⇒ VV-VX O.Sltu ∷ 0b011011 ⇒ VV-VX O.Slt
    ∷ 0b011100 ⇒ VV-VX-VI O.Sleu ∷ 0b011101 ⇒ VV-VX-VI O.Sle
    ∷ 0b011110 ⇒ VX-VI O.Sgtu ∷ 0b011111 ⇒ VX-VI O.Sgt ∷ []

-- by funct6
abbrev pub vector_table : List (Row OpForms)
vector_table =
    (0b000000 ⇒ VV-VX-VI O.Add ∷ 0b000010 ⇒ VV-VX O.Sub ∷ 0b000011 ⇒ VX-VI O.Rsub
    ∷ 0b000100 ⇒ VV-VX O.Minu ∷ 0b000101 ⇒ VV-VX O.Min ∷ 0b000110 ⇒ VV-VX O.Maxu ∷ 0b000111 ⇒ VV-VX O.Max
    ∷ 0b001001 ⇒ VV-VX-VI O.And ∷ 0b001010 ⇒ VV-VX-VI O.Or ∷ 0b001011 ⇒ VV-VX-VI O.Xor
    ∷ 0b100101 ⇒ VV-VX-VI O.Sll ∷ 0b101000 ⇒ VV-VX-VI O.Srl ∷ 0b101001 ⇒ VV-VX-VI O.Sra ∷ [])
    ++ compares

-- the M group, by funct6
abbrev pub multiply_table : List (Row OpForms)
multiply_table =
    0b100100 ⇒ VV-VX O.Mulhu ∷ 0b100101 ⇒ VV-VX O.Mul ∷ 0b100110 ⇒ VV-VX O.Mulhsu ∷ 0b100111 ⇒ VV-VX O.Mulh
    ∷ 0b100000 ⇒ VV-VX O.Divu ∷ 0b100001 ⇒ VV-VX O.Div ∷ 0b100010 ⇒ VV-VX O.Remu ∷ 0b100011 ⇒ VV-VX O.Rem ∷ []

-- the row has the form that goes with this last operand
abbrev pub has : Source → OpForms → Bool
has (From.V r) f = f.vv
has (From.X r) f = f.vx
has (From.I n) f = f.vi
has (From.Long n) f = false

abbrev pub vector_as : Source → OpForms → Fields → Instr
vector_as s f c =
    cond (has s f) (I.Vector f.op (record { vd = v c.rd; vs2 = v c.rs2; src = s; masked = is_masked c })) I.Refused

-- vmv.v (VV VX VI), vs2 = 0; masked, it is vmerge (VVM VXM VIM)
abbrev pub move_word : Source → Fields → Instr
move_word s c = cond (is_masked c) (I.VMerge (v c.rd) (v c.rs2) s) (fixed c.rs2 0 (I.VMove (v c.rd) s))

abbrev pub moves : Source → Words
moves s = 0b010111 ⇒ move_word s ∷ []

unfoldable pub plain_word : Source → Fields → Instr
plain_word s c = word_at c (funct6 c) (moves s ++ as_words (vector_as s) vector_table)

-- vmv.x.s (VV, vs1 0) and vmv.s.x (VX, vs2 0), vm = 1; vid.v (VV, vs2 0, vs1 10001)
abbrev pub move_xsword : Fields → Instr
move_xsword c = fixed (vm c) 1 (fixed c.rs1 0 (I.VMoveXS (x c.rd) (v c.rs2)))

abbrev pub move_sxword : Fields → Instr
move_sxword c = fixed (vm c) 1 (fixed c.rs2 0 (I.VMoveSX (v c.rd) (x c.rs1)))

abbrev pub vid_word : Fields → Instr
vid_word c = fixed c.rs2 0 (fixed c.rs1 0b10001 (I.Vid (is_masked c) (v c.rd)))

abbrev pub moves_m : Source → Words
moves_m (From.V r) = 0b010000 ⇒ move_xsword ∷ 0b010100 ⇒ vid_word ∷ []
moves_m (From.X r) = 0b010000 ⇒ move_sxword ∷ []
moves_m (From.I n) = []
moves_m (From.Long n) = []

unfoldable pub multiply_word : Source → Fields → Instr
multiply_word s c = word_at c (funct6 c) (moves_m s ++ as_words (vector_as s) multiply_table)

-- the last operand, in the place of rs1
abbrev pub from_v : Fields → Source
from_v c = From.V (v c.rs1)

abbrev pub from_x : Fields → Source
from_x c = From.X (x c.rs1)

abbrev pub from_i : Fields → Source
from_i c = From.I c.rs1

-- by funct3: 000 VV, 011 VI, 100 VX; M group 010 VV, 110 VX
abbrev pub operands : Words
operands =
    0b000 ⇒ (λ c. plain_word (from_v c) c) ∷ 0b011 ⇒ (λ c. plain_word (from_i c) c) ∷ 0b100 ⇒ (λ c. plain_word (from_x c) c)
    ∷ 0b010 ⇒ (λ c. multiply_word (from_v c) c) ∷ 0b110 ⇒ (λ c. multiply_word (from_x c) c) ∷ []

unfoldable pub vector_word : Fields → Instr
vector_word c = word_at c c.funct3 operands
