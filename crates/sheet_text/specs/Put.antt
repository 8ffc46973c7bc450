-- What the calls answer and leave: a text at the start of a buffer, or nothing.
use Rattle.std.specs.Prelude.{ℕ, ◌+◌, Bool, cond, List, [], leb, length}
use Rattle.std.proofs.lemmas.List.Edits.{sets}
use Rattle.sheet_lines.specs.declared.Marks.{Marks}
use Rattle.sheet_text.specs.SheetText.{mark_line, refusal_line, written_line, unwritten_line}

-- how many bytes of the text were put, and the buffer afterwards
pub record Put : Type 0 where
  pub size : ℕ
  pub out : List ℕ

abbrev pub put : ℕ → List ℕ → Put
put n o = record { size = n; out = o }

-- the text w at the start of o, where the test holds; else nothing
unfoldable pub put_where : Bool → List ℕ → List ℕ → Put
put_where t o w = cond t (put (length w) (sets o 0 w)) (put 0 o)

-- ---- the calls

-- room for every line beside its name
abbrev pub line_room : ℕ
line_room = 105

-- for a line with the name
abbrev pub room_for : List ℕ → List ℕ → Bool
room_for name o = leb (length name + line_room) (length o)

unfoldable pub mark_line_into : List ℕ → ℕ → Marks → ℕ → ℕ → List ℕ → Put
mark_line_into name c a n m o = put_where (room_for name o) o (mark_line name c a n m)

unfoldable pub refusal_line_into : ℕ → List ℕ → Put
refusal_line_into c o = put_where (room_for [] o) o (refusal_line c)

unfoldable pub written_line_into : List ℕ → ℕ → ℕ → List ℕ → Put
written_line_into name n b o = put_where (room_for name o) o (written_line name n b)

unfoldable pub unwritten_line_into : List ℕ → List ℕ → Put
unwritten_line_into name o = put_where (room_for name o) o (unwritten_line name)
