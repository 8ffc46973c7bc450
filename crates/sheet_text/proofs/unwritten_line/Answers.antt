use mathlib.Core.Path.{sym, ◌∙◌}
use borrow.Author.Tests.{leb-true}
use Rattle.sheet_text.specs.Put.{unwritten_line_into}
use Rattle.sheet_text.proofs.Laws.{put_nothing, put_done}
use Rattle.sheet_text.proofs.unwritten_line.Goals as goal

pub returns-then-not-room_for : goal.returns-then-not-room_for
unfolding unwritten_line_into
returns-then-not-room_for c = put_nothing _ _ _ (sym c.room_for.ensures ∙ c.if-not-room_for.true)

pub returns : goal.returns
unfolding unwritten_line_into
returns c =
    let room = sym c.room_for.ensures ∙ c.if-not-room_for.false in
    put_done _ room c.put_unwritten_line.ensures.0 c.put_unwritten_line.ensures.1 (leb-true _ _ room)
