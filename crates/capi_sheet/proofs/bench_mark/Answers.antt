use mathlib.Core.Path.{refl}
use Rattle.answer.proofs.Numbers.{some_number}
use Rattle.capi_sheet.proofs.Laws.{mark_card, mark_room, mark_call}
use Rattle.capi_sheet.proofs.bench_mark.Goals as goal

pub returns-in-Err : goal.returns-in-Err
returns-in-Err c = rw c.number.ensures (mark_card _ _ _ _ _ c.in-Err.ensures _ _ (some_number _) _ c.put_marks.ensures)

pub returns-then-res-ne2 : goal.returns-then-res-ne2
returns-then-res-ne2 c = rw c.number-then-res-ne2.ensures (mark_room _ _ _ _ _ c.in-Ok.ensures _ _ refl c.if-res-ne2.true)

pub returns-in-Ok-mark : goal.returns-in-Ok-mark
returns-in-Ok-mark c = mark_call _ _ _ _ _ c.in-Ok.ensures _ _ refl c.if-res-ne2.false _ c.in-Ok-mark.ensures _ c.put_marks-in-Ok-mark.ensures

pub returns-in-Err-mark : goal.returns-in-Err-mark
returns-in-Err-mark c = rw c.number-in-Err-mark.ensures
    (mark_call _ _ _ _ _ c.in-Ok.ensures _ _ refl c.if-res-ne2.false _ c.in-Err-mark.ensures _ c.put_marks-in-Err-mark.ensures)
