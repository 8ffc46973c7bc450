use mathlib.Core.Path.{refl}
use Rattle.answer.proofs.Numbers.{some_number}
use Rattle.capi_sheet.proofs.Laws.{sheet_card, sheet_room_lem, sheet_call}
use Rattle.capi_sheet.proofs.bench_sheet.Goals as goal

pub returns-in-Err : goal.returns-in-Err
returns-in-Err c = rw c.number.ensures (sheet_card _ _ _ _ _ c.in-Err.ensures _ _ (some_number _) _ c.put_count.ensures)

pub returns-then-written-ne1 : goal.returns-then-written-ne1
returns-then-written-ne1 c = rw c.number-then-written-ne1.ensures (sheet_room_lem _ _ _ _ _ c.in-Ok.ensures _ _ refl c.if-written-ne1.true)

pub returns : goal.returns
returns c = rw c.number-2.ensures
    (sheet_call _ _ _ _ _ c.in-Ok.ensures _ _ refl c.if-written-ne1.false _ c.model-modelled.ensures _ (rw c.unwrap_or.ensures at c.put_count-2.ensures))
