use mathlib.Core.Path.{◌≡◌, refl}
use Rattle.answer.proofs.Numbers.{some_number}
use Rattle.card.specs.Card.{reading, read_card_of}
use Rattle.capi.proofs.Laws.{launch_card, launch_short, launch_call}
use Rattle.capi.proofs.bench_launch.Goals as goal

pub returns-in-Err : goal.returns-in-Err
returns-in-Err c = rw (c.number.ensures, c.blank.ensures) (launch_card _ _ _ _ _ _ _ (rw c.in-Err.is at c.read_card.ensures) (some_number _))

pub returns-then-state-ne-STATE_WORDS : goal.returns-then-state-ne-STATE_WORDS
returns-then-state-ne-STATE_WORDS c =
    let card_is : reading 0 c.in-Ok.l ≡ read_card_of c.args.card.now = rw c.in-Ok.is at c.read_card.ensures in
    rw c.number-then-state-ne-STATE_WORDS.ensures (launch_short _ _ _ _ _ _ _ card_is refl c.if-state-ne-STATE_WORDS.true)

pub returns : goal.returns
returns c =
    let card_is : reading 0 c.in-Ok.l ≡ read_card_of c.args.card.now = rw c.in-Ok.is at c.read_card.ensures in
    rw c.number-2.ensures
    (launch_call _ _ _ _ _ _ _ card_is refl c.if-state-ne-STATE_WORDS.false _ _ _ _ _ c.launch-launched.ensures (rw (c.unwrap_or.ensures, c.zero_warp.ensures) at c.save.ensures))
