use mathlib.Core.Path.{sym, ap, ◌∙◌}
use Rattle.card.specs.Card.{values_of, card_of, writing}
use Rattle.big_endian.proofs.LayoutLaws.{puts_all_lem}
use Rattle.card.proofs.CardLaws.{write_total, write_range, write_done}
use native.Mathlib.Omega.{arith}
use Rattle.card.proofs.write_card.Goals as goal

pub returns-then-target-ne-CARD_SIZE : goal.returns-then-target-ne-CARD_SIZE
returns-then-target-ne-CARD_SIZE c = write_total _ _ (λ e. omega arith)

pub returns-then-not-launch_ok : goal.returns-then-not-launch_ok
returns-then-not-launch_ok c = write_range _ _ (omega arith) (sym c.launch_ok.ensures ∙ c.if-not-launch_ok.true)

pub returns : goal.returns
unfolding card_of
returns c =
    let size = c.if-target-ne-CARD_SIZE.false in
    ap (writing 0) (c.put_later.ensures ∙ c.put_first.ensures ∙ puts_all_lem (values_of _) _ size)
    ∙ write_done _ _ size (sym c.launch_ok.ensures ∙ c.if-not-launch_ok.false)
