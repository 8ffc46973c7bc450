use mathlib.Core.Path.{sym, ap, ◌∙◌}
use Rattle.warp.specs.WellFormed.{launch_ok_of}
use Rattle.card.proofs.CardLaws.{read_total, read_head, read_range, read_done}
use Rattle.card.proofs.read_card.Goals as goal

pub returns-then-bytes-ne-CARD_SIZE : goal.returns-then-bytes-ne-CARD_SIZE
returns-then-bytes-ne-CARD_SIZE c = read_total _ c.if-bytes-ne-CARD_SIZE.true

pub returns-then-not-head_ok : goal.returns-then-not-head_ok
returns-then-not-head_ok c = read_head _ c.if-bytes-ne-CARD_SIZE.false (sym c.head_ok.ensures ∙ c.if-not-head_ok.true)

pub returns-then-not-launch_ok : goal.returns-then-not-launch_ok
returns-then-not-launch_ok c = read_range _ c.if-bytes-ne-CARD_SIZE.false (sym c.head_ok.ensures ∙ c.if-not-head_ok.false)
    (ap launch_ok_of (sym c.launch_at-l.ensures) ∙ sym c.launch_ok.ensures ∙ c.if-not-launch_ok.true)

pub returns : goal.returns
returns c = rw c.launch_at-l.ensures
    (read_done _ c.if-bytes-ne-CARD_SIZE.false (sym c.head_ok.ensures ∙ c.if-not-head_ok.false)
    (ap launch_ok_of (sym c.launch_at-l.ensures) ∙ sym c.launch_ok.ensures ∙ c.if-not-launch_ok.false))
