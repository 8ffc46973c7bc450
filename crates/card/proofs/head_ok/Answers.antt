use Rattle.card.specs.Card.{head_ok_at}
use Rattle.card.proofs.head_ok.Goals as goal

pub returns : goal.returns
unfolding head_ok_at
returns c = rw (c.half_at-length.ensures.0, c.byte_at-version.ensures.0)
