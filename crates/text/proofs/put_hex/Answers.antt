use Rattle.text.specs.Text.{hex_of}
use Rattle.text.proofs.put_hex.Goals as goal

pub returns : goal.returns
unfolding hex_of
returns c = c.put_hex_digits.ensures
