use native.Mathlib.Omega.{arith}
use Rattle.text.proofs.Laws.{puts_then}
use Rattle.sheet_text.specs.SheetText.{refusal_text}
use Rattle.sheet_text.proofs.put_refusal.Goals as goal

pub returns : goal.returns
unfolding refusal_text
returns c = (puts_then (puts_then (puts_then c.put_text-one.ensures c.put_number-two.ensures.0) c.put_text-three.ensures) c.put_words.ensures.0, omega arith)
