use mathlib.Core.Path.{refl, sym, ◌∙◌}
use Rattle.answer.proofs.Numbers.{some_number}
use Rattle.launch_files.proofs.Laws.{card_refused, sizes_refused, sizes_taken}
use Rattle.launch_files.proofs.read_files.Goals as goal

pub returns-in-Err : goal.returns-in-Err
returns-in-Err c = rw c.zero_launch.ensures (card_refused _ _ _ _ (rw c.in-Err.is at c.read_card.ensures) (some_number _))

pub returns-then-not-files_ok : goal.returns-then-not-files_ok
returns-then-not-files_ok c = sizes_refused _ _ _ _ (rw c.in-Ok.is at c.read_card.ensures) refl (sym c.files_ok.ensures ∙ c.if-not-files_ok.true)

pub returns : goal.returns
returns c = sizes_taken _ _ _ _ (rw c.in-Ok.is at c.read_card.ensures) refl (sym c.files_ok.ensures ∙ c.if-not-files_ok.false)
