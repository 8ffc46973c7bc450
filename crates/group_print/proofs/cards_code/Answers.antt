use mathlib.Core.Path.{refl}
use Rattle.group_print.proofs.Laws.{cards_code_lem}
use Rattle.group_print.proofs.cards_code.Goals as goal

pub returns : goal.returns
returns c = cards_code_lem _ _ _ _ _ _ c.bench_group_launch.ensures refl
