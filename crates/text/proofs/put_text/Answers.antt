use mathlib.Core.Path.{refl}
use Rattle.text.proofs.Laws.{put_part}
use Rattle.text.proofs.put_text.Goals as goal
use native.Mathlib.Omega.{arith}

pub returns : goal.returns
returns c =
    let s = c.args in
    record { text = put_part s.out.now c.copy_from_slice.new.self s.text.now s.at _ c.copy_from_slice.ensures.after (omega arith) (omega (arith, c.requires)); end = refl }
