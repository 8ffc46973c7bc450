use mathlib.Core.Path.{◌∙◌}
use native.Mathlib.Omega.{arith}
use Rattle.text.proofs.Laws.{put_part}
use Rattle.big_endian.specs.BigEndian.{be_bytes}
use Rattle.big_endian.proofs.BigEndianLaws.{be_bytes_is, length_be}
use Rattle.big_endian.proofs.put_word.Goals as goal

pub returns : goal.returns
returns c = let s = c.args in put_part s.t.now _ (be_bytes 4 s.x) s.at _ (c.copy_from_slice.ensures.after ∙ c.to_be_bytes.ensures ∙ be_bytes_is 4 s.x) (omega (arith, length_be 4 s.x)) (omega (arith, c.requires))
