use Prim.Native.Nat.{ℕ}
use lib.ListN.{take, drop}
use mathlib.Core.List.{List}
use mathlib.Core.Path.{ap, ◌∙◌}
use native.Mathlib.Omega.{arith}
use Rattle.text.proofs.Laws.{put_part}
use Rattle.big_endian.specs.BigEndian.{be_bytes}
use Rattle.big_endian.proofs.BigEndianLaws.{be_bytes_is, length_be}
use Rattle.big_endian.proofs.put_half.Goals as goal

pub returns : goal.returns
returns c = let s = c.args in put_part s.t.now _ (be_bytes 2 s.x) s.at _ (c.copy_from_slice.ensures.after ∙ ap (λ (l : List ℕ). take 2 (drop 2 l)) c.to_be_bytes.ensures ∙ be_bytes_is 2 s.x) (omega (arith, length_be 2 s.x)) (omega (arith, c.requires))
