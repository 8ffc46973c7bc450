-- The language's own bytes of a word, written to a part of a memory.
use mathlib.Core.Path.{◌≡◌, sym, ap, ap₂, ◌∙◌}
use mathlib.Core.List.{List, [], ◌∷◌, ◌++◌, append_assoc}
use Prim.Native.Nat.{ℕ, ◌+◌, ◌/◌, ◌%◌, ◌≤◌}
use native.Mathlib.Omega.{arith}
use lib.ListN.{length, take}
use lib.Seq.{sets, sets-eq, drop-drop}
use borrow.Rule.Slice.PartMut.{put_mid}
use Rattle.std.specs.Int.{to_le_bytes}
use Rattle.std.proofs.Common.{w32}
use Rattle.memory.specs.Bytes.{le_bytes}

-- a write to the part of o from i on, k long, that leaves w there
pub put_part : (o p w : List ℕ) (i k : ℕ) → p ≡ w → k ≡ length w → i + k ≤ length o → put_mid i k o p ≡ sets o i w
put_part o p w i k e f h =
    rw (e, f) (ap (λ (r : List ℕ). take i o ++ (w ++ r)) (drop-drop (length w) i o)
    ∙ sym (append_assoc (take i o) w _) ∙ sym (sets-eq w o i (omega arith)))

pub bytes_of_word : (x : ℕ) → to_le_bytes w32 x ≡ le_bytes 4 x
unfolding le_bytes
bytes_of_word x = ap₂ (λ (a b : ℕ). x % 256 ∷ x / 256 % 256 ∷ a ∷ b ∷ []) (omega arith) (omega arith)
