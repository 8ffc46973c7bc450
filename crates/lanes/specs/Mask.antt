-- Lanes and lane masks: lane l is in a mask where the binary digit at place l is 1.
use Rattle.std.specs.Prelude.{Bool, ℕ, ◌/◌, ◌%◌, ◌^◌, eqb}
use Rattle.std.specs.Int.Bits.{bit_and}
use Rattle.lanes.specs.declared.Lane.{Lane}

-- the lane of a number
abbrev pub lane : ℕ → Lane
lane n = record { 0 = n }

-- the digit of the mask m at place l
unfoldable pub bit_at : ℕ → ℕ → ℕ
bit_at l m = m / 2 ^ l % 2

-- lane l is in the mask m
abbrev pub bit : ℕ → Lane → Bool
bit m l = eqb (bit_at l.0 m) 1

-- every lane of e is a lane of m
abbrev pub inside : ℕ → ℕ → Bool
inside e m = eqb (bit_and e m) e
