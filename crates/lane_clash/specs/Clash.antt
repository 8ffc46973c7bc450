-- What the contracts of the clash test say: lanes that stand apart, and pairs of stores of w bytes.
use Rattle.std.specs.Prelude.{◌≡◌, Bool, true, cond, List, ℕ, ◌+◌, ◌-◌, ◌*◌, ◌/◌, ◌%◌, ◌^◌, ◌≤◌, ◌<◌, eqb}
use Rattle.word.specs.Word.{sub_of}
use Rattle.lanes.specs.declared.Lane.{Lane}
use Rattle.lanes.specs.Mask.{bit, lane}
use Rattle.lanes.specs.Lanes.{all_lanes, ok_if}
use Rattle.lanes.specs.Rows.{at}
use Rattle.memory.specs.Memory.{has_of, Has}

-- ---- lanes that go up or down

abbrev pub reach : ℕ
reach = 2 ^ 26

-- how far b is above a, or below it, wrapping
abbrev pub away_of : Bool → ℕ → ℕ → ℕ
away_of up a b = cond up (sub_of b a) (sub_of a b)

-- b is at least w, and not too far, above a, or below it
abbrev pub Follows : Bool → ℕ → ℕ → ℕ → Type 0
Follows up w a b = (a < 2 ^ 32) × (b < 2 ^ 32) × (sub_of (away_of up a b) w < reach)

-- so is each address of the row o and the next
abbrev pub Spread : Bool → ℕ → ℕ → List ℕ → Type 0
Spread up w n o = (i : ℕ) → i + 1 < n → Follows up w (at o (lane i)) (at o (lane (i + 1)))

-- no address is in the accesses of two lanes
abbrev pub NoneMeet : ℕ → ℕ → List ℕ → Type 0
NoneMeet w n o = (l h : Lane) → l.0 < h.0 → h.0 < n → (c : ℕ) → Has w (at o l) c → Has w (at o h) c → ⊥

-- ---- pairs

-- the n low bytes of x and y are the same
abbrev pub low_same : ℕ → ℕ → ℕ → Bool
low_same n x y = eqb (x % 2 ^ (8 * n)) (y % 2 ^ (8 * n))

-- a store of y at b that begins in one of x at a has the same bytes there
abbrev pub from_of : ℕ → ℕ → ℕ → ℕ → ℕ → Bool
from_of w a x b y = ok_if (has_of w a b) (low_same (a + w - b) (x / 2 ^ (8 * (b - a))) y)

-- lane l's store agrees with lane h's where that begins in it, and with each of the mask's
abbrev pub lane_with : ℕ → List ℕ → List ℕ → Lane → Lane → Bool
lane_with w o x l h = from_of w (at o l) (at x l) (at o h) (at x h)

abbrev pub lane_from : ℕ → ℕ → ℕ → List ℕ → List ℕ → Lane → Bool
lane_from w mask n o x l = all_lanes n (λ h. ok_if (bit mask h) (lane_with w o x l h))

-- so does every lane's
abbrev pub pairs_from : ℕ → ℕ → ℕ → List ℕ → List ℕ → Bool
pairs_from w mask n o x = all_lanes n (λ l. ok_if (bit mask l) (lane_from w mask n o x l))

-- no active lane's access goes past the last address
abbrev pub NonePast : ℕ → ℕ → ℕ → List ℕ → Type 0
NonePast w mask n o = (l : Lane) → l.0 < n → bit mask l ≡ true → at o l + w ≤ 2 ^ 32
