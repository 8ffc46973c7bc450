-- Big-endian bytes: the highest byte of a number stands first.
use Rattle.std.specs.Prelude.{List, [], ◌∷◌, ℕ, zero, suc, ◌+◌, ◌*◌, ◌/◌, ◌%◌, ◌^◌, get_or}

-- the n bytes of d from index i on as a number
abbrev pub be_at : ℕ → List ℕ → ℕ → ℕ
be_at zero d i = 0
be_at (suc n) d i = get_or d i 0 * 256 ^ n + be_at n d (suc i)

-- the n low bytes of x
unfoldable pub be_bytes : ℕ → ℕ → List ℕ
be_bytes zero x = []
be_bytes (suc n) x = x / 256 ^ n % 256 ∷ be_bytes n x
