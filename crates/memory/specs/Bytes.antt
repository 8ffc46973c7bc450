-- Little-endian bytes: the lowest byte of a number stands first.
use Rattle.std.specs.Prelude.{List, [], ◌∷◌, ℕ, zero, suc, ◌+◌, ◌*◌, ◌/◌, ◌%◌, get_or}

-- the n bytes of d from index i on as a number
abbrev pub le_at : ℕ → List ℕ → ℕ → ℕ
le_at zero d i = 0
le_at (suc n) d i = get_or d i 0 + 256 * le_at n d (suc i)

-- the n low bytes of x
unfoldable pub le_bytes : ℕ → ℕ → List ℕ
le_bytes zero x = []
le_bytes (suc n) x = x % 256 ∷ le_bytes n (x / 256)
