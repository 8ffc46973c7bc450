-- Numbers side by side in bytes, each big-endian in its own width. A layout is the list of the widths.
use Rattle.std.specs.Prelude.{ℕ, ◌+◌, List, [], ◌∷◌, ◌++◌}
use Rattle.big_endian.specs.BigEndian.{be_at, be_bytes}

infixr 68 ◌▹◌
-- a value for each width of a layout
pub data Values : List ℕ → Type 0 where
  end : Values []
  ◌▹◌ : {w : ℕ} {ws : List ℕ} → ℕ → Values ws → Values (w ∷ ws)

-- how many bytes a layout has
abbrev pub total_of : List ℕ → ℕ
total_of [] = 0
total_of (w ∷ ws) = w + total_of ws

-- reading: the values in the bytes d from index i on
abbrev pub values_at : (ws : List ℕ) → List ℕ → ℕ → Values ws
values_at [] d i = end
values_at (w ∷ ws) d i = be_at w d i ▹ values_at ws d (i + w)

-- writing: the values' bytes
abbrev pub bytes_of : {ws : List ℕ} → Values ws → List ℕ
bytes_of end = []
bytes_of (◌▹◌ {w} x xs) = be_bytes w x ++ bytes_of xs
