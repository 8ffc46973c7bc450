-- The values of a layout put into a target one after another, as code does it.
use Rattle.std.specs.Prelude.{ℕ, zero, suc, ◌+◌, List, drop}
use Rattle.std.proofs.lemmas.List.Edits.{sets}
use Rattle.big_endian.specs.BigEndian.{be_bytes}
use Rattle.big_endian.specs.Layout.{Values, end, ◌▹◌}

-- the target t after the values are put into it, from index i on
abbrev pub puts_all : {ws : List ℕ} → Values ws → ℕ → List ℕ → List ℕ
puts_all end i t = t
puts_all (◌▹◌ {w} x xs) i t = puts_all xs (i + w) (sets t i (be_bytes w x))

-- the values after the first n
abbrev pub later : {ws : List ℕ} (n : ℕ) → Values ws → Values (drop n ws)
later zero xs = xs
later (suc n) end = end
later (suc n) (x ▹ xs) = later n xs
