-- What contracts say of a warp's words.
use Rattle.std.specs.Prelude.{ℕ, ◌*◌, ◌≡◌, true, List, length}
use Rattle.std.proofs.lemmas.List.Edits.{sets}
use Rattle.warp.specs.declared.Split.{Split}
use Rattle.warp.specs.Facts.{Formed}
use Rattle.layout.specs.Words.{split_size, flat_count, moving_count, split_words, warp_of, sound_of}

-- the split records with q at k
abbrev pub put_split : List ℕ → ℕ → Split → List ℕ
put_split s k q = sets s (k * split_size) (split_words q)

-- the words of a well-formed warp
pub record Lent (g h x s : List ℕ) : Type 0 where
  pub long : length h ≡ moving_count
  pub room : length s ≡ flat_count
  pub formed : Formed (warp_of g h x s)
  pub sound : sound_of h s ≡ true
