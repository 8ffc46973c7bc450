-- A text put into a buffer.
use Rattle.std.specs.Prelude.{ℕ, ◌+◌, ◌≡◌, List, length}
use Rattle.std.proofs.lemmas.List.Edits.{sets}

-- the buffer o becomes p, with the text w from index i on, and j is the index after it
pub record Puts (o : List ℕ) (i : ℕ) (w p : List ℕ) (j : ℕ) : Type 0 where
  pub text : p ≡ sets o i w
  pub end : j ≡ i + length w
