-- A group as words: the turn, then each warp's words one after another.
use Rattle.std.specs.Prelude.{ℕ, zero, suc, ◌+◌, ◌*◌, List, [], ◌∷◌, ◌++◌}
use Rattle.layout.specs.Words.{state_words, words_of}
use Rattle.group.specs.Group.{Group, count_of, warp_at}

-- f at each number below n, one after another
unfoldable pub joined : ℕ → (ℕ → List ℕ) → List ℕ
joined zero f = []
joined (suc n) f = joined n f ++ f n

abbrev pub state_words_of : Group → List ℕ
state_words_of m = m.turn ∷ joined (count_of m) (λ i. words_of (warp_at i m))

-- how many words a group of n warps has
abbrev pub group_words : ℕ → ℕ
group_words n = 1 + n * state_words
