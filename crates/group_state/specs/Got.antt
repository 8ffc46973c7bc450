-- The words of a state's warps, copied out of it and put back.
use Rattle.std.specs.Prelude.{ℕ, ◌<◌, ◌≡◌, List}
use Rattle.layout.specs.declared.WarpWords.{WarpWords}
use Rattle.layout.specs.Parts.{parts_in, state_from}
use Rattle.group_words.specs.Row.{words_at}
use Rattle.group_state.specs.GroupState.{words_in}

-- the words of the first n warps of the state s
abbrev pub Got : ℕ → List ℕ → List WarpWords → Type 0
Got n s ws = (i : ℕ) → i < n → words_at ws i ≡ parts_in (words_in i s)

-- warp i's words as they are put
abbrev pub put_at : List WarpWords → ℕ → List ℕ
put_at ws i = state_from (words_at ws i)
