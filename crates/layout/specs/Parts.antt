-- A warp's words as the code holds them, part by part.
use Rattle.std.specs.Prelude.{ℕ, Bool, List, [], ◌++◌, replicate}
use Rattle.isa.specs.Bounds.{scalar_registers}
use Rattle.warp.specs.declared.Warp.{Warp}
use Rattle.layout.specs.Words.{flat_count, moving_count, fixed_count, warp_of, sound_of, splits_words, moving_words, fixed_words, scalar_part, split_part, moving_part, fixed_part}
use Rattle.layout.specs.declared.WarpWords.{WarpWords}

-- what get_or gives past the end of a list, spelled as the prover spells it
abbrev pub no_words : WarpWords
no_words = record { moving = []; fixed = []; scalars = []; splits = [] }

unfoldable pub zero_parts : WarpWords
zero_parts = record { moving = replicate moving_count 0; fixed = replicate fixed_count 0; scalars = replicate scalar_registers 0; splits = replicate flat_count 0 }

-- the words of a warp, and the warp that words stand for
abbrev pub parts_of : Warp → WarpWords
parts_of w = record { moving = moving_words w; fixed = fixed_words w.fixed; scalars = w.x; splits = splits_words w.splits }

abbrev pub warp_from : WarpWords → Warp
warp_from w = warp_of w.fixed w.moving w.scalars w.splits

-- they stand for a warp and are its words
abbrev pub sound_from : WarpWords → Bool
sound_from w = sound_of w.moving w.splits

-- the words of a saved state, and the state of words
abbrev pub parts_in : List ℕ → WarpWords
parts_in t = record { moving = moving_part t; fixed = fixed_part t; scalars = scalar_part t; splits = split_part t }

abbrev pub state_from : WarpWords → List ℕ
state_from w = w.scalars ++ w.splits ++ w.moving ++ w.fixed
