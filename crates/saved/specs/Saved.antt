-- A warp saved as 241 words, and restored.
use Rattle.std.specs.Prelude.{ℕ, Bool, not, cond, List, [], ◌∷◌, eqb, leb}
use Rattle.answer.specs.Rows.{Row, ◌⇒◌, first}
use Rattle.warp.specs.declared.Warp.{Warp}
use Rattle.warp.specs.Warp.{split_count, zero_warp, Answered, answered}
use Rattle.layout.specs.Words.{is_state, words_of, warp_in, sound_in}

-- what a saving leaves: its number, and the run that was lent
pub record Saving : Type 0 where
  pub number : ℕ
  pub state : List ℕ

abbrev pub saving : ℕ → List ℕ → Saving
saving n t = record { number = n; state = t }

abbrev pub save_tests : Warp → List ℕ → List (Row Bool)
save_tests w t = 1 ⇒ not (is_state t) ∷ 2 ⇒ not (leb w.depth split_count) ∷ []

-- a refused saving writes nothing
unfoldable pub save_of : Warp → List ℕ → Saving
save_of w t =
    let c : ℕ = first (save_tests w t) in
    cond (eqb c 0) (saving 0 (words_of w)) (saving c t)

abbrev pub restore_tests : List ℕ → List (Row Bool)
restore_tests t = 1 ⇒ not (is_state t) ∷ 2 ⇒ not (sound_in t) ∷ []

-- a refused restoring gives the zero warp
unfoldable pub restore_of : List ℕ → Answered
restore_of t =
    let c : ℕ = first (restore_tests t) in
    cond (eqb c 0) (answered 0 (warp_in t)) (answered c zero_warp)
