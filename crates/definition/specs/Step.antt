-- One step: the first test that holds refuses it, and where none does the instruction has its effect, on the state without the prefix that it uses up.
use Rattle.std.specs.Prelude.{ℕ, cond, List, eqb, get_or}
use Rattle.answer.specs.Rows.{first}
use Rattle.isa.specs.declared.Instr.{Instr}
use Rattle.warp.specs.declared.Warp.{Warp}
use Rattle.definition.specs.State.{State, Outcome, unless, place_of, instr_at, used_up}
use Rattle.definition.specs.Refuse.{fetch_tests, refusals_of, tests_of}
use Rattle.definition.specs.Exec.{effect, effect_of}

abbrev pub carried_out : Instr → State → State
carried_out i m = effect (effect_of i m) m

unfoldable pub step_of : List ℕ → State → Outcome
step_of k m = unless (first (tests_of k m)) (carried_out (instr_at k m) (used_up m)) m

-- an instruction alone, with its own tests
unfoldable pub exec_of : Instr → State → Outcome
exec_of i m = unless (first (refusals_of i m)) (carried_out i m) m

-- a number of 3 to 5, or 0 and the word that the PC lies on (0 where it is refused)
pub record Fetched : Type 0 where
  pub code : ℕ
  pub word : ℕ

abbrev pub fetched : ℕ → ℕ → Fetched
fetched c w = record { code = c; word = w }

unfoldable pub fetch_of : List ℕ → Warp → Fetched
fetch_of k w =
    let c : ℕ = first (fetch_tests k w) in
    fetched c (cond (eqb c 0) (get_or k (place_of w) 0) 0)
