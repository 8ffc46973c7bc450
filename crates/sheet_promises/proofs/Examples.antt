-- A class of sheets, by computing: ENDPRG alone, 4 lanes, base 80000000, a run of one step. And a kernel whose first word is no instruction.
use Prim.Native.Nat.{ℕ}
use mathlib.Core.Path.{◌≡◌, refl}
use mathlib.Core.List.{List, [], ◌∷◌, ◌++◌, flatten}
use lib.ListN.{set, replicate}
use Rattle.isa.specs.Decode.{decode_of}
use Rattle.isa.specs.Ventus.{warp_word, stop_word, end_prg_word}
use Rattle.isa.specs.Prefix.{prefixed}
use Rattle.lanes.specs.Lanes.{file_words}
use Rattle.lanes.specs.Mask.{bit_at}
use Rattle.warp.specs.WellFormed.{fixed_ok_of, split_ok_of, chain_of, all_zero, prefix_ok_of, well_formed_of}
use Rattle.definition.specs.Refuse.{runs_ok_of, refusals_of}
use Rattle.definition.specs.Exec.{effect_of}
use Rattle.definition.specs.Step.{step_of}
use Rattle.definition.specs.Calls.{launch_of, steps_of, run_of}
use Rattle.big_endian.specs.BigEndian.{be_bytes}
use Rattle.card.proofs.Cases.{example}
use Rattle.sheet_lines.specs.declared.Marks.{Marks}
use Rattle.sheet_lines.specs.declared.Marks.TheVariants.{NoMarks, Full, Differs, Short, Long}
use Rattle.sheet_lines.specs.Sheet.{line_bytes, lines_of, head_of, sheet_of, sheet_ok_of, lines_at}
use Rattle.sheet_lines.specs.Compare.{compare_of}
use Rattle.sheet.specs.Mark.{own_of, own_end, lent_runs, lent_runs_of, marking, mark_of}

abbrev kernel : List ℕ
kernel = 0x0000400b ∷ []

-- what marking the sheet s answers, with a vector file that is not clear
abbrev Answers : List ℕ → List ℕ → ℕ → Marks → ℕ → List ℕ → Type 0
Answers k s n m t v = mark_of k example (replicate file_words 7) [] s ≡ marking n m t (lent_runs v [])

-- PC 80000000, word 0000400b, mask f, no split open
abbrev line : List ℕ
line = 0x80 ∷ 0 ∷ 0 ∷ 0 ∷ 0 ∷ 0 ∷ 0x40 ∷ 0x0b ∷ 0 ∷ 0 ∷ 0 ∷ 0x0f ∷ 0 ∷ []

abbrev model : List ℕ
model = 0 ∷ 0 ∷ 0 ∷ 14 ∷ 1 ∷ line

abbrev cleared : List ℕ
cleared = replicate file_words 0

-- full marks; one bit of the mask wrong; no steps; a step over; empty; the length counted with itself; a run of no steps, which clears the file
marked_class : Answers kernel model 0 Full 1 cleared
    × Answers kernel (set model 16 0x0e) 0 (Differs 1) 1 cleared
    × Answers kernel (0 ∷ 0 ∷ 0 ∷ 1 ∷ 1 ∷ []) 0 Short 1 cleared
    × Answers kernel (0 ∷ 0 ∷ 0 ∷ 27 ∷ 1 ∷ (line ++ line)) 0 Long 1 cleared
    × Answers kernel [] 16 NoMarks 0 (replicate file_words 7)
    × Answers kernel (set model 3 18) 16 NoMarks 0 (replicate file_words 7)
    × Answers (0 ∷ []) model 17 NoMarks 0 cleared
unfolding mark_of own_of own_end lent_runs_of lines_of line_bytes sheet_ok_of lines_at compare_of launch_of run_of steps_of step_of runs_ok_of refusals_of effect_of well_formed_of fixed_ok_of chain_of split_ok_of all_zero prefix_ok_of bit_at decode_of prefixed warp_word stop_word end_prg_word be_bytes
marked_class = (refl, refl, refl, refl, refl, refl, refl)

-- and the run's own sheet is that
own_sheet : sheet_of (own_of kernel example cleared []) ≡ model
unfolding sheet_of head_of flatten own_of own_end lines_of line_bytes launch_of step_of runs_ok_of refusals_of effect_of well_formed_of fixed_ok_of chain_of split_ok_of all_zero prefix_ok_of bit_at decode_of prefixed warp_word stop_word end_prg_word be_bytes
own_sheet = refl
