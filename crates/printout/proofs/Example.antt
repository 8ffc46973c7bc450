-- The example printout, by computing: ENDPRG alone, 4 lanes, base 80000000.
use mathlib.Core.Path.{◌≡◌, refl}
use Prim.Native.Nat.{ℕ}
use mathlib.Core.List.{List, [], ◌∷◌}
use lib.ListN.{replicate}
use Rattle.isa.specs.Decode.{decode_of}
use Rattle.isa.specs.Ventus.{warp_word, stop_word, end_prg_word}
use Rattle.isa.specs.Prefix.{prefixed}
use Rattle.lanes.specs.Mask.{bit_at}
use Rattle.warp.specs.WellFormed.{fixed_ok_of, split_ok_of, chain_of, all_zero, prefix_ok_of, well_formed_of}
use Rattle.card.specs.Card.{head_ok_at, launch_at, read_card_of}
use Rattle.definition.specs.Refuse.{runs_ok_of, refusals_of}
use Rattle.definition.specs.Exec.{effect_of}
use Rattle.definition.specs.Step.{step_of}
use Rattle.definition.specs.Calls.{launch_of, steps_of, run_of}
use Rattle.launch_files.specs.LaunchFiles.{kernel_words_of, files_ok_of, read_files_of}
use Rattle.text.specs.Text.{decimal_of, hex_of}
use Rattle.lines.specs.Lines.{code_line, five_lines}
use Rattle.printout.specs.Printout.{kernel_report, report_of, printout_of}

-- length 48, version 1, NUMT 4, NUMW 1, WID 0; the mask; code base, data base and entry PC; KNL to GIDZ
abbrev card : List ℕ
card = 0 ∷ 48 ∷ 1 ∷ 4 ∷ 1 ∷ 0 ∷ 0 ∷ 0 ∷ 0 ∷ 15 ∷ 128 ∷ 0 ∷ 0 ∷ 0 ∷ 0 ∷ 0 ∷ 0 ∷ 0 ∷ 128 ∷ 0 ∷ 0 ∷ 0 ∷ replicate 28 0

-- the files' printout is code 3, steps 1, pc 80000000, mask f, splits 0
end_alone : printout_of card (11 ∷ 64 ∷ 0 ∷ 0 ∷ []) [] ≡ five_lines 3 1 0x80000000 15 0
unfolding printout_of report_of read_files_of files_ok_of kernel_words_of kernel_report read_card_of head_ok_at launch_at launch_of run_of steps_of step_of runs_ok_of refusals_of effect_of well_formed_of fixed_ok_of chain_of split_ok_of all_zero prefix_ok_of bit_at decode_of prefixed warp_word stop_word end_prg_word
end_alone = refl

-- and those are the lines
end_alone_lines : five_lines 3 1 2147483648 15 0
    ≡ 99 ∷ 111 ∷ 100 ∷ 101 ∷ 32 ∷ 51 ∷ 10
    ∷ 115 ∷ 116 ∷ 101 ∷ 112 ∷ 115 ∷ 32 ∷ 49 ∷ 10
    ∷ 112 ∷ 99 ∷ 32 ∷ 56 ∷ 48 ∷ 48 ∷ 48 ∷ 48 ∷ 48 ∷ 48 ∷ 48 ∷ 10
    ∷ 109 ∷ 97 ∷ 115 ∷ 107 ∷ 32 ∷ 48 ∷ 48 ∷ 48 ∷ 48 ∷ 48 ∷ 48 ∷ 48 ∷ 102 ∷ 10
    ∷ 115 ∷ 112 ∷ 108 ∷ 105 ∷ 116 ∷ 115 ∷ 32 ∷ 48 ∷ 10
    ∷ []
unfolding decimal_of hex_of code_line five_lines
end_alone_lines = refl
