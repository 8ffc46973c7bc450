-- The hypotheses of StateCalls.antt are met, by computing: ENDPRG alone, 4 lanes, base 80000000.
use Prim.Native.Nat.{ℕ}
use mathlib.Core.Path.{◌≡◌, refl}
use mathlib.Core.List.{List, [], ◌∷◌}
use lib.ListN.{replicate}
use Rattle.lanes.specs.Lanes.{file_words}
use Rattle.warp.specs.WellFormed.{fixed_ok_of}
use Rattle.layout.specs.Words.{state_words}
use Rattle.definition.specs.Refuse.{runs_ok_of}
use Rattle.definition.specs.Calls.{launch_of}
use Rattle.card.specs.Card.{head_ok_at, launch_at, read_card_of}
use Rattle.capi.specs.Calls.{Called, launch_call_of}
use Rattle.call_promises.specs.StateCalls.{CallLeaves}
use Rattle.call_promises.proofs.StateCalls.{launch_call_reaches}

-- length 48, version 1, NUMT 4, NUMW 1, WID 0; the mask; code base, data base and entry PC; KNL to GIDZ
abbrev card : List ℕ
card = 0 ∷ 48 ∷ 1 ∷ 4 ∷ 1 ∷ 0 ∷ 0 ∷ 0 ∷ 0 ∷ 15 ∷ 128 ∷ 0 ∷ 0 ∷ 0 ∷ 0 ∷ 0 ∷ 0 ∷ 0 ∷ 128 ∷ 0 ∷ 0 ∷ 0 ∷ replicate 28 0

abbrev kernel : List ℕ
kernel = 0x0000400b ∷ []

abbrev call : Called
call = launch_call_of card kernel (replicate file_words 0) [] (replicate state_words 0)

-- the launch is answered 0, so that there are words of a reached state
taken : call.number ≡ 0
unfolding launch_call_of read_card_of head_ok_at launch_at launch_of runs_ok_of fixed_ok_of
taken = refl

held : CallLeaves kernel (read_card_of card).launch call
held = launch_call_reaches card kernel (replicate file_words 0) [] (replicate state_words 0) taken
