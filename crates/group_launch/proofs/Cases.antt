-- Launches of few cards.
use Prim.Native.Nat.{ℕ}
use mathlib.Core.Path.{◌≡◌, refl}
use mathlib.Core.List.{List, [], ◌∷◌, ◌++◌}
use lib.ListN.{replicate, set}
use Rattle.memory.specs.Memories.{Contents, contents}
use Rattle.warp.specs.declared.Launch.{Launch}
use Rattle.warp.specs.WellFormed.{fixed_ok_of}
use Rattle.layout.specs.Words.{splits_words, words_of}
use Rattle.definition.specs.Refuse.{runs_ok_of}
use Rattle.definition.specs.Calls.{launched_of}
use Rattle.card.specs.Card.{head_ok_at, launch_at, read_card_of}
use Rattle.card.proofs.Cases.{card}
use Rattle.lanes.specs.Lanes.{all_below}
use Rattle.group.specs.GroupRefuse.{sizes_ok_of, placed_of}
use Rattle.group.specs.GroupCalls.{group_launch_of}
use Rattle.group_words.specs.Row.{tabulate}
use Rattle.group_launch.specs.GroupLaunchCall.{group_launch_called, group_launch_number, group_launch_call_of}
use Rattle.group_words.specs.StateWords.{joined}

module _ (k v : List ℕ) (c : Contents) where
  -- no card, with a state that has only a turn
  pub no_card : group_launch_call_of [] k v c (7 ∷ []) ≡ group_launch_called 1 (0 ∷ []) v
  unfolding group_launch_call_of group_launch_number group_launch_of all_below tabulate sizes_ok_of placed_of
  no_card = refl

  -- a byte too few
  pub short : group_launch_call_of (replicate 49 0) k v c (7 ∷ []) ≡ group_launch_called 13 (0 ∷ []) v
  unfolding group_launch_call_of group_launch_number
  short = refl

  -- 33 lanes on the first card, and the second malformed: 13; a state of another length stays
  pub later_malformed : group_launch_call_of (set card 3 33 ++ set card 2 0) k v c (7 ∷ []) ≡ group_launch_called 13 (7 ∷ []) v
  unfolding group_launch_call_of group_launch_number all_below read_card_of head_ok_at launch_at fixed_ok_of
  later_malformed = refl

-- two warps: the cards are the example's but for NUMW and WID
abbrev pub launch_on : ℕ → Launch
launch_on i = launch_at (set (set card 4 2) 5 i)

pub two_warps : group_launch_call_of (set card 4 2 ++ set (set card 4 2) 5 1) (19 ∷ []) (replicate 16384 5) (contents [] []) (replicate 483 7)
    ≡ group_launch_called 0 (0 ∷ (words_of (launched_of (launch_on 0)) ++ words_of (launched_of (launch_on 1)))) (replicate 16384 0)
unfolding group_launch_call_of group_launch_number group_launch_of all_below tabulate sizes_ok_of placed_of joined read_card_of head_ok_at launch_at fixed_ok_of words_of splits_words runs_ok_of
two_warps = refl
