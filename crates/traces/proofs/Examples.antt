-- Examples that meet what the promises ask for, by computing.
use Prim.Native.Nat.{ℕ, ◌<◌}
use mathlib.Core.Path.{◌≡◌, refl}
use mathlib.Core.Bool.{false}
use mathlib.Core.List.{List, [], ◌∷◌, map}
use lib.Dec.{lit≤}
use lib.Count.{ones}
use lib.ListN.{replicate}
use Rattle.lanes.specs.Lanes.{file_words}
use Rattle.memory.specs.Memories.{alone}
use Rattle.warp.specs.declared.Launch.{Launch}
use Rattle.warp.specs.Warp.{split_count, zero_warp, with_stop}
use Rattle.definition.specs.State.{State, state}
use Rattle.definition.specs.Step.{step_of}
use Rattle.definition.specs.Calls.{run_of}
use Rattle.definition.proofs.Computes.{computes}
use Rattle.promises.specs.Reached.{steps, releases, changes, Reached, launched, goes}
use Rattle.promises.specs.Splits.{Opens, Above, here, on}
use Rattle.traces.specs.Bound.{loop, launch_on, start_of}
use Rattle.promises.proofs.Runs.{run_reaches}
use Rattle.promises.proofs.Splits.{split_cuts, room, one_lane, restored}

-- ---- two lanes in the loop: the split opens in step 5 and closes in step 10

abbrev pub two : Launch
two = launch_on 2 3

two_started : Reached loop two (start_of loop two)
unfolding computes
two_started = launched (replicate file_words 0) (alone []) refl

abbrev pub after : ℕ → State
after n = (run_of loop n (start_of loop two)).ends.left

pub after_reached : (n : ℕ) → Reached loop two (after n)
after_reached n = (run_reaches loop two n (start_of loop two) two_started).reached

pub split_opens : Opens loop (after 4) (after 5)
unfolding computes
split_opens = split_cuts loop two (after 4) (after 5) (after_reached 4) refl (lit≤ tt)

-- there is room for it, and the host may write another file before it
has_room : (after 4).warp.depth < split_count
has_room = room loop two (after 4) (after_reached 4) split_opens.by

pub changed : Reached loop two (state (after 4).warp (replicate file_words 9) (alone []))
unfolding computes
changed = goes (after_reached 4) (changes refl (λ r. refl))

between : Above loop 0 (after 5) (after 9)
unfolding computes
between =
    on {t = after 8} (on {t = after 7} (on {t = after 6} (on {t = after 5} (here (lit≤ tt)) (steps refl) (lit≤ tt)) (steps refl) (lit≤ tt)) (steps refl) (lit≤ tt))
    (steps refl) (lit≤ tt)

pub mask_back : ((after 10).warp.depth ≡ 0) × ((after 10).warp.mask ≡ 3)
unfolding computes
mask_back = restored loop two (after 4) (after 5) (after 9) (after 10) (after_reached 4) refl (lit≤ tt) between (steps refl) (lit≤ tt)

-- ---- one lane in the loop

abbrev one : Launch
one = launch_on 1 1

pub no_split : (start_of loop one).warp.depth ≡ 0
unfolding computes ones
no_split = one_lane loop one (start_of loop one) (launched (replicate file_words 0) (alone []) refl) refl

-- ---- a release

abbrev waits : List ℕ
waits = 0x0400400b ∷ 0x0000400b ∷ []

abbrev waiting : State
waiting = (run_of waits 1 (start_of waits two)).ends.left

pub released : Reached waits two (state (with_stop false false waiting.warp) waiting.vector waiting.bytes)
unfolding computes
released = goes (run_reaches waits two 1 (start_of waits two) (launched (replicate file_words 0) (alone []) refl)).reached (releases refl)

-- ---- every row of a step's table is met: 1 by a vector file of no words, 2 by a warp of all zeros, 3 to 11 and 14 by runs of a word or three

pub rows_met : (step_of loop (state (after 0).warp [] (alone []))).code ∷ (step_of loop (state zero_warp (replicate file_words 0) (alone []))).code
    ∷ map (λ (k : List ℕ). (run_of k 4 (start_of k two)).ends.code)
    ((0x0000400b ∷ []) ∷ (0x0400400b ∷ []) ∷ (0x0000000f ∷ []) ∷ (0x00000000 ∷ []) ∷ (0x80001073 ∷ []) ∷ (0x0020006f ∷ []) ∷ (0x00002003 ∷ []) ∷ (0x5208a057 ∷ 0x420020d7 ∷ []) ∷ (0x5208a057 ∷ 0x0010145b ∷ 0x0000400b ∷ []) ∷ (0x001020ab ∷ []) ∷ [])
    ≡ 1 ∷ 2 ∷ 3 ∷ 4 ∷ 5 ∷ 6 ∷ 7 ∷ 8 ∷ 9 ∷ 10 ∷ 11 ∷ 14 ∷ []
unfolding computes
rows_met = refl
