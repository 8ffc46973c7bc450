-- The loop with trip counts 1 to 32, by computing.
use mathlib.Core.Path.{◌≡◌, refl}
use mathlib.Core.List.{[]}
use lib.ListN.{replicate}
use Rattle.lanes.specs.Lanes.{file_words}
use Rattle.memory.specs.Memories.{alone}
use Rattle.warp.specs.Warp.{split_count}
use Rattle.definition.specs.Calls.{run_of}
use Rattle.definition.proofs.Computes.{computes}
use Rattle.promises.specs.Reached.{Reached, launched}
use Rattle.traces.specs.Bound.{loop, start_of, all32, BoundReached, LoopCloses}
use Rattle.promises.proofs.Runs.{run_reaches}

started : Reached loop all32 (start_of loop all32)
unfolding computes
started = launched (replicate file_words 0) (alone []) refl

opened : ((run_of loop 95 (start_of loop all32)).steps ≡ 95) × ((run_of loop 95 (start_of loop all32)).ends.left.warp.depth ≡ split_count)
unfolding computes
opened = (refl, refl)

pub bound_reached : BoundReached
bound_reached = record { reached = (run_reaches loop all32 95 (start_of loop all32) started).reached; steps = opened.0; depth = opened.1 }

pub loop_closes : LoopCloses
unfolding computes
loop_closes = record { code = refl; steps = refl; depth = refl; mask = refl }
