-- What a loop over steps and a run do with a running warp's lent words: lists a before, b after (handlers/specs/Handles.antt).
use Rattle.std.specs.Prelude.{ℕ, ◌≤◌, ◌≡◌, true, false, cond, List, length}
use Rattle.answer.specs.Answer.{last_step_number}
use Rattle.memory.specs.Memories.{Region, bytes_at}
use Rattle.layout.specs.Words.{moving_count, flat_count, fixed_in, sound_of}
use Rattle.definition.specs.State.{outcome}
use Rattle.definition.specs.Refuse.{runs_ok_of}
use Rattle.definition.specs.Calls.{Ran, ran, steps_of, run_of}
use Rattle.handlers.specs.Handles.{Lists, lent_state}

-- at most n steps from the words of a well-formed warp: t are taken, and the last one's number is c
pub record Drives (k : List ℕ) (n c t : ℕ) (a b : Lists) : Type 0 where
  pub known : c ≤ last_step_number
  pub long : length b.moving ≡ moving_count
  pub room : length b.splits ≡ flat_count
  pub sound : sound_of b.moving b.splits ≡ true
  pub size : (r : Region) → length (bytes_at r b.bytes) ≡ length (bytes_at r a.bytes)
  pub drives : ran t (outcome c (lent_state b)) ≡ steps_of k n 0 (lent_state a)

-- a run of any words: those that aren't a warp's are refused, after the test of the sizes
unfoldable pub run_words_of : List ℕ → ℕ → Lists → Ran
run_words_of k n a =
    cond (sound_of a.moving a.splits) (run_of k n (lent_state a))
    (ran 0 (outcome (cond (runs_ok_of (fixed_in a.fixed) k a.vector a.bytes) 2 1) (lent_state a)))

-- a warp's words stay a warp's, others are left as they are
pub record RunsWords (k : List ℕ) (n c t : ℕ) (a b : Lists) : Type 0 where
  pub known : c ≤ last_step_number
  pub long : length b.moving ≡ moving_count
  pub room : length b.splits ≡ flat_count
  pub sound : sound_of a.moving a.splits ≡ true → sound_of b.moving b.splits ≡ true
  pub kept : sound_of a.moving a.splits ≡ false → b ≡ a
  pub size : (r : Region) → length (bytes_at r b.bytes) ≡ length (bytes_at r a.bytes)
  pub runs : ran t (outcome c (lent_state b)) ≡ run_words_of k n a
