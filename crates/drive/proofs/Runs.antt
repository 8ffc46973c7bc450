-- From steps on the lent words to a run of them.
use Prim.Native.Nat.{ℕ, ◌+◌, ◌-◌, ◌≤◌, ◌<◌}
use mathlib.Core.Path.{◌≡◌, refl, sym, ap, ◌∙◌, subst}
use mathlib.Core.Bool.{Bool, true, false, ◌&&◌, true≢false}
use mathlib.Core.List.{List}
use native.Mathlib.Omega.{arith}
use native.Mathlib.Nat.{sub-zero}
use lib.Dec.{lit≤}
use lib.ListN.{length}
use Rattle.answer.specs.Answer.{last_step_number}
use Rattle.answer.proofs.Rows.{both}
use Rattle.warp.specs.WellFormed.{well_formed_of}
use Rattle.warp.specs.Facts.{Formed}
use Rattle.layout.specs.Words.{moving_count, flat_count, fixed_in, warp_of, sound_of}
use Rattle.layout.proofs.Words.{lent_words}
use Rattle.memory.specs.Memories.{Region, bytes_at}
use Rattle.definition.specs.State.{State, Outcome, outcome, instr_at}
use Rattle.definition.specs.Refuse.{runs_ok_of}
use Rattle.definition.specs.Step.{step_of}
use Rattle.definition.specs.Calls.{ran, steps_of, run_of}
use Rattle.definition.proofs.Tests.{step_last}
use Rattle.definition.proofs.Sound.{step_sound}
use Rattle.definition.proofs.Sizes.{sizes_kept}
use Rattle.definition.proofs.Target.{Within, target_of}
use Rattle.definition.proofs.Used.{step_within}
use Rattle.definition.proofs.Calls.{steps_end, steps_on, steps_stop, run_size, run_malformed, run_steps}
use Rattle.handlers.specs.Handles.{Lists, lent_warp, lent_state, Handles}
use Rattle.exec.specs.Ready.{Started}
use Rattle.drive.specs.Drives.{Drives, run_words_of, RunsWords}

-- ---- the loop

-- what holds at each turn, from the lists a to the lists b: t steps are taken, and the rest of the run from here is the run from the start
pub record Going (k : List ℕ) (n : ℕ) (a b : Lists) (t : ℕ) : Type 0 where
  pub few : t ≤ n
  pub started : Started k b
  pub vector : length b.vector ≡ length a.vector
  pub bytes : (r : Region) → length (bytes_at r b.bytes) ≡ length (bytes_at r a.bytes)
  pub goes : steps_of k n 0 (lent_state a) ≡ steps_of k (n - t) t (lent_state b)

pub going_start : (k : List ℕ) (n : ℕ) (a : Lists) → Started k a → Going k n a a 0
going_start k n a r = record { few = omega arith; started = r; vector = refl; bytes = λ r. refl; goes = rw sub-zero }

-- a step from such a turn
module _ (k : List ℕ) (n : ℕ) (a b : Lists) (t : ℕ) (r : Going k n a b t) (l : t < n) (c : ℕ) (b' : Lists) (q : Handles (step_of k) c b b') where
  code_is : (step_of k (lent_state b)).code ≡ c
  code_is = ap (λ (o : Outcome). o.code) (sym q.goes)

  left_is : (step_of k (lent_state b)).left ≡ lent_state b'
  left_is = ap (λ (o : Outcome). o.left) (sym q.goes)

  within : Within (lent_state b) (target_of (instr_at k (lent_state b)) (lent_state b)) (lent_state b')
  within = subst (Within (lent_state b) (target_of (instr_at k (lent_state b)) (lent_state b))) left_is (step_within k (lent_state b))

  fixed_is : fixed_in b'.fixed ≡ fixed_in b.fixed
  unfolding warp_of
  fixed_is = within.fixed

  keeps_sound : sound_of b'.moving b'.splits ≡ true
  keeps_sound = q.sound r.started.lent.sound

  pub step_lengths : (length b'.vector ≡ length a.vector) × ((s : Region) → length (bytes_at s b'.bytes) ≡ length (bytes_at s a.bytes))
  step_lengths = (within.words ∙ r.vector, λ s. within.size s ∙ r.bytes s)

  pub going_on : c ≡ 0 → Going k n a b' (t + 1)
  going_on z =
      let done : (step_of k (lent_state b)).code ≡ 0 = code_is ∙ z in
      record {
        few = omega arith;
        started = record {
          lent = record {
            long = q.long;
            room = q.room;
            formed = subst (λ (m : State). Formed m.warp) left_is (step_sound k (lent_state b) done r.started.lent.formed.long).formed;
            sound = keeps_sound;
          };
          sizes = rw fixed_is (sizes_kept _ k b.vector b.bytes b'.vector b'.bytes within.words within.size ∙ r.started.sizes);
        };
        vector = step_lengths.0;
        bytes = step_lengths.1;
        goes = r.goes ∙ steps_on k n t (lent_state b) l done ∙ ap (steps_of k (n - (t + 1)) (t + 1)) left_is;
      }

  pub drives_stop : (c ≡ 0 → ⊥) → Drives k n c t a b'
  drives_stop z =
      record {
        known = omega (arith, step_last k (lent_state b), code_is);
        long = q.long;
        room = q.room;
        sound = keeps_sound;
        size = step_lengths.1;
        drives = sym (r.goes ∙ steps_stop k n t (lent_state b) l (λ e. z (sym code_is ∙ e)) ∙ ap (ran t) (sym q.goes));
      }

pub drives_end : (k : List ℕ) (n : ℕ) (a b : Lists) (t : ℕ) → Going k n a b t → n ≤ t → Drives k n 0 n a b
drives_end k n a b t r l =
    let w = r.started.lent in
    let e : t ≡ n = omega (arith, r.few) in
    record {
      known = lit≤ tt;
      long = w.long;
      room = w.room;
      sound = w.sound;
      size = r.bytes;
      drives = ap (λ (u : ℕ). ran u (outcome 0 (lent_state b))) (sym e) ∙ sym (r.goes ∙ steps_end k n t (lent_state b) l);
    }

-- ---- a run of the words

-- of a warp's words it is the warp's
pub run_sound : (k : List ℕ) (n : ℕ) (a : Lists) → sound_of a.moving a.splits ≡ true → run_words_of k n a ≡ run_of k n (lent_state a)
unfolding run_words_of
run_sound k n a o = rw o

module _ (k : List ℕ) (n : ℕ) (a : Lists) (lh : length a.moving ≡ moving_count) (ls : length a.splits ≡ flat_count) where
  refused : (c : ℕ) → c ≤ last_step_number → ran 0 (outcome c (lent_state a)) ≡ run_words_of k n a → RunsWords k n c 0 a a
  refused c h e = record { known = h; long = lh; room = ls; sound = λ o. o; kept = λ o. refl; size = λ r. refl; runs = e }

  pub words_size : runs_ok_of (fixed_in a.fixed) k a.vector a.bytes ≡ false → RunsWords k n 1 0 a a
  unfolding run_words_of warp_of
  words_size e = refused 1 (lit≤ tt) (by (sound_of a.moving a.splits) refl)
    where
      by : (o : Bool) → sound_of a.moving a.splits ≡ o → ran 0 (outcome 1 (lent_state a)) ≡ run_words_of k n a
      by true o = rw o (sym (run_size k n (lent_state a) e))
      by false o = rw (o, e)

  module _ (e : runs_ok_of (fixed_in a.fixed) k a.vector a.bytes ≡ true) where
    pub words_malformed : (sound_of a.moving a.splits && well_formed_of (lent_warp a)) ≡ false → RunsWords k n 2 0 a a
    unfolding run_words_of warp_of
    words_malformed f = refused 2 (lit≤ tt) (by (sound_of a.moving a.splits) refl f)
      where
        by : (o : Bool) → sound_of a.moving a.splits ≡ o → (o && well_formed_of (lent_warp a)) ≡ false → ran 0 (outcome 2 (lent_state a)) ≡ run_words_of k n a
        by true o f = rw o (sym (run_malformed k n (lent_state a) e f))
        by false o f = rw (o, e)

    module _ (f : (sound_of a.moving a.splits && well_formed_of (lent_warp a)) ≡ true) where
      pub words_started : Started k a
      words_started =
          let p = both _ _ f in
          record { lent = lent_words a.fixed a.moving a.scalars a.splits lh ls p.0 p.1; sizes = e }

      pub words_run : (c t : ℕ) (b : Lists) → Drives k n c t a b → RunsWords k n c t a b
      unfolding warp_of
      words_run c t b q =
          let p = both _ _ f in
          record {
            known = q.known;
            long = q.long;
            room = q.room;
            sound = λ o. q.sound;
            kept = λ o. absurd (true≢false (sym p.0 ∙ o));
            size = q.size;
            runs = q.drives ∙ sym (run_sound k n a p.0 ∙ run_steps k n (lent_state a) e p.1);
          }
