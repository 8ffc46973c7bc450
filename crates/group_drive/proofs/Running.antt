-- From the tests of a group's words to its run.
use Prim.Native.Nat.{ℕ, zero, suc, ◌≤◌, ◌<◌}
use mathlib.Core.Path.{◌≡◌, refl, sym, ap, ◌∙◌}
use mathlib.Core.Bool.{true, false, ◌&&◌}
use mathlib.Core.List.{List}
use native.Mathlib.Omega.{arith}
use lib.ListN.{length}
use Rattle.answer.proofs.Rows.{both}
use Rattle.memory.specs.Memories.{Contents}
use Rattle.group.specs.Group.{Group, fixeds_of, all_ended}
use Rattle.group.specs.GroupRefuse.{sizes_ok_of, formed_of}
use Rattle.group.specs.GroupCalls.{GroupOutcome, group_outcome, group_ran, group_steps_of}
use Rattle.group.proofs.GroupLaws.{by_test, refute}
use Rattle.group.proofs.GroupFacts.{group_formed, going}
use Rattle.group.proofs.GroupCases.{group_run_size, group_run_malformed, group_run_steps, group_step_ended, group_turn_end, group_turn_off}
use Rattle.layout.specs.declared.WarpWords.{WarpWords}
use Rattle.group_words.specs.Row.{warps_in, group_in, fixeds_in, Rooms, Ready, all_sound}
use Rattle.group_drive.specs.GroupDrives.{GroupDrives, group_words_run_of, GroupRuns}
use Rattle.group_words.proofs.Words.{warps_long}
use Rattle.group_words.proofs.Sound.{sound_at, at_sound, fixeds_are}

-- ---- a run of the words
module _ (k : List ℕ) (t b : ℕ) (a : List WarpWords) (v : List ℕ) (d : Contents) (o : Rooms a) where
  abbrev G : Group
  G = group_in t a v d

  refused : (c : ℕ) → group_ran 0 (group_outcome c 0 G) ≡ group_words_run_of k t b a v d → GroupRuns k t b c 0 0 t a v d a v d
  refused c e = record { rooms = o; count = refl; fixed = λ i. refl; sound = λ s. s; kept = λ s. (refl, refl, refl, refl); turn = λ h. refl; words = refl; size = λ r. refl; runs = e }

  pub words_size : sizes_ok_of k (fixeds_in a) v d ≡ false → GroupRuns k t b 1 0 0 t a v d a v d
  unfolding group_words_run_of
  words_size e =
      refused 1
      (by_test (all_sound a) (λ s. rw s (sym (group_run_size k b G (rw (fixeds_are a t v d) e)))) (λ s. rw (s, e)))

  module _ (e : sizes_ok_of k (fixeds_in a) v d ≡ true) where
    sizes_are : sizes_ok_of k (fixeds_of G) v d ≡ true
    sizes_are = rw (fixeds_are a t v d) e

    pub words_malformed : (all_sound a && formed_of G) ≡ false → GroupRuns k t b 2 0 0 t a v d a v d
    unfolding group_words_run_of
    words_malformed f = refused 2 (by_test (all_sound a) (λ s. rw s (sym (group_run_malformed k b G sizes_are (rw s at f)))) (λ s. rw (s, e)))

    module _ (f : (all_sound a && formed_of G) ≡ true) where
      parts : (all_sound a ≡ true) × (formed_of G ≡ true)
      parts = both (all_sound a) (formed_of G) f

      steps_are : group_words_run_of k t b a v d ≡ group_steps_of k b 0 G
      unfolding group_words_run_of
      steps_are = rw parts.0 (group_run_steps k b G sizes_are parts.1)

      pub words_ready : Ready k t a v d
      words_ready =
          record {
            warps = record { rooms = o; sound = sound_at a parts.0 };
            sizes = sizes_are;
            formed = parts.1;
          }

      -- the turn names no warp: all have ended
      module _ (h : length a ≤ t) where
        ended : all_ended (warps_in a) ≡ true
        ended =
            by_test (all_ended (warps_in a)) (λ y. y)
            (λ y. absurd (omega (arith, (going G (group_formed G parts.1).goes y).0, warps_long a)))

        pub words_none : b ≡ 0 → GroupRuns k t b 0 0 0 t a v d a v d
        words_none z = refused 0 (sym (steps_are ∙ ap (λ (m : ℕ). group_steps_of k m 0 G) z ∙ group_turn_end k 0 G))

        pub words_ended : (b ≡ 0 → ⊥) → GroupRuns k t b 3 0 0 t a v d a v d
        words_ended z = refused 3 (sym (steps_are ∙ by b z))
          where
            by : (m : ℕ) → (m ≡ 0 → ⊥) → group_steps_of k m 0 G ≡ group_ran 0 (group_outcome 3 0 G)
            by zero y = absurd (y refl)
            by (suc m) y =
                let s = group_step_ended k G sizes_are parts.1 ended in
                group_turn_off k m 0 G (λ q. let w : 3 ≡ 0 = sym (ap (λ (x : GroupOutcome). x.code) s) ∙ q in omega arith) ∙ ap (group_ran 0) s

      pub words_run : t < length a → (c w u t' : ℕ) (a' : List WarpWords) (v' : List ℕ) (d' : Contents) → GroupDrives k t b c w u t' a v d a' v' d' → GroupRuns k t b c w u t' a v d a' v' d'
      words_run h c w u t' a' v' d' q =
          record {
            rooms = q.warps.rooms;
            count = q.count;
            fixed = q.fixed;
            sound = λ s. at_sound a' q.warps.sound;
            kept = λ s. refute parts.0 s;
            turn = λ z. absurd (z q.here);
            words = q.words;
            size = q.size;
            runs = q.drives ∙ sym steps_are;
          }
