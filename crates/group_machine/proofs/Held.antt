-- From a run of the words to a run of the group.
use Prim.Native.Nat.{ℕ, ◌≤◌, ◌<◌}
use mathlib.Core.Path.{◌≡◌, refl, sym, ap, ◌∙◌}
use mathlib.Core.Bool.{Bool, true, false}
use mathlib.Core.List.{List, [], ◌++◌}
use native.Mathlib.Omega.{arith}
use lib.Dec.{leb}
use lib.ListN.{length, get_or, take, drop}
use lib.Seq.{length-take-le}
use borrow.Author.Tests.{le-leb, lt-leb, leb-false}
use Rattle.memory.specs.Memories.{Contents}
use Rattle.warp.specs.declared.Fixed.{Fixed}
use Rattle.warp.specs.declared.Warp.{Warp}
use Rattle.warp.specs.Warp.{zero_warp}
use Rattle.warp.specs.WellFormed.{well_formed_of}
use Rattle.formed.proofs.Formed.{deep_malformed}
use Rattle.group.specs.Group.{group, fixeds_of}
use Rattle.group.specs.GroupRefuse.{warps_limit, sizes_ok_of, formed_of}
use Rattle.group.specs.GroupCalls.{GroupOutcome, group_outcome, GroupRan, group_ran, group_run_of}
use Rattle.group.proofs.GroupLaws.{by_test, refute}
use Rattle.group.proofs.GroupFacts.{group_formed}
use Rattle.group.proofs.GroupCases.{group_run_size, group_run_malformed, group_run_one}
use Rattle.std.specs.List.{list_all}
use Rattle.layout.specs.declared.WarpWords.{WarpWords}
use Rattle.group_words.specs.Row.{warps_in, fixeds_in}
use Rattle.group_words.proofs.Words.{warps_long}
use Rattle.group_words.proofs.Sound.{at_each}
use Rattle.group_drive.specs.GroupDrives.{group_words_run_of, GroupRuns}
use Rattle.group_machine.specs.declared.Group.{Group}
use Rattle.group_machine.specs.Held.{held, held_step_of, held_run_of, Kept, no_warp, is_shallow, Fixeds, Apart}
use Rattle.group_machine.proofs.Taking.{fixeds_are, get_d_any, warps_are, all_sound_lem, front_taken, front_dropped, front_long}

-- ---- a run of one step is a step

pub one_step : (k : List ℕ) (g : Group) (v : List ℕ) (c : Contents) (t : ℕ) (o : GroupOutcome) → group_ran t o ≡ held_run_of k 1 g v c → o ≡ held_step_of k g v c
unfolding held_run_of held_step_of
one_step k g v c t o e =
    ap (λ (r : GroupRan). r.ends) e
    ∙ by_test (leb g.count warps_limit) (λ z. rw z (group_run_one k (held g v c))) (λ z. rw z)

-- ---- a run, by its cases

none_sized : (k v : List ℕ) (c : Contents) → sizes_ok_of k [] v c ≡ false
unfolding sizes_ok_of
none_sized k v c = refl

pub kept_same : (g : Group) → Kept g g
kept_same g = record { count = refl; room = refl; rest = refl }

module _ (k : List ℕ) (b : ℕ) (g : Group) (v : List ℕ) (c : Contents) where
  pub held_many : warps_limit < g.count → group_ran 0 (group_outcome 1 0 (held g v c)) ≡ held_run_of k b g v c
  unfolding held_run_of
  held_many h = rw (lt-leb _ _ h)

  module _ (few : g.count ≤ warps_limit) where
    held_is : group_run_of k b (held g v c) ≡ held_run_of k b g v c
    unfolding held_run_of
    held_is = rw (le-leb _ _ few)

    pub held_none : g.count ≡ 0 → group_ran 0 (group_outcome 1 0 (held g v c)) ≡ held_run_of k b g v c
    held_none z = sym (group_run_size k b (held g v c) (rw z (none_sized k v c))) ∙ held_is

    -- the group's warps, and their words
    abbrev us : List Warp
    us = take g.count g.warps

    module _ (ws : List WarpWords) (l : length ws ≡ length us) where
      module _ (f : Fixeds (length us) us ws) where
        fixeds : fixeds_of (held g v c) ≡ fixeds_in ws
        fixeds = fixeds_are us ws l f g.turn v c

        sizes_are : (z : Bool) → sizes_ok_of k (fixeds_in ws) v c ≡ z → sizes_ok_of k (fixeds_of (held g v c)) v c ≡ z
        sizes_are z e = ap (λ (fs : List Fixed). sizes_ok_of k fs v c) fixeds ∙ e

        pub held_size : sizes_ok_of k (fixeds_in ws) v c ≡ false → group_ran 0 (group_outcome 1 0 (held g v c)) ≡ held_run_of k b g v c
        held_size e = sym (group_run_size k b (held g v c) (sizes_are false e)) ∙ held_is

        pub held_deep : sizes_ok_of k (fixeds_in ws) v c ≡ true → list_all is_shallow us ≡ false → group_ran 0 (group_outcome 2 0 (held g v c)) ≡ held_run_of k b g v c
        held_deep e d =
            sym (group_run_malformed k b (held g v c) (sizes_are true e) (by_test (formed_of (held g v c)) (λ o. refute (at_each is_shallow no_warp us (each o)) d) (λ o. o))) ∙ held_is
          where
            each : formed_of (held g v c) ≡ true → (i : ℕ) → i < length us → is_shallow (get_or us i no_warp) ≡ true
            each o i h =
                let w : well_formed_of (get_or us i no_warp) ≡ true = ap well_formed_of (get_d_any us i no_warp zero_warp h) ∙ (group_formed (held g v c) o).each i h in
                by_test (is_shallow (get_or us i no_warp)) (λ y. y) (λ y. refute w (deep_malformed (get_or us i no_warp) (leb-false _ _ y)))

      module _ (q : Apart (length us) us ws) (s : list_all is_shallow us ≡ true) where
        -- the turn is the group's, as the code has it
        module _ (t₀ : ℕ) (same : t₀ ≡ g.turn) where
          words_are : group_words_run_of k t₀ b ws v c ≡ group_run_of k b (held g v c)
          unfolding group_words_run_of
          words_are = rw (same, all_sound_lem us ws l q s) (ap (λ (ws : List Warp). group_run_of k b (group g.turn ws v c)) (warps_are us ws l q))

          module _ (e w u t : ℕ) (a : List WarpWords) (v' : List ℕ) (c' : Contents) (r : GroupRuns k t₀ b e w u t ws v c a v' c') where
            module _ (full : length g.warps ≡ warps_limit) (us' : List Warp) (p : us' ≡ warps_in a) where
              abbrev left : Group
              left = record { warps = us' ++ drop g.count g.warps; count = g.count; turn = t }

              many : length us' ≡ g.count
              many = ap length p ∙ warps_long a ∙ r.count ∙ l ∙ length-take-le g.count g.warps (omega arith)

              pub held_runs : group_ran u (group_outcome e w (held left v' c')) ≡ held_run_of k b g v c
              held_runs =
                  ap (λ (ws : List Warp). group_ran u (group_outcome e w (group t ws v' c'))) (front_taken g.count g.warps us' many (omega arith) ∙ p) ∙ r.runs ∙ words_are ∙ held_is

              pub held_kept : Kept g left
              held_kept = record { count = refl; room = front_long g.count g.warps us' many (omega arith); rest = front_dropped g.count g.warps us' many (omega arith) }
