-- From a step of one warp's words to a step of the group.
use Prim.Native.Nat.{ℕ, zero, suc, ◌+◌, ◌<◌, ◌≤◌}
use mathlib.Core.Path.{◌≡◌, refl, sym, ap, ap₂, ◌∙◌, subst}
use mathlib.Core.Bool.{true, false, true≢false}
use mathlib.Core.List.{List, [], ◌∷◌, ◌++◌}
use native.Mathlib.Nat.{le_of_suc-le-suc}
use lib.ListN.{length, get_or, set, take, drop, length-set, take-append-drop}
use Rattle.std.proofs.lemmas.List.{map-set}
use lib.Seq.{get_or-set_same, get_or-set_other}
use borrow.Author.Tests.{ne_eqb}
use Rattle.std.specs.Prelude.{Result, Ok, Err, is_ok}
use Rattle.answer.specs.declared.Refusal.{Refusal}
use Rattle.answer.specs.Answer.{number_of}
use Rattle.answer.proofs.Numbers.{some_number}
use Rattle.lanes.specs.Lanes.{file_words}
use Rattle.memory.specs.Memories.{Contents}
use Rattle.warp.specs.declared.Warp.{Warp}
use Rattle.warp.specs.Warp.{zero_warp}
use Rattle.layout.specs.declared.WarpWords.{WarpWords}
use Rattle.layout.specs.Words.{warp_of}
use Rattle.layout.specs.Parts.{no_words, warp_from}
use Rattle.layout.proofs.Words.{lent_words}
use Rattle.definition.specs.State.{State, state, Outcome, outcome}
use Rattle.definition.specs.Step.{step_of}
use Rattle.definition.specs.Calls.{Ran}
use Rattle.definition.proofs.Used.{step_within}
use Rattle.definition.proofs.Calls.{run_counted, run_one}
use Rattle.handlers.specs.Handles.{Lists, lent_warp, lent_state}
use Rattle.exec.specs.Ready.{Started}
use Rattle.drive.specs.Drives.{Drives}
use Rattle.group.specs.Group.{Group, group, count_of, fixeds_of, file_at, file_start, with_file_at, state_at, next_of, some_runs, all_ended, settled, gone_on, pick_of}
use Rattle.group.specs.GroupRefuse.{sizes_ok_of, formed_of}
use Rattle.group.specs.GroupCalls.{group_outcome, group_step_of}
use Rattle.group.proofs.GroupLaws.{by_test, by_equal, refute, not_ended, runs_is, file_inside, length_file, length_put, gone_on_lem}
use Rattle.group.proofs.GroupFacts.{GroupFit, group_fit, fit_sizes, fit_formed, going}
use Rattle.group.proofs.GroupCases.{group_step_ended, group_step_taken, group_step_refused}
use Rattle.group.proofs.GroupKept.{AllSplits, fit_kept}
use Rattle.group_words.specs.Row.{words_at, warps_in, group_in, Picks, Moves, Rooms, Warps, Ready, FixedKept}
use Rattle.group_words.proofs.Words.{warps_long, warp_is}
use Rattle.group_drive.specs.GroupDrives.{lists_at, Turns}

-- ---- answers

pub done_ok : {A : Type 0} (r : Result A Refusal) → is_ok r ≡ true → number_of r ≡ 0
done_ok (Ok x) e = refl
done_ok (Err w) e = absurd (true≢false (sym e))

pub refused_ok : {A : Type 0} (r : Result A Refusal) → is_ok r ≡ false → number_of r ≡ 0 → ⊥
refused_ok (Ok x) e n = true≢false e
refused_ok (Err w) e n = some_number w n

-- ---- lists

set_own : {A : Type 0} (l : List A) (i : ℕ) (d : A) → i < length l → set l i (get_or l i d) ≡ l
set_own [] i d h = refl
set_own (x ∷ l) zero d h = refl
set_own (x ∷ l) (suc i) d h = ap (λ (r : List _). x ∷ r) (set_own l i d (le_of_suc-le-suc h))

-- a file put back where it was
file_own : (i : ℕ) (v : List ℕ) → with_file_at i (file_at i v) v ≡ v
file_own i v = ap (λ (r : List ℕ). take (file_start i) v ++ r) (take-append-drop file_words (drop (file_start i) v)) ∙ take-append-drop (file_start i) v

-- a refused step leaves the state
step_kept : (k : List ℕ) (m : State) → ((step_of k m).code ≡ 0 → ⊥) → (step_of k m).left ≡ m
unfolding step_of
step_kept k m z = rw (ne_eqb _ _ z)

-- ---- what a group that is ready gives its warps

-- the words of a warp that took a step
abbrev pub words_from : Lists → WarpWords
words_from b = record { moving = b.moving; fixed = b.fixed; scalars = b.scalars; splits = b.splits }

module _ (k : List ℕ) (t : ℕ) (ws : List WarpWords) (v : List ℕ) (d : Contents) (r : Ready k t ws v d) where
  abbrev M : Group
  M = group_in t ws v d

  count : count_of M ≡ length ws
  count = warps_long ws

  fit : GroupFit k M
  fit = group_fit k M r.sizes r.formed

  module _ (i : ℕ) (h : i < length ws) where
    in_count : i < count_of M
    in_count = rw count h

    state_is : state_at i M ≡ lent_state (lists_at i ws v d)
    state_is = ap (λ (w : Warp). state w (file_at i v) d) (warp_is ws i h)

    pub started : Started k (lists_at i ws v d)
    unfolding warp_of
    started =
        let w : WarpWords = words_at ws i in
        record {
          lent = lent_words w.fixed w.moving w.scalars w.splits (r.warps.rooms.long i h) (r.warps.rooms.room i h) (r.warps.sound i h) (rw (warp_is ws i h) at (fit.each i in_count));
          sizes = rw (warp_is ws i h) at (fit.sizes i in_count);
        }

    pub file_room : file_start i + file_words ≤ length v
    file_room = file_inside (length ws) i v (rw count at fit.files) h

  long : AllSplits M
  long j b = let h : j < length ws = rw count at b in ap (λ (w : Warp). length w.splits) (warp_is ws j h) ∙ (started j h).lent.formed.long

  -- ---- none runs: all have ended
  pub turned_ended : some_runs (warps_in ws) ≡ false → Turns k t 3 0 ws v d ws v d
  turned_ended s =
      let e : all_ended (warps_in ws) ≡ true = by_test (all_ended (warps_in ws)) (λ y. y) (λ y. refute (going M fit.goes y).1 s) in
      record { below = r.warps.rooms.some; count = refl; fixed = λ j. refl; words = refl; size = λ q. refl; ready = r; goes = sym (group_step_ended k M r.sizes r.formed e) }

  -- ---- warp i takes a step, from its words to those of B
  module _ (i : ℕ) (h : i < length ws) (p : Picks t (warps_in ws) i) (B : Lists) (same : B.fixed ≡ (words_at ws i).fixed) (c u : ℕ) (q : Drives k 1 c u (lists_at i ws v d) B) where
    pick_is : pick_of M ≡ i
    pick_is = sym p.first

    not_all_ended : all_ended (warps_in ws) ≡ false
    not_all_ended = not_ended (warps_in ws) i (in_count i h) (runs_is (get_or (warps_in ws) i zero_warp) p.running).0

    stepped : step_of k (state_at i M) ≡ outcome c (lent_state B)
    stepped =
        ap (step_of k) (state_is i h)
        ∙ sym (ap (λ (o : Ran). o.ends) (q.drives ∙ sym (run_counted k 0 (lent_state (lists_at i ws v d)))) ∙ run_one k (lent_state (lists_at i ws v d)))

    -- the words after it
    abbrev ws₁ : List WarpWords
    ws₁ = set ws i (words_from B)

    abbrev V₁ : List ℕ
    V₁ = with_file_at i B.vector v

    long₁ : length ws₁ ≡ length ws
    long₁ = length-set ws i (words_from B)

    here : words_at ws₁ i ≡ words_from B
    here = get_or-set_same ws i (words_from B) no_words h

    there : (j : ℕ) → (j ≡ i → ⊥) → words_at ws₁ j ≡ words_at ws j
    there j e = get_or-set_other ws i j (words_from B) no_words e

    warps_set : warps_in ws₁ ≡ set (warps_in ws) i (lent_warp B)
    warps_set = map-set warp_from ws i (words_from B)

    fixed_set : FixedKept ws ws₁
    fixed_set j = by_equal j i (λ e. rw (e, here) same) (λ e. rw (there j e))

    words_kept : length V₁ ≡ length v
    words_kept = length_put i v (file_room i h) B.vector (file_long ∙ length_file i v (file_room i h))
      where
        file_long : length B.vector ≡ length (file_at i v)
        file_long = ap (λ (o : Outcome). length o.left.vector) (sym (sym (ap (step_of k) (state_is i h)) ∙ stepped)) ∙ (step_within k (lent_state (lists_at i ws v d))).words

    pub sound_set : Warps ws₁
    sound_set =
        record {
          rooms = record {
            some = rw long₁ r.warps.rooms.some;
            few = rw long₁ r.warps.rooms.few;
            long = λ j b. by_equal j i (λ e. rw (e, here) q.long) (λ e. rw (there j e) (r.warps.rooms.long j (rw long₁ at b)));
            room = λ j b. by_equal j i (λ e. rw (e, here) q.room) (λ e. rw (there j e) (r.warps.rooms.room j (rw long₁ at b)));
          };
          sound = λ j b. by_equal j i (λ e. rw (e, here) q.sound) (λ e. rw (there j e) (r.warps.sound j (rw long₁ at b)));
        }

    -- refused: all is as it was
    module _ (z : c ≡ 0 → ⊥) where
      left_is : lent_state B ≡ state_at i M
      left_is = ap (λ (o : Outcome). o.left) (sym stepped) ∙ step_kept k (state_at i M) (λ e. z (ap (λ (o : Outcome). o.code) (sym stepped) ∙ e))

      group_is : group_in t ws₁ V₁ B.bytes ≡ M
      group_is =
          ap (λ (us : List Warp). group t us V₁ B.bytes) (warps_set ∙ ap (λ (s : State). set (warps_in ws) i s.warp) left_is ∙ set_own (warps_in ws) i zero_warp (in_count i h))
          ∙ ap (λ (s : State). group t (warps_in ws) (with_file_at i s.vector v) s.bytes) left_is
          ∙ ap (λ (u : List ℕ). group t (warps_in ws) u d) (file_own i v)

      pub turned_refused : Turns k t c i ws v d ws₁ V₁ B.bytes
      turned_refused =
          record {
            below = h;
            count = long₁;
            fixed = fixed_set;
            words = words_kept;
            size = q.size;
            ready = rw (ne_eqb c 0 z) still;
            goes = rw (ne_eqb c 0 z) (ap (group_outcome c i) group_is ∙ sym refused);
          }
        where
          still : Ready k t ws₁ V₁ B.bytes
          still =
              record {
                warps = sound_set;
                sizes = subst (λ (m : Group). sizes_ok_of k (fixeds_of m) m.vector m.bytes ≡ true) (sym group_is) r.sizes;
                formed = subst (λ (m : Group). formed_of m ≡ true) (sym group_is) r.formed;
              }

          refused : group_step_of k M ≡ group_outcome c i M
          refused =
              subst (λ (j : ℕ). group_step_of k M ≡ group_outcome (step_of k (state_at j M)).code j M) pick_is
              (group_step_refused k M r.sizes r.formed not_all_ended (rw (pick_is, stepped) z))
              ∙ ap (λ (o : Outcome). group_outcome o.code i M) stepped

    -- taken: the group settles
    module _ (z : c ≡ 0) (ws₂ : List WarpWords) (g : Moves settled ws₁ ws₂) where
      gone : group_in (next_of (length ws) i) ws₂ V₁ B.bytes ≡ gone_on i (lent_state B) M
      gone = ap₂ (λ (m : ℕ) (us : List Warp). group m us V₁ B.bytes) (ap (λ (m : ℕ). next_of m i) (sym count)) (g.goes ∙ ap settled warps_set) ∙ sym (gone_on_lem i (lent_state B) M)

      done : (step_of k (state_at i M)).code ≡ 0
      done = ap (λ (o : Outcome). o.code) stepped ∙ z

      gone_step : gone_on i (lent_state B) M ≡ gone_on i (step_of k (state_at i M)).left M
      gone_step = ap (λ (o : Outcome). gone_on i o.left M) (sym stepped)

      fit_after : GroupFit k (group_in (next_of (length ws) i) ws₂ V₁ B.bytes)
      fit_after = subst (GroupFit k) (sym (gone ∙ gone_step)) (fit_kept k M fit long i (in_count i h) done)

      pub turned_taken : Turns k t 0 i ws v d ws₂ V₁ B.bytes
      turned_taken =
          record {
            below = h;
            count = g.count ∙ long₁;
            fixed = λ j. (g.only j).fixed ∙ fixed_set j;
            words = words_kept;
            size = q.size;
            ready = record {
              warps = record { rooms = rooms; sound = λ j b. g.sound sound_set.sound j (rw g.count at b) };
              sizes = fit_sizes k (group_in (next_of (length ws) i) ws₂ V₁ B.bytes) fit_after;
              formed = fit_formed k (group_in (next_of (length ws) i) ws₂ V₁ B.bytes) fit_after;
            };
            goes = ap (group_outcome 0 0) (gone ∙ gone_step) ∙ sym taken;
          }
        where
          rooms : Rooms ws₂
          rooms =
              record {
                some = rw g.count sound_set.rooms.some;
                few = rw g.count sound_set.rooms.few;
                long = λ j b. g.long j (rw g.count at b);
                room = λ j b. rw (g.only j).splits (sound_set.rooms.room j (rw g.count at b));
              }

          taken : group_step_of k M ≡ group_outcome 0 0 (gone_on i (step_of k (state_at i M)).left M)
          taken =
              subst (λ (j : ℕ). group_step_of k M ≡ group_outcome 0 0 (gone_on j (step_of k (state_at j M)).left M)) pick_is
              (group_step_taken k M r.sizes r.formed not_all_ended (rw pick_is done))
