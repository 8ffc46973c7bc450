-- Demand 1 for a group: the answer's number, when and only when; who stopped it; and what a refusal leaves.
use Prim.Native.Nat.{ℕ, zero, suc, ◌+◌, ◌≤◌}
use mathlib.Core.Path.{◌≡◌, refl, sym}
use mathlib.Core.Bool.{Bool, true, false, not, ◌&&◌, ◌||◌, or-false, true≢false}
use mathlib.Core.List.{List, [], ◌∷◌, map}
use native.Mathlib.Omega.{arith}
use lib.Dec.{eqb}
use lib.ListN.{length}
use borrow.Author.Tests.{eq-eqb, ne_eqb, not-true}
use Rattle.answer.specs.Rows.{◌⇒◌, first, one_of, Iff}
use Rattle.answer.proofs.Rows.{numbered_first, one_holds}
use Rattle.warp.specs.declared.Launch.{Launch}
use Rattle.warp.specs.WellFormed.{launch_ok_of}
use Rattle.warp.proofs.SplitLaws.{by_cond}
use Rattle.definition.specs.Refuse.{step_numbers}
use Rattle.definition.specs.Step.{step_of}
use Rattle.promises.proofs.Refusals.{is_zero, step_refusals, step_answers}
use Rattle.group.specs.Group.{Group, warp_at, state_at, pick_of}
use Rattle.lanes.specs.Lanes.{all_below}
use Rattle.group.specs.GroupRefuse.{sizes_ok_of, placed_of, group_tests, group_step_tests}
use Rattle.group.specs.GroupCalls.{GroupRan, group_step_of, group_steps_of, group_run_of, group_launch_of}
use Rattle.group.proofs.GroupLaws.{refute, runs_is}
use Rattle.group.proofs.GroupFacts.{GroupFit, placed_at, all_placed, fit_place}
use Rattle.group.proofs.GroupCases.{Ready, picked_step, by_group_step, group_turn_end, group_turn_on, group_turn_off}
use Rattle.group_promises.specs.Steps.{Picked}
use Rattle.group_promises.specs.Reached.{launch_at}
use Rattle.group_promises.specs.Refusals.{GroupRows, GroupRefusals, group_numbers, GroupAnswers, GroupRunAnswers, GroupKeeps, GroupPlaces, GroupLaunchRefusals}
use Rattle.group_promises.proofs.Steps.{ready_fit, ready_picked, tests_ready, picked_one}

yes : {A B : Type 0} → A → B → Iff A B
yes a b = (λ x. b, λ x. a)

no : {A B : Type 0} → (A → ⊥) → (B → ⊥) → Iff A B
no a b = (λ x. absurd (a x), λ x. absurd (b x))

-- ---- a step

module _ (k : List ℕ) (m : Group) where
  ready_tests : Ready k m → first (group_step_tests k m) ≡ 0
  ready_tests r = rw (r.sizes, r.formed, r.going)

  -- a picked warp passes 1 to 4
  late : Ready k m → ((picked_step k m).code ≡ 0 → ⊥) → 5 ≤ (picked_step k m).code
  late r z =
      let g : GroupFit k m = ready_fit k m r in
      let p : Picked m (pick_of m) = ready_picked k m r in
      let t = step_refusals k (state_at (pick_of m) m) in
      let e = runs_is (warp_at (pick_of m) m) p.running in
      let not1 : (picked_step k m).code ≡ 1 → ⊥ = λ q. refute (g.sizes (pick_of m) p.below) (not-true _ (t.row1.0 q).1) in
      let not2 : (picked_step k m).code ≡ 2 → ⊥ = λ q. refute (g.each (pick_of m) p.below) (not-true _ (t.row2.0 q).1) in
      let not3 : (picked_step k m).code ≡ 3 → ⊥ = λ q. refute (t.row3.0 q).1 e.0 in
      let not4 : (picked_step k m).code ≡ 4 → ⊥ = λ q. refute (t.row4.0 q).1 e.1 in
      omega arith

  -- any other number is the picked warp's own
  own_row : (r : Ready k m) (i : ℕ) → Picked m i → (n : ℕ) → Iff ((picked_step k m).code ≡ n) ((first (group_step_tests k m) ≡ 0) × ((step_of k (state_at i m)).code ≡ n))
  own_row r i p n = rw (picked_one m i (pick_of m) p (ready_picked k m r)) (λ e. (ready_tests r, e), λ q. q.1)

  rows : GroupRows k m (group_step_of k m)
  rows =
      by_group_step k m (GroupRows k m)
      (λ a. record {
        row1 = yes refl a;
        row2 = no (λ e. omega arith) (λ q. refute q.0 a);
        row3 = no (λ e. omega arith) (λ q. refute q.0 a);
        own = λ i p n n1 n2 n3. no (λ e. n1 (sym e)) (λ q. refute (tests_ready k m q.0).sizes a);
        stops = λ i p h. absurd (omega arith);
        stops_not = λ h. refl;
      })
      (λ a b. record {
        row1 = no (λ e. omega arith) (λ q. refute a q);
        row2 = yes refl (a, b);
        row3 = no (λ e. omega arith) (λ q. refute q.1.0 b);
        own = λ i p n n1 n2 n3. no (λ e. n2 (sym e)) (λ q. refute (tests_ready k m q.0).formed b);
        stops = λ i p h. absurd (omega arith);
        stops_not = λ h. refl;
      })
      (λ a b c. record {
        row1 = no (λ e. omega arith) (λ q. refute a q);
        row2 = no (λ e. omega arith) (λ q. refute b q.1);
        row3 = yes refl (a, (b, c));
        own = λ i p n n1 n2 n3. no (λ e. n3 (sym e)) (λ q. refute c (tests_ready k m q.0).going);
        stops = λ i p h. absurd (omega arith);
        stops_not = λ h. refl;
      })
      (λ r z. record {
        row1 = no (λ e. omega arith) (λ q. refute r.sizes q);
        row2 = no (λ e. omega arith) (λ q. refute r.formed q.1);
        row3 = no (λ e. omega arith) (λ q. refute q.1.1 r.going);
        own = λ i p n n1 n2 n3. rw z at (own_row r i p n);
        stops = λ i p h. absurd (omega arith);
        stops_not = λ h. refl;
      })
      (λ r z. let l = late r z in
      record {
        row1 = no (λ e. omega arith) (λ q. refute r.sizes q);
        row2 = no (λ e. omega arith) (λ q. refute r.formed q.1);
        row3 = no (λ e. omega arith) (λ q. refute q.1.1 r.going);
        own = λ i p n n1 n2 n3. own_row r i p n;
        stops = λ i p h. (picked_one m (pick_of m) i (ready_picked k m r) p, (fit_place k m (ready_fit k m r) i p.below).wid);
        stops_not = λ h. absurd (omega arith);
      })

pub group_refusals : GroupRefusals
group_refusals k m = rows k m

-- a single warp's number but 4
but_four : (n : ℕ) → one_of (0 ∷ step_numbers) n ≡ true → (n ≡ 4 → ⊥) → one_of (0 ∷ group_numbers) n ≡ true
but_four n e z =
    let p : (one_of (0 ∷ group_numbers) n || eqb n 4) ≡ true = one_holds (λ j. one_of (0 ∷ group_numbers) j || eqb j 4) (0 ∷ step_numbers) refl n e in
    rw (ne_eqb n 4 z, or-false (one_of (0 ∷ group_numbers) n)) at p

pub group_answers : GroupAnswers
group_answers k m =
    by_group_step k m (λ o. one_of (0 ∷ group_numbers) o.code ≡ true) (λ a. refl) (λ a b. refl) (λ a b c. refl) (λ r z. refl)
    (λ r z. let l = late k m r z in but_four (picked_step k m).code (step_answers k (state_at (pick_of m) m)) (λ e. omega arith))

pub group_keeps : GroupKeeps
group_keeps k m n =
    by_group_step k m (λ o. (o.code ≡ 0 → ⊥) → o.left ≡ m) (λ a q. refl) (λ a b q. refl) (λ a b c q. refl) (λ r z q. absurd (q refl)) (λ r z q. refl) n

-- ---- a run

steps_answer : (k : List ℕ) (n t : ℕ) (m : Group) → one_of (0 ∷ group_numbers) (group_steps_of k n t m).ends.code ≡ true
steps_answer k zero t m = rw (group_turn_end k t m)
steps_answer k (suc n) t m =
    is_zero (group_step_of k m).code (λ z. rw (group_turn_on k n t m z) (steps_answer k n (t + 1) (group_step_of k m).left)) (λ z. rw (group_turn_off k n t m z) (group_answers k m))

pub group_run_answers : GroupRunAnswers
unfolding group_run_of
group_run_answers k n m =
    by_cond (λ (r : GroupRan). one_of (0 ∷ group_numbers) r.ends.code ≡ true) (eqb (first (group_tests k m)) 0) _ _ (λ z. steps_answer k n 0 m)
    (λ z. numbered_first (one_of (0 ∷ group_numbers)) (group_tests k m) refl refl)

-- ---- a launch, by what its three tests say

record Launches (fits : Bool) (n : ℕ) : Type 0 where
  row0 : Iff (n ≡ 0) (fits ≡ true)
  row1 : Iff (n ≡ 1) (fits ≡ false)
  answers : (n ≡ 0 → ⊥) → n ≡ 1

refuses : Launches false 1
refuses = record { row0 = no (λ e. omega arith) (λ e. true≢false (sym e)); row1 = yes refl refl; answers = λ z. refl }

pub group_places : GroupPlaces
group_places fs = (placed_at fs, all_placed fs)

launches : (a b c : Bool) → Launches (a && (b && c)) (first (1 ⇒ not a ∷ 1 ⇒ not b ∷ 1 ⇒ not c ∷ []))
launches true true true = record { row0 = yes refl refl; row1 = no (λ e. omega arith) true≢false; answers = λ z. absurd (z refl) }
launches true true false = refuses
launches true false c = refuses
launches false b c = refuses

pub group_launch_refusals : GroupLaunchRefusals
unfolding group_launch_of
group_launch_refusals k ls v c =
    let r = launches (sizes_ok_of k (map (λ (l : Launch). l.fixed) ls) v c) (all_below (length ls) (λ i. launch_ok_of (launch_at i ls))) (placed_of (map (λ (l : Launch). l.fixed) ls)) in
    record { row0 = r.row0; row1 = r.row1; answers = r.answers; keeps = λ n. rw (ne_eqb _ _ n, r.answers n); gives = λ z. rw (eq-eqb _ _ z, z) }
