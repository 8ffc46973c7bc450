-- Demand 1: the answer's number, when and only when; and what a refusal leaves.
use Prim.Native.Nat.{ℕ, zero, suc, ◌+◌}
use mathlib.Core.Path.{◌≡◌, refl, sym}
use mathlib.Core.Bool.{Bool, true, false, not, ◌&&◌, true≢false}
use mathlib.Core.List.{List, [], ◌∷◌, append-nil}
use native.Mathlib.Omega.{arith}
use lib.Dec.{eqb}
use lib.ListN.{take}
use borrow.Author.Tests.{eq-eqb, ne_eqb, eqb-true, eqb-false}
use Rattle.answer.specs.Rows.{Row, ◌⇒◌, first, one_of, Iff}
use Rattle.answer.proofs.Rows.{silent, without, first_silent, zero_silent, numbered_first}
use Rattle.warp.specs.WellFormed.{launch_ok_of, well_formed_of}
use Rattle.warp.proofs.SplitLaws.{by_cond}
use Rattle.definition.specs.State.{State}
use Rattle.definition.specs.Refuse.{runs_ok_of, state_tests, step_tests, step_numbers}
use Rattle.definition.specs.Step.{step_of}
use Rattle.definition.specs.Calls.{Ran, launch_of, steps_of, run_of, release_of}
use Rattle.definition.proofs.Tests as Tests
use Rattle.definition.proofs.Calls.{turn_end, turn_on, turn_off}
use Rattle.promises.specs.Refusals.{StepTable, StepRefusals, StepAnswers, RunAnswers, StepKeeps, LaunchRefusals, ReleaseRefusals}

-- ---- a step

pub step_table : StepTable
step_table k m = Tests.step_rows k m

pub step_keeps : StepKeeps
step_keeps k m n = Tests.step_kept k m n

-- none of the rows holds where the first that holds is none
quiet : {A B : Type 0} (rs : List (Row Bool)) → without 0 rs ≡ true → Iff A ((silent rs ≡ true) × B) → Iff A ((first rs ≡ 0) × B)
quiet rs z f = (λ a. (rw append-nil at (first_silent rs [] (f.0 a).0), (f.0 a).1), λ p. f.1 (zero_silent rs z p.0, p.1))

pub step_refusals : StepRefusals
step_refusals k m =
    record {
      row1 = quiet (take 0 (step_tests k m)) refl (Tests.row1 k m);
      row2 = quiet (take 1 (step_tests k m)) refl (Tests.row2 k m);
      row3 = quiet (take 2 (step_tests k m)) refl (Tests.row3 k m);
      row4 = quiet (take 3 (step_tests k m)) refl (Tests.row4 k m);
      row5 = quiet (take 4 (step_tests k m)) refl (Tests.row5 k m);
      own = λ n h. quiet (step_tests k m) refl (Tests.row_own k m n h);
    }

pub step_answers : StepAnswers
step_answers k m = Tests.step_known k m

-- ---- a run

pub is_zero : {A : Type 0} (n : ℕ) → (n ≡ 0 → A) → ((n ≡ 0 → ⊥) → A) → A
is_zero {A = A} n f g = go (eqb n 0) refl
  where
    go : (t : Bool) → eqb n 0 ≡ t → A
    go true e = f (eqb-true n 0 e)
    go false e = g (eqb-false n 0 e)

steps_answer : (k : List ℕ) (n t : ℕ) (m : State) → one_of (0 ∷ step_numbers) (steps_of k n t m).ends.code ≡ true
steps_answer k zero t m = rw (turn_end k t m)
steps_answer k (suc n) t m =
    is_zero (step_of k m).code (λ z. rw (turn_on k n t m z) (steps_answer k n (t + 1) (step_of k m).left)) (λ z. rw (turn_off k n t m z) (step_answers k m))

pub run_answers : RunAnswers
unfolding run_of
run_answers k n m =
    by_cond (λ (r : Ran). one_of (0 ∷ step_numbers) r.ends.code ≡ true) (eqb (first (state_tests k m)) 0) _ _ (λ z. steps_answer k n 0 m)
    (λ z. numbered_first (one_of (0 ∷ step_numbers)) (state_tests k m) refl refl)

-- ---- a launch and a release, by what their two tests say

yes : {A B : Type 0} → A → B → Iff A B
yes a b = (λ x. b, λ x. a)

no : {A B : Type 0} → (A → ⊥) → (B → ⊥) → Iff A B
no a b = (λ x. absurd (a x), λ x. absurd (b x))

wrong : false ≡ true → ⊥
wrong e = true≢false (sym e)

record Launches (fits : Bool) (n : ℕ) : Type 0 where
  row0 : Iff (n ≡ 0) (fits ≡ true)
  row1 : Iff (n ≡ 1) (fits ≡ false)
  answers : (n ≡ 0 → ⊥) → n ≡ 1

refuses : Launches false 1
refuses = record { row0 = no (λ e. omega arith) wrong; row1 = yes refl refl; answers = λ z. refl }

launches : (a b : Bool) → Launches (a && b) (first (1 ⇒ not a ∷ 1 ⇒ not b ∷ []))
launches true true = record { row0 = yes refl refl; row1 = no (λ e. omega arith) true≢false; answers = λ z. absurd (z refl) }
launches true false = refuses
launches false b = refuses

pub launch_refusals : LaunchRefusals
unfolding launch_of
launch_refusals k l v c =
    let r = launches (runs_ok_of l.fixed k v c) (launch_ok_of l) in
    record { row0 = r.row0; row1 = r.row1; answers = r.answers; keeps = λ n. rw (ne_eqb _ _ n, r.answers n); gives = λ z. rw (eq-eqb _ _ z, z) }

record Releases (a b : Bool) (n : ℕ) : Type 0 where
  row0 : Iff (n ≡ 0) ((a ≡ true) × (b ≡ true))
  row2 : Iff (n ≡ 2) (a ≡ false)
  row12 : Iff (n ≡ 12) ((a ≡ true) × (b ≡ false))
  answers : (n ≡ 0 → ⊥) → (n ≡ 2 → ⊥) → n ≡ 12

released : (a b : Bool) → Releases a b (first (2 ⇒ not a ∷ 12 ⇒ not b ∷ []))
released true true =
    record { row0 = yes refl (refl, refl); row2 = no (λ e. omega arith) true≢false; row12 = no (λ e. omega arith) (λ e. true≢false e.1); answers = λ p q. absurd (p refl) }
released true false =
    record { row0 = no (λ e. omega arith) (λ e. wrong e.1); row2 = no (λ e. omega arith) true≢false; row12 = yes refl (refl, refl); answers = λ p q. refl }
released false b =
    record { row0 = no (λ e. omega arith) (λ e. wrong e.0); row2 = yes refl refl; row12 = no (λ e. omega arith) (λ e. wrong e.0); answers = λ p q. absurd (q refl) }

pub release_refusals : ReleaseRefusals
unfolding release_of
release_refusals w =
    let r = released (well_formed_of w) w.waiting in
    record { row0 = r.row0; row2 = r.row2; row12 = r.row12; answers = r.answers; keeps = λ n. rw (ne_eqb _ _ n); gives = λ z. rw (eq-eqb _ _ z, z) }
