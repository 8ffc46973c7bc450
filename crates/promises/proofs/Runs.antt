-- Demand 2: a run is the iteration of the step.
use Prim.Native.Nat.{ℕ, zero, suc, ◌+◌}
use mathlib.Core.Path.{◌≡◌, refl, sym, ◌∙◌, ap}
use mathlib.Core.Bool.{not}
use mathlib.Core.List.{List, [], ◌∷◌}
use native.Mathlib.Omega.{arith}
use native.Mathlib.Nat.{zero-add, add-zero, suc-add}
use lib.ListN.{length}
use borrow.Author.Tests.{eq-eqb, ne_eqb}
use Rattle.answer.specs.Rows.{◌⇒◌}
use Rattle.answer.proofs.Rows.{passed}
use Rattle.warp.specs.declared.Launch.{Launch}
use Rattle.warp.specs.Warp.{split_count}
use Rattle.warp.specs.WellFormed.{well_formed_of}
use Rattle.definition.specs.State.{State, Outcome, outcome, fixed_of}
use Rattle.definition.specs.Refuse.{runs_ok_of}
use Rattle.definition.specs.Step.{step_of}
use Rattle.definition.specs.Calls.{Ran, ran, steps_of, run_of}
use Rattle.definition.proofs.Calls.{turn_end, turn_on, turn_off}
use Rattle.promises.specs.Reached.{steps, Reached, goes}
use Rattle.promises.specs.Runs.{tested, Steps, start, more, Iterates, RunIterates, RunTests, RunZero, StepsFixed, RunFixed, RunMore, RunPasses, RunReaches}
use Rattle.promises.proofs.Refusals.{is_zero, step_keeps}
use Rattle.promises.proofs.Reached.{Fit, fit, goes_fit, unrefused, reached_sound}

-- a step answered 0
answered : (k : List ℕ) (s : State) → (step_of k s).code ≡ 0 → step_of k s ≡ outcome 0 (step_of k s).left
answered k s z = ap (λ (c : ℕ). outcome c (step_of k s).left) z

module _ (k : List ℕ) where
  -- the run of at most n steps more, where t steps led from s to u
  iterates : (n t : ℕ) (s u : State) → Steps k t s u → Iterates k (t + n) s (steps_of k n t u)
  iterates zero t s u p = rw (turn_end k t u) (record { taken = p; whole = λ z. omega arith; early = λ z. absurd (z refl); refused = λ z. absurd (z refl) })
  iterates (suc n) t s u p =
      is_zero (step_of k u).code
      (λ z. let e : t + suc n ≡ t + 1 + n = omega arith in rw (turn_on k n t u z, e) (iterates n (t + 1) s (step_of k u).left (more p (answered k u z))))
      (λ z. rw (turn_off k n t u z, step_keeps k u z) (record { taken = p; whole = λ e. absurd (z e); early = λ e. omega arith; refused = λ e. step_keeps k u z }))

-- ---- a run

module _ (k : List ℕ) (n : ℕ) (s : State) where
  pub run_on : tested k s ≡ 0 → run_of k n s ≡ steps_of k n 0 s
  unfolding run_of
  run_on z = rw (eq-eqb _ _ z)

  run_off : (tested k s ≡ 0 → ⊥) → run_of k n s ≡ ran 0 (outcome (tested k s) s)
  unfolding run_of
  run_off z = rw (ne_eqb _ _ z)

pub run_iterates : RunIterates
run_iterates k n s z = rw (run_on k n s z) (rw zero-add at (iterates k n 0 s s start))

pub run_tests : RunTests
run_tests k n s z = run_off k n s z

pub run_zero : RunZero
run_zero k s = is_zero (tested k s) (λ z. run_on k 0 s z ∙ turn_end k 0 s ∙ ap (λ (c : ℕ). ran 0 (outcome c s)) (sym z)) (λ n. run_off k 0 s n)

-- ---- the state after each count

module _ (k : List ℕ) where
  pub turns_more : (n m t : ℕ) (s : State) → (steps_of k n t s).ends.code ≡ 0 → steps_of k (n + m) t s ≡ steps_of k m (steps_of k n t s).steps (steps_of k n t s).ends.left
  turns_more zero m t s h = rw (turn_end k t s, zero-add)
  turns_more (suc n) m t s h =
      is_zero (step_of k s).code
      (λ z. rw (suc-add n m, turn_on k (n + m) t s z, turn_on k n t s z) (turns_more n m (t + 1) (step_of k s).left (rw (turn_on k n t s z) at h)))
      (λ z. absurd (z (rw (turn_off k n t s z) at h)))

  pub turns_fixed : (t : ℕ) (s u : State) → Steps k t s u → steps_of k t 0 s ≡ ran t (outcome 0 u)
  turns_fixed t s u start = turn_end k 0 s
  turns_fixed t s u (more {t = n} {u = x} p q) =
      let h : steps_of k n 0 s ≡ ran n (outcome 0 x) = turns_fixed n s x p in
      let z : (step_of k x).code ≡ 0 = ap (λ (o : Outcome). o.code) q in
      turns_more n 1 0 s (rw h refl) ∙ rw h (turn_on k 0 n x z ∙ turn_end k (n + 1) (step_of k x).left ∙ ap (λ (o : Outcome). ran (n + 1) (outcome 0 o.left)) q)

  shifted : (n a t : ℕ) (s : State) → steps_of k n (a + t) s ≡ ran (a + (steps_of k n t s).steps) (steps_of k n t s).ends
  shifted zero a t s = rw (turn_end k t s) (turn_end k (a + t) s)
  shifted (suc n) a t s =
      is_zero (step_of k s).code
      (λ z. let e : a + t + 1 ≡ a + (t + 1) = omega arith in rw (turn_on k n (a + t) s z, turn_on k n t s z, e) (shifted n a (t + 1) (step_of k s).left))
      (λ z. rw (turn_off k n (a + t) s z, turn_off k n t s z))

pub run_fixed : RunFixed
run_fixed k t s u z p = run_on k t s z ∙ turns_fixed k t s u p

pub steps_fixed : StepsFixed
steps_fixed k t s u x p q = ap (λ (r : Ran). r.ends.left) (sym (turns_fixed k t s u p) ∙ turns_fixed k t s x q)

-- ---- two runs

steps_fit : (k : List ℕ) (t : ℕ) (s u : State) → Fit k s → Steps k t s u → Fit k u
steps_fit k t s u f start = f
steps_fit k t s u f (more {t = n} {u = x} p q) = goes_fit k x u (steps_fit k n s x f p) (steps q)

fit_tested : (k : List ℕ) (s : State) → Fit k s → tested k s ≡ 0
fit_tested k s f = rw (f.runs, f.formed)

tested_fit : (k : List ℕ) (s : State) → length s.warp.splits ≡ split_count → tested k s ≡ 0 → Fit k s
tested_fit k s n z =
    let a = runs_ok_of (fixed_of s) k s.vector s.bytes in
    let b = well_formed_of s.warp in
    record { formed = passed (1 ⇒ not a ∷ []) [] 2 b refl z; splits = n; runs = passed [] (2 ⇒ not b ∷ []) 1 a refl z }

run_tested : (k : List ℕ) (n : ℕ) (s : State) → (run_of k n s).ends.code ≡ 0 → tested k s ≡ 0
run_tested k n s h = is_zero (tested k s) (λ z. z) (λ z. absurd (z (rw (run_off k n s z) at h)))

pub run_more : RunMore
run_more k n m s long h =
    let z : tested k s ≡ 0 = run_tested k n s h in
    let r : Iterates k n s (run_of k n s) = run_iterates k n s z in
    let u : State = (run_of k n s).ends.left in
    let y : tested k u ≡ 0 = fit_tested k u (steps_fit k (run_of k n s).steps s u (tested_fit k s long z) r.taken) in
    let e : run_of k n s ≡ steps_of k n 0 s = run_on k n s z in
    run_on k (n + m) s z ∙ turns_more k n m 0 s (rw e at h) ∙ rw (← e, run_on k m u y) (rw (add-zero (run_of k n s).steps) at (shifted k m (run_of k n s).steps 0 u))

-- ---- a run that passes its tests

pub run_passes : RunPasses
run_passes k n s long z =
    let i = run_iterates k n s z in
    let u = unrefused k _ (steps_fit k (run_of k n s).steps s _ (tested_fit k s long z) i.taken) in
    record {
      not1 = λ e. u.0 (ap (λ (o : Outcome). o.code) (i.refused (λ z. omega arith)) ∙ e);
      not2 = λ e. u.1 (ap (λ (o : Outcome). o.code) (i.refused (λ z. omega arith)) ∙ e);
    }

-- ---- a run from a reached state

steps_reached : (k : List ℕ) (l : Launch) (t : ℕ) (s u : State) → Reached k l s → Steps k t s u → Reached k l u
steps_reached k l t s u r start = r
steps_reached k l t s u r (more {t = n} {u = x} p q) = goes (steps_reached k l n s x r p) (steps q)

pub run_reaches : RunReaches
run_reaches k l n s r =
    let g = reached_sound k l s r in
    let z : tested k s ≡ 0 = fit_tested k s (fit k l s g) in
    record { reached = steps_reached k l (run_of k n s).steps s _ r (run_iterates k n s z).taken; passes = run_passes k n s g.splits z }
