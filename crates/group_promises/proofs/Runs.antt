-- Demand 2 for a group: a run is the iteration of the group's step; and no reached group is refused with 1 or 2.
use Prim.Native.Nat.{ℕ, zero, suc, ◌+◌}
use mathlib.Core.Path.{◌≡◌, refl, sym, ◌∙◌, ap, ap₂}
use mathlib.Core.Bool.{not}
use mathlib.Core.List.{List, [], ◌∷◌}
use native.Mathlib.Omega.{arith}
use native.Mathlib.Nat.{zero-add, add-zero, suc-add}
use borrow.Author.Tests.{eq-eqb, ne_eqb}
use Rattle.answer.specs.Rows.{◌⇒◌}
use Rattle.answer.proofs.Rows.{passed}
use Rattle.warp.specs.declared.Launch.{Launch}
use Rattle.promises.proofs.Refusals.{is_zero}
use Rattle.group.specs.Group.{Group, fixeds_of}
use Rattle.group.specs.GroupRefuse.{sizes_ok_of, formed_of}
use Rattle.group.specs.GroupCalls.{GroupOutcome, group_outcome, group_step_of, GroupRan, group_ran, group_steps_of, group_run_of}
use Rattle.group.proofs.GroupLaws.{refute}
use Rattle.group.proofs.GroupFacts.{GroupFit, group_fit, fit_sizes, fit_formed}
use Rattle.group.proofs.GroupCases.{Taken, group_taken, group_turn_end, group_turn_on, group_turn_off}
use Rattle.group_promises.specs.Reached.{steps, GroupReached, goes, GroupNeverMalformed}
use Rattle.group_promises.specs.Runs.{group_tested, GroupSteps, start, more, GroupIterates, GroupRunIterates, GroupRunTests, GroupRunZero, GroupStepsFixed, GroupRunFixed, GroupRunMore, GroupStepPasses, GroupRunReaches}
use Rattle.group_promises.proofs.Steps.{ready_fit}
use Rattle.group_promises.proofs.Refusals.{group_refusals, group_keeps}
use Rattle.group_promises.proofs.Goes.{Fits, goes_fits}
use Rattle.group_promises.proofs.Reached.{group_reached_fits}

-- a step answered 0
pub answered : (k : List ℕ) (m : Group) → (group_step_of k m).code ≡ 0 → group_step_of k m ≡ group_outcome 0 0 (group_step_of k m).left
answered k m z = let s = (group_refusals k m).stops_not (omega arith) in ap₂ (λ (c i : ℕ). group_outcome c i (group_step_of k m).left) z s

module _ (k : List ℕ) where
  -- the run of at most n steps more, where t steps led from m to u
  iterates : (n t : ℕ) (m u : Group) → GroupSteps k t m u → GroupIterates k (t + n) m (group_steps_of k n t u)
  iterates zero t m u p = rw (group_turn_end k t u) (record { taken = p; whole = λ z. omega arith; early = λ z. absurd (z refl); refused = λ z. absurd (z refl) })
  iterates (suc n) t m u p =
      is_zero (group_step_of k u).code
      (λ z. let e : t + suc n ≡ t + 1 + n = omega arith in rw (group_turn_on k n t u z, e) (iterates n (t + 1) m (group_step_of k u).left (more p (answered k u z))))
      (λ z. let e = group_keeps k u z in
      rw (group_turn_off k n t u z) (record { taken = rw e p; whole = λ q. absurd (z q); early = λ q. omega arith; refused = λ q. ap (group_step_of k) e }))

-- ---- a run

module _ (k : List ℕ) (n : ℕ) (m : Group) where
  run_on : group_tested k m ≡ 0 → group_run_of k n m ≡ group_steps_of k n 0 m
  unfolding group_run_of
  run_on z = rw (eq-eqb _ _ z)

  run_off : (group_tested k m ≡ 0 → ⊥) → group_run_of k n m ≡ group_ran 0 (group_outcome (group_tested k m) 0 m)
  unfolding group_run_of
  run_off z = rw (ne_eqb _ _ z)

pub group_run_iterates : GroupRunIterates
group_run_iterates k n m z = rw (run_on k n m z) (rw zero-add at (iterates k n 0 m m start))

pub group_run_tests : GroupRunTests
group_run_tests k n m z = run_off k n m z

pub group_run_zero : GroupRunZero
group_run_zero k m = is_zero (group_tested k m) (λ z. run_on k 0 m z ∙ group_turn_end k 0 m ∙ ap (λ (c : ℕ). group_ran 0 (group_outcome c 0 m)) (sym z)) (λ n. run_off k 0 m n)

-- ---- the group after each count

module _ (k : List ℕ) where
  turns_more : (n h t : ℕ) (m : Group) → (group_steps_of k n t m).ends.code ≡ 0
      → group_steps_of k (n + h) t m ≡ group_steps_of k h (group_steps_of k n t m).steps (group_steps_of k n t m).ends.left
  turns_more zero h t m e = rw (group_turn_end k t m, zero-add)
  turns_more (suc n) h t m e =
      is_zero (group_step_of k m).code
      (λ z. rw (suc-add n h, group_turn_on k (n + h) t m z, group_turn_on k n t m z) (turns_more n h (t + 1) (group_step_of k m).left (rw (group_turn_on k n t m z) at e)))
      (λ z. absurd (z (rw (group_turn_off k n t m z) at e)))

  turns_fixed : (t : ℕ) (m u : Group) → GroupSteps k t m u → group_steps_of k t 0 m ≡ group_ran t (group_outcome 0 0 u)
  turns_fixed t m u start = group_turn_end k 0 m
  turns_fixed t m u (more {t = n} {u = x} p q) =
      let h : group_steps_of k n 0 m ≡ group_ran n (group_outcome 0 0 x) = turns_fixed n m x p in
      let z : (group_step_of k x).code ≡ 0 = ap (λ (o : GroupOutcome). o.code) q in
      turns_more n 1 0 m (rw h refl)
      ∙ rw h (group_turn_on k 0 n x z ∙ group_turn_end k (n + 1) (group_step_of k x).left ∙ ap (λ (o : GroupOutcome). group_ran (n + 1) (group_outcome 0 0 o.left)) q)

  shifted : (n a t : ℕ) (m : Group) → group_steps_of k n (a + t) m ≡ group_ran (a + (group_steps_of k n t m).steps) (group_steps_of k n t m).ends
  shifted zero a t m = rw (group_turn_end k t m) (group_turn_end k (a + t) m)
  shifted (suc n) a t m =
      is_zero (group_step_of k m).code
      (λ z. let e : a + t + 1 ≡ a + (t + 1) = omega arith in rw (group_turn_on k n (a + t) m z, group_turn_on k n t m z, e) (shifted n a (t + 1) (group_step_of k m).left))
      (λ z. rw (group_turn_off k n (a + t) m z, group_turn_off k n t m z))

pub group_run_fixed : GroupRunFixed
group_run_fixed k t m u z p = run_on k t m z ∙ turns_fixed k t m u p

pub group_steps_fixed : GroupStepsFixed
group_steps_fixed k t m u x p q = ap (λ (r : GroupRan). r.ends.left) (sym (turns_fixed k t m u p) ∙ turns_fixed k t m x q)

-- ---- what passes 1 and 2 goes on passing them

fits_tested : (k : List ℕ) (m : Group) → Fits k m → group_tested k m ≡ 0
fits_tested k m f = rw (fit_sizes k m f.fit, fit_formed k m f.fit)

pub tested_fit : (k : List ℕ) (m : Group) → group_tested k m ≡ 0 → GroupFit k m
tested_fit k m z =
    let a = sizes_ok_of k (fixeds_of m) m.vector m.bytes in
    let b = formed_of m in
    group_fit k m (passed [] (2 ⇒ not b ∷ []) 1 a refl z) (passed (1 ⇒ not a ∷ []) [] 2 b refl z)

pub steps_fits : (k : List ℕ) (t : ℕ) (m u : Group) → Fits k m → GroupSteps k t m u → Fits k u
steps_fits k t m u f start = f
steps_fits k t m u f (more {t = n} {u = x} p q) = goes_fits k x u (steps_fits k n m x f p) (steps q)

pub group_step_passes : GroupStepPasses
group_step_passes k m n a e =
    let t : Taken k m n = group_taken k m n e in
    let f : Fits k n = goes_fits k m n (record { fit = ready_fit k m t.ready; splits = a }) (steps e) in
    (fits_tested k n f, f.splits)

run_tested : (k : List ℕ) (n : ℕ) (m : Group) → (group_run_of k n m).ends.code ≡ 0 → group_tested k m ≡ 0
run_tested k n m h = is_zero (group_tested k m) (λ z. z) (λ z. absurd (z (rw (run_off k n m z) at h)))

-- ---- two runs

pub group_run_more : GroupRunMore
group_run_more k n h m a e =
    let z : group_tested k m ≡ 0 = run_tested k n m e in
    let r : GroupIterates k n m (group_run_of k n m) = group_run_iterates k n m z in
    let u : Group = (group_run_of k n m).ends.left in
    let y : group_tested k u ≡ 0 = fits_tested k u (steps_fits k (group_run_of k n m).steps m u (record { fit = tested_fit k m z; splits = a }) r.taken) in
    let q : group_run_of k n m ≡ group_steps_of k n 0 m = run_on k n m z in
    run_on k (n + h) m z ∙ turns_more k n h 0 m (rw q at e) ∙ rw (← q, run_on k h u y) (rw (add-zero (group_run_of k n m).steps) at (shifted k h (group_run_of k n m).steps 0 u))

-- ---- from a reached group

steps_reached : (k : List ℕ) (ls : List Launch) (t : ℕ) (m u : Group) → GroupReached k ls m → GroupSteps k t m u → GroupReached k ls u
steps_reached k ls t m u r start = r
steps_reached k ls t m u r (more {t = n} {u = x} p q) = goes (steps_reached k ls n m x r p) (steps q)

pub group_run_reaches : GroupRunReaches
group_run_reaches k ls n m r = steps_reached k ls (group_run_of k n m).steps m _ r (group_run_iterates k n m (fits_tested k m (group_reached_fits k ls m r))).taken

-- a step of a group that fits
pub unrefused : (k : List ℕ) (m : Group) → Fits k m → ((group_step_of k m).code ≡ 1 → ⊥) × ((group_step_of k m).code ≡ 2 → ⊥)
unrefused k m f =
    let t = group_refusals k m in
    (λ e. refute (fit_sizes k m f.fit) (t.row1.0 e), λ e. refute (fit_formed k m f.fit) (t.row2.0 e).1)

pub group_never_malformed : GroupNeverMalformed
group_never_malformed k ls m r =
    let u = unrefused k m (group_reached_fits k ls m r) in
    record { step1 = u.0; step2 = u.1; run1 = λ n e. run_unrefused n 1 (omega arith) (λ x f q. (unrefused k x f).0 q) e; run2 = λ n e. run_unrefused n 2 (omega arith) (λ x f q. (unrefused k x f).1 q) e }
  where
    run_unrefused : (n c : ℕ) → (c ≡ 0 → ⊥) → ((x : Group) → Fits k x → (group_step_of k x).code ≡ c → ⊥) → (group_run_of k n m).ends.code ≡ c → ⊥
    run_unrefused n c z h e =
        let f : Fits k m = group_reached_fits k ls m r in
        let i : GroupIterates k n m (group_run_of k n m) = group_run_iterates k n m (fits_tested k m f) in
        let x : Group = (group_run_of k n m).ends.left in
        h x (steps_fits k (group_run_of k n m).steps m x f i.taken) (ap (λ (o : GroupOutcome). o.code) (i.refused (λ q. z (sym e ∙ q))) ∙ e)
