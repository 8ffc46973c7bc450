-- The case laws of the calls.
use Prim.Native.Nat.{ℕ, suc, ◌+◌, ◌-◌, ◌≤◌, ◌<◌}
use mathlib.Core.Path.{◌≡◌, refl, sym, ap, ◌∙◌}
use mathlib.Core.Bool.{Bool, true, false, cond}
use mathlib.Core.List.{List}
use native.Mathlib.Omega.{arith}
use lib.Dec.{eqb}
use lib.ListN.{replicate}
use borrow.Author.Tests.{eq-eqb, ne_eqb, eqb-true}
use Rattle.lanes.specs.Lanes.{file_words}
use Rattle.memory.specs.Memories.{Contents}
use Rattle.warp.specs.declared.Launch.{Launch}
use Rattle.warp.specs.declared.Warp.{Warp}
use Rattle.warp.specs.Warp.{zero_warp, with_stop, answered}
use Rattle.warp.specs.WellFormed.{launch_ok_of, well_formed_of}
use Rattle.definition.specs.State.{State, state, Outcome, outcome, fixed_of}
use Rattle.definition.specs.Refuse.{runs_ok_of}
use Rattle.definition.specs.Step.{step_of}
use Rattle.definition.specs.Calls.{launched_of, launch_of, Ran, ran, steps_of, run_of, release_of}
use Rattle.definition.proofs.Tests.{step_runs, step_malformed}

-- ---- a launch

module _ (k : List ℕ) (l : Launch) (v : List ℕ) (c : Contents) where
  pub launch_size : runs_ok_of l.fixed k v c ≡ false → launch_of k l v c ≡ outcome 1 (state zero_warp v c)
  unfolding launch_of
  launch_size a = rw a

  module _ (a : runs_ok_of l.fixed k v c ≡ true) where
    pub launch_range : launch_ok_of l ≡ false → launch_of k l v c ≡ outcome 1 (state zero_warp v c)
    unfolding launch_of
    launch_range b = rw (a, b)

    pub launch_done : launch_ok_of l ≡ true → launch_of k l v c ≡ outcome 0 (state (launched_of l) (replicate file_words 0) c)
    unfolding launch_of
    launch_done b = rw (a, b)

-- ---- a release

module _ (w : Warp) where
  pub release_malformed : well_formed_of w ≡ false → release_of w ≡ answered 2 w
  unfolding release_of
  release_malformed f = rw f

  module _ (f : well_formed_of w ≡ true) where
    pub release_runs : w.waiting ≡ false → release_of w ≡ answered 12 w
    unfolding release_of
    release_runs b = rw (f, b)

    pub release_waits : w.waiting ≡ true → release_of w ≡ answered 0 (with_stop false false w)
    unfolding release_of
    release_waits b = rw (f, b)

-- ---- steps one after another

pub turn_end : (k : List ℕ) (t : ℕ) (m : State) → steps_of k 0 t m ≡ ran t (outcome 0 m)
unfolding steps_of
turn_end k t m = refl

module _ (k : List ℕ) (n t : ℕ) (m : State) where
  pub turn_on : (step_of k m).code ≡ 0 → steps_of k (suc n) t m ≡ steps_of k n (t + 1) (step_of k m).left
  unfolding steps_of
  turn_on z = rw (eq-eqb _ _ z)

  pub turn_off : ((step_of k m).code ≡ 0 → ⊥) → steps_of k (suc n) t m ≡ ran t (step_of k m)
  unfolding steps_of
  turn_off z = rw (ne_eqb _ _ z)

-- with n as the whole budget, of which t is used up
module _ (k : List ℕ) (n t : ℕ) (m : State) where
  pub steps_end : n ≤ t → steps_of k (n - t) t m ≡ ran t (outcome 0 m)
  steps_end h = let z : n - t ≡ 0 = omega arith in rw z (turn_end k t m)

  module _ (l : t < n) where
    more : n - t ≡ suc (n - (t + 1))
    more = omega arith

    pub steps_on : (step_of k m).code ≡ 0 → steps_of k (n - t) t m ≡ steps_of k (n - (t + 1)) (t + 1) (step_of k m).left
    steps_on z = rw more (turn_on k (n - (t + 1)) t m z)

    pub steps_stop : ((step_of k m).code ≡ 0 → ⊥) → steps_of k (n - t) t m ≡ ran t (step_of k m)
    steps_stop z = rw more (turn_off k (n - (t + 1)) t m z)

-- ---- a run

module _ (k : List ℕ) (n : ℕ) (m : State) where
  pub run_size : runs_ok_of (fixed_of m) k m.vector m.bytes ≡ false → run_of k n m ≡ ran 0 (outcome 1 m)
  unfolding run_of
  run_size a = rw a

  module _ (a : runs_ok_of (fixed_of m) k m.vector m.bytes ≡ true) where
    pub run_malformed : well_formed_of m.warp ≡ false → run_of k n m ≡ ran 0 (outcome 2 m)
    unfolding run_of
    run_malformed b = rw (a, b)

    pub run_steps : well_formed_of m.warp ≡ true → run_of k n m ≡ steps_of k n 0 m
    unfolding run_of
    run_steps b = rw (a, b)

-- A run of one step or more is its steps: a step tests 1 and 2 too.
module _ (k : List ℕ) (n : ℕ) (m : State) where
  refused_first : (c : ℕ) → (c ≡ 0 → ⊥) → step_of k m ≡ outcome c m → steps_of k (suc n) 0 m ≡ ran 0 (outcome c m)
  refused_first c z e = turn_off k n 0 m (λ h. z (sym (ap (λ (o : Outcome). o.code) e) ∙ h)) ∙ ap (ran 0) e

  by_tests : (a b : Bool) → runs_ok_of (fixed_of m) k m.vector m.bytes ≡ a → well_formed_of m.warp ≡ b → run_of k (suc n) m ≡ steps_of k (suc n) 0 m
  by_tests false b p q = run_size k (suc n) m p ∙ sym (refused_first 1 (λ z. omega arith) (step_runs k m p))
  by_tests true false p q = run_malformed k (suc n) m p q ∙ sym (refused_first 2 (λ z. omega arith) (step_malformed k m p q))
  by_tests true true p q = run_steps k (suc n) m p q

  pub run_counted : run_of k (suc n) m ≡ steps_of k (suc n) 0 m
  run_counted = by_tests (runs_ok_of (fixed_of m) k m.vector m.bytes) (well_formed_of m.warp) refl refl

-- A run of one step is a step.
module _ (k : List ℕ) (m : State) where
  as_step : (o : Outcome) (t : Bool) → eqb o.code 0 ≡ t → (cond t (ran 1 (outcome 0 o.left)) (ran 0 o)).ends ≡ o
  as_step o true e = ap (λ (c : ℕ). outcome c o.left) (sym (eqb-true _ _ e))
  as_step o false e = refl

  steps_one : (steps_of k 1 0 m).ends ≡ step_of k m
  unfolding steps_of
  steps_one = as_step (step_of k m) (eqb (step_of k m).code 0) refl

  pub run_one : (run_of k 1 m).ends ≡ step_of k m
  run_one = ap (λ (r : Ran). r.ends) (run_counted k 0 m) ∙ steps_one
