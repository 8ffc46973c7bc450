-- The case laws of a group's calls.
use Prim.Native.Nat.{ℕ, suc, ◌+◌, ◌-◌, ◌≤◌, ◌<◌}
use mathlib.Core.Path.{◌≡◌, refl, sym, ap, ◌∙◌}
use mathlib.Core.Bool.{Bool, true, false}
use mathlib.Core.List.{List, map}
use native.Mathlib.Omega.{arith}
use lib.ListN.{length, get_or, replicate}
use borrow.Author.Tests.{eq-eqb, ne_eqb}
use Rattle.memory.specs.Memories.{Contents}
use Rattle.warp.specs.declared.Fixed.{Fixed}
use Rattle.warp.specs.declared.Launch.{Launch}
use Rattle.warp.specs.Warp.{zero_warp, zero_launch}
use Rattle.warp.specs.WellFormed.{launch_ok_of}
use Rattle.definition.specs.State.{Outcome}
use Rattle.definition.specs.Step.{step_of}
use Rattle.definition.specs.Calls.{launched_of}
use Rattle.group.specs.Group.{Group, group, fixeds_of, file_start, state_at, all_ended, pick_of, gone_on}
use Rattle.lanes.specs.Lanes.{all_below}
use Rattle.group.specs.GroupRefuse.{sizes_ok_of, placed_of, formed_of}
use Rattle.group.specs.GroupCalls.{GroupOutcome, group_outcome, group_step_of, GroupRan, group_ran, group_steps_of, group_run_of, group_launch_of}
use Rattle.group.proofs.GroupLaws.{by_test, by_equal}

-- ---- a step

module _ (k : List ℕ) (m : Group) where
  pub group_step_size : sizes_ok_of k (fixeds_of m) m.vector m.bytes ≡ false → group_step_of k m ≡ group_outcome 1 0 m
  unfolding group_step_of
  group_step_size a = rw a

  module _ (a : sizes_ok_of k (fixeds_of m) m.vector m.bytes ≡ true) where
    pub group_step_malformed : formed_of m ≡ false → group_step_of k m ≡ group_outcome 2 0 m
    unfolding group_step_of
    group_step_malformed b = rw (a, b)

    module _ (b : formed_of m ≡ true) where
      pub group_step_ended : all_ended m.warps ≡ true → group_step_of k m ≡ group_outcome 3 0 m
      unfolding group_step_of
      group_step_ended c = rw (a, b, c)

      module _ (c : all_ended m.warps ≡ false) where
        pub group_step_taken : (step_of k (state_at (pick_of m) m)).code ≡ 0 → group_step_of k m ≡ group_outcome 0 0 (gone_on (pick_of m) (step_of k (state_at (pick_of m) m)).left m)
        unfolding group_step_of
        group_step_taken z = rw (a, b, c, eq-eqb _ _ z)

        pub group_step_refused : ((step_of k (state_at (pick_of m) m)).code ≡ 0 → ⊥) → group_step_of k m ≡ group_outcome (step_of k (state_at (pick_of m) m)).code (pick_of m) m
        unfolding group_step_of
        group_step_refused z = rw (a, b, c, ne_eqb _ _ z)

-- by its cases
module _ (k : List ℕ) (m : Group) where
  -- what 1, 2 and 3 do not refuse
  pub record Ready : Type 0 where
    pub sizes : sizes_ok_of k (fixeds_of m) m.vector m.bytes ≡ true
    pub formed : formed_of m ≡ true
    pub going : all_ended m.warps ≡ false

  abbrev pub picked_step : Outcome
  picked_step = step_of k (state_at (pick_of m) m)

  pub by_group_step : (P : GroupOutcome → Type 0) → (sizes_ok_of k (fixeds_of m) m.vector m.bytes ≡ false → P (group_outcome 1 0 m))
      → (sizes_ok_of k (fixeds_of m) m.vector m.bytes ≡ true → formed_of m ≡ false → P (group_outcome 2 0 m))
      → (sizes_ok_of k (fixeds_of m) m.vector m.bytes ≡ true → formed_of m ≡ true → all_ended m.warps ≡ true → P (group_outcome 3 0 m))
      → (Ready → picked_step.code ≡ 0 → P (group_outcome 0 0 (gone_on (pick_of m) picked_step.left m)))
      → (Ready → (picked_step.code ≡ 0 → ⊥) → P (group_outcome picked_step.code (pick_of m) m)) → P (group_step_of k m)
  by_group_step P one two three taken refused =
      by_test (sizes_ok_of k (fixeds_of m) m.vector m.bytes)
      (λ a. by_test (formed_of m)
      (λ b. by_test (all_ended m.warps) (λ c. rw (group_step_ended k m a b c) (three a b c))
      (λ c. let r : Ready = record { sizes = a; formed = b; going = c } in
      by_equal picked_step.code 0 (λ z. rw (group_step_taken k m a b c z) (taken r z)) (λ z. rw (group_step_refused k m a b c z) (refused r z))))
      (λ b. rw (group_step_malformed k m a b) (two a b)))
      (λ a. rw (group_step_size k m a) (one a))

  -- where it answers 0, none of the tests held and the picked warp's step was taken
  pub record Taken (n : Group) : Type 0 where
    pub ready : Ready
    pub own : picked_step.code ≡ 0
    pub left : n ≡ gone_on (pick_of m) picked_step.left m

  pub group_taken : (n : Group) → group_step_of k m ≡ group_outcome 0 0 n → Taken n
  group_taken n e =
      by_group_step (λ o. o ≡ group_outcome 0 0 n → Taken n) (λ a q. absurd (omega (arith, ap (λ (o : GroupOutcome). o.code) q)))
      (λ a b q. absurd (omega (arith, ap (λ (o : GroupOutcome). o.code) q))) (λ a b c q. absurd (omega (arith, ap (λ (o : GroupOutcome). o.code) q)))
      (λ r z q. record { ready = r; own = z; left = sym (ap (λ (o : GroupOutcome). o.left) q) }) (λ r z q. absurd (z (ap (λ (o : GroupOutcome). o.code) q)))
      e

-- ---- steps one after another

pub group_turn_end : (k : List ℕ) (t : ℕ) (m : Group) → group_steps_of k 0 t m ≡ group_ran t (group_outcome 0 0 m)
unfolding group_steps_of
group_turn_end k t m = refl

module _ (k : List ℕ) (n t : ℕ) (m : Group) where
  pub group_turn_on : (group_step_of k m).code ≡ 0 → group_steps_of k (suc n) t m ≡ group_steps_of k n (t + 1) (group_step_of k m).left
  unfolding group_steps_of
  group_turn_on z = rw (eq-eqb _ _ z)

  pub group_turn_off : ((group_step_of k m).code ≡ 0 → ⊥) → group_steps_of k (suc n) t m ≡ group_ran t (group_step_of k m)
  unfolding group_steps_of
  group_turn_off z = rw (ne_eqb _ _ z)

-- with n as the whole budget, of which t is used up
module _ (k : List ℕ) (n t : ℕ) (m : Group) where
  pub group_steps_end : n ≤ t → group_steps_of k (n - t) t m ≡ group_ran t (group_outcome 0 0 m)
  group_steps_end h = let z : n - t ≡ 0 = omega arith in rw z (group_turn_end k t m)

  module _ (l : t < n) where
    more : n - t ≡ suc (n - (t + 1))
    more = omega arith

    pub group_steps_on : (group_step_of k m).code ≡ 0 → group_steps_of k (n - t) t m ≡ group_steps_of k (n - (t + 1)) (t + 1) (group_step_of k m).left
    group_steps_on z = rw more (group_turn_on k (n - (t + 1)) t m z)

    pub group_steps_stop : ((group_step_of k m).code ≡ 0 → ⊥) → group_steps_of k (n - t) t m ≡ group_ran t (group_step_of k m)
    group_steps_stop z = rw more (group_turn_off k (n - (t + 1)) t m z)

-- ---- a run

module _ (k : List ℕ) (n : ℕ) (m : Group) where
  pub group_run_size : sizes_ok_of k (fixeds_of m) m.vector m.bytes ≡ false → group_run_of k n m ≡ group_ran 0 (group_outcome 1 0 m)
  unfolding group_run_of
  group_run_size a = rw a

  module _ (a : sizes_ok_of k (fixeds_of m) m.vector m.bytes ≡ true) where
    pub group_run_malformed : formed_of m ≡ false → group_run_of k n m ≡ group_ran 0 (group_outcome 2 0 m)
    unfolding group_run_of
    group_run_malformed b = rw (a, b)

    pub group_run_steps : formed_of m ≡ true → group_run_of k n m ≡ group_steps_of k n 0 m
    unfolding group_run_of
    group_run_steps b = rw (a, b)

-- A run of one step or more is its steps: a step tests 1 and 2 too.
module _ (k : List ℕ) (n : ℕ) (m : Group) where
  refused_first : (c : ℕ) → (c ≡ 0 → ⊥) → group_step_of k m ≡ group_outcome c 0 m → group_steps_of k (suc n) 0 m ≡ group_ran 0 (group_outcome c 0 m)
  refused_first c z e = group_turn_off k n 0 m (λ h. z (sym (ap (λ (o : GroupOutcome). o.code) e) ∙ h)) ∙ ap (group_ran 0) e

  by_tests : (a b : Bool) → sizes_ok_of k (fixeds_of m) m.vector m.bytes ≡ a → formed_of m ≡ b → group_run_of k (suc n) m ≡ group_steps_of k (suc n) 0 m
  by_tests false b p q = group_run_size k (suc n) m p ∙ sym (refused_first 1 (λ z. omega arith) (group_step_size k m p))
  by_tests true false p q = group_run_malformed k (suc n) m p q ∙ sym (refused_first 2 (λ z. omega arith) (group_step_malformed k m p q))
  by_tests true true p q = group_run_steps k (suc n) m p q

  pub group_run_counted : group_run_of k (suc n) m ≡ group_steps_of k (suc n) 0 m
  group_run_counted = by_tests (sizes_ok_of k (fixeds_of m) m.vector m.bytes) (formed_of m) refl refl

-- ---- a launch

abbrev launch_fixeds : List Launch → List Fixed
launch_fixeds ls = map (λ (l : Launch). l.fixed) ls

module _ (k : List ℕ) (ls : List Launch) (v : List ℕ) (c : Contents) where
  pub group_launch_size : sizes_ok_of k (launch_fixeds ls) v c ≡ false → group_launch_of k ls v c ≡ group_outcome 1 0 (group 0 (replicate (length ls) zero_warp) v c)
  unfolding group_launch_of
  group_launch_size a = rw a

  module _ (a : sizes_ok_of k (launch_fixeds ls) v c ≡ true) where
    pub group_launch_range : all_below (length ls) (λ i. launch_ok_of (get_or ls i zero_launch)) ≡ false → group_launch_of k ls v c ≡ group_outcome 1 0 (group 0 (replicate (length ls) zero_warp) v c)
    unfolding group_launch_of
    group_launch_range b = rw (a, b)

    module _ (b : all_below (length ls) (λ i. launch_ok_of (get_or ls i zero_launch)) ≡ true) where
      pub group_launch_place : placed_of (launch_fixeds ls) ≡ false → group_launch_of k ls v c ≡ group_outcome 1 0 (group 0 (replicate (length ls) zero_warp) v c)
      unfolding group_launch_of
      group_launch_place p = rw (a, b, p)

      pub group_launch_done : placed_of (launch_fixeds ls) ≡ true → group_launch_of k ls v c ≡ group_outcome 0 0 (group 0 (map launched_of ls) (replicate (file_start (length ls)) 0) c)
      unfolding group_launch_of
      group_launch_done p = rw (a, b, p)

-- A run of one step is a step.
pub group_run_one : (k : List ℕ) (m : Group) → (group_run_of k 1 m).ends ≡ group_step_of k m
group_run_one k m =
    ap (λ (r : GroupRan). r.ends) (group_run_counted k 0 m)
    ∙ by_equal (group_step_of k m).code 0
    (λ z. ap (λ (r : GroupRan). r.ends) (group_turn_on k 0 0 m z ∙ group_turn_end k 1 (group_step_of k m).left) ∙ taken z)
    (λ z. ap (λ (r : GroupRan). r.ends) (group_turn_off k 0 0 m z))
  where
    taken : (group_step_of k m).code ≡ 0 → group_outcome 0 0 (group_step_of k m).left ≡ group_step_of k m
    taken =
        by_group_step k m (λ o. o.code ≡ 0 → group_outcome 0 0 o.left ≡ o) (λ a q. absurd (omega arith)) (λ a b q. absurd (omega arith)) (λ a b c q. absurd (omega arith))
        (λ r z q. refl) (λ r z q. absurd (z q))
