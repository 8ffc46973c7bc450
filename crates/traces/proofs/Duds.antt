-- Each dud breaks its statement, and ours meets them.
use Prim.Native.Nat.{ℕ, suc, ◌+◌, ◌-◌}
use mathlib.Core.Path.{◌≡◌, refl, sym, ◌∙◌, ap}
use mathlib.Core.List.{List, [], ◌∷◌}
use native.Mathlib.Omega.{arith}
use lib.ListN.{get_or}
use Rattle.definition.specs.State.{State, Outcome, outcome}
use Rattle.definition.specs.Step.{step_of}
use Rattle.definition.specs.Calls.{Ran, ran, steps_of, run_of}
use Rattle.definition.proofs.Calls.{turn_off}
use Rattle.definition.proofs.Computes.{computes}
use Rattle.traces.specs.Bound.{loop, launch_on, start_of}
use Rattle.traces.specs.Machine.{ours}
use Rattle.promises.specs.Reached.{launched}
use Rattle.promises.specs.Runs.{tested, Steps, Iterates}
use Rattle.traces.specs.Duds.{Opened, same, claims, OursMeets, RefusesBreaks, SameBreaks, IdleBreaks, begins, moves, IdleReaches, CoastsBreaks, ClaimsBreaks, OneRun}
use Rattle.traces.proofs.Trace.{trace_cards}
use Rattle.promises.proofs.Refusals.{is_zero, step_table}
use Rattle.promises.proofs.Runs.{run_on, turns_more, turns_fixed, run_iterates, run_fixed}
use Rattle.promises.proofs.Splits.{split_when}
use Rattle.traces.proofs.Examples.{two, after, after_reached, split_opens}

-- ---- ours

opens : Opened ours
opens k l s r z d =
    let e = (split_when k l s (step_of k s).left r (ap (λ (c : ℕ). outcome c (step_of k s).left) z)).1 d in
    omega arith

pub ours_meets : OursMeets
ours_meets = record { cards = trace_cards; table = step_table; iterated = run_iterates; fixed = run_fixed; opened = opens }

-- ---- one run

module _ (k : List ℕ) (n : ℕ) (s : State) (r : Ran) (z : tested k s ≡ 0) (i : Iterates k n s r) where
  whole : r.ends.code ≡ 0 → r ≡ run_of k n s
  whole c =
      ap (λ (a : ℕ). ran r.steps (outcome a r.ends.left)) c ∙ sym (run_fixed k r.steps s r.ends.left z i.taken) ∙ ap (λ (t : ℕ). run_of k t s) (i.whole c)

  early : (r.ends.code ≡ 0 → ⊥) → r ≡ run_of k n s
  early c =
      let t = r.steps in
      let u = r.ends.left in
      let h : steps_of k t 0 s ≡ ran t (outcome 0 u) = turns_fixed k t s u i.taken in
      let e : n ≡ t + suc (n - suc t) = omega (arith, i.early c) in
      sym
      (run_on k n s z ∙ ap (λ (b : ℕ). steps_of k b 0 s) e ∙ turns_more k t (suc (n - suc t)) 0 s (rw h refl)
      ∙ rw h (rw (i.refused c) at (turn_off k (n - suc t) t u (rw (i.refused c) c))))

pub one_run : OneRun
one_run M h k n s z = is_zero (M.run k n s).ends.code (whole k n s (M.run k n s) z (h k n s z)) (early k n s (M.run k n s) z (h k n s z))

-- ---- two steps: FENCE twice

abbrev fences : List ℕ
fences = 0x0000000F ∷ 0x0000000F ∷ []

abbrev begin : State
begin = start_of fences (launch_on 4 0xF)

abbrev left : ℕ → State
left n = (run_of fences n begin).ends.left

begun : tested fences begin ≡ 0
unfolding computes
begun = refl

one_step : Steps fences 1 begin (left 1)
unfolding computes
one_step = (run_iterates fences 1 begin begun).taken

two_steps : Steps fences 2 begin (left 2)
unfolding computes
two_steps = (run_iterates fences 2 begin begun).taken

-- no one state is left by both
apart : (u : State) → u ≡ left 1 → u ≡ left 2 → ⊥
unfolding computes
apart u a b = let e : ◌≡◌ {A = ℕ} 0x80000004 0x80000008 = ap (λ (s : State). s.warp.pc) (sym a ∙ b) in omega arith

same_left : {r t : Ran} → r ≡ t → r.ends.left ≡ t.ends.left
same_left e = ap (λ (r : Ran). r.ends.left) e

-- ---- the duds

pub refuses_breaks : RefusesBreaks
unfolding computes
refuses_breaks n = (
  λ h. let e : suc n ≡ 0 = ap (λ (l : List ℕ). get_or l 0 1) h in omega arith,
  λ h. let e : suc n ≡ 0 = h fences begin in omega arith,
)

pub same_breaks : SameBreaks
same_breaks u h = apart u (same_left (one_run (same u) h fences 1 begin begun)) (same_left (one_run (same u) h fences 2 begin begun))

pub idle_breaks : IdleBreaks
unfolding computes
idle_breaks h = let e = h loop two (after 4) (after_reached 4) refl split_opens.by in omega arith

pub idle_reaches : IdleReaches
idle_reaches k l s (begins v c e) = launched v c e
idle_reaches k l s (moves o e) = rw (ap (λ (x : Outcome). x.left) e) at (idle_reaches k l _ o)

pub coasts_breaks : CoastsBreaks
coasts_breaks n h = apart (left n) (same_left (h fences 1 begin (left 1) begun one_step)) (same_left (h fences 2 begin (left 2) begun two_steps))

pub claims_breaks : ClaimsBreaks
claims_breaks f k n s z d h = d (ap (λ (r : Ran). r.steps) (one_run (claims f) h k n s z))
