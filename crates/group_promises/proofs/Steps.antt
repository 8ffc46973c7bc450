-- Which warp takes a group's step, and what the step leaves.
use Prim.Native.Nat.{ℕ, ◌+◌, ◌≤◌, ◌<◌}
use mathlib.Core.Path.{◌≡◌, refl, sym, ◌∙◌, ap}
use mathlib.Core.Bool.{Bool, true, false, not, cond}
use mathlib.Core.List.{List, [], ◌∷◌}
use native.Mathlib.Omega.{arith}
use lib.Dec.{ltb}
use lib.ListN.{length, get_or, set, length-set}
use lib.Seq.{get_or-set_same, get_or-set_other}
use borrow.Author.Tests.{ltb-true, ltb-false}
use Rattle.answer.specs.Rows.{◌⇒◌, first}
use Rattle.lanes.specs.Lanes.{file_words}
use Rattle.warp.specs.declared.Warp.{Warp}
use Rattle.warp.specs.Warp.{zero_warp}
use Rattle.definition.specs.State.{State, Outcome, outcome}
use Rattle.definition.specs.Step.{step_of}
use Rattle.definition.proofs.Used.{step_within}
use Rattle.group.specs.Group.{Group, count_of, warp_at, fixeds_of, file_start, state_at, runs, some_runs, all_ended, pick_of, freed, settled, gone_on}
use Rattle.group.specs.GroupRefuse.{sizes_ok_of, formed_of, group_step_tests}
use Rattle.group.proofs.GroupLaws.{by_test, refute, file_inside, length_file, file_put, file_other, length_put, Pick, picked, freed_waits, freed_runs, length_settled, settled_at, gone_on_lem}
use Rattle.group.proofs.GroupFacts.{GroupFit, group_fit, going}
use Rattle.group.proofs.GroupCases.{Ready, picked_step, Taken, group_taken}
use Rattle.group_promises.specs.Steps.{place_after, Picked, Kept, same, released, Leads, OnePicked, GroupStepIs}

-- ---- who is picked

pub pick_picked : (m : Group) → Pick m → Picked m (pick_of m)
pick_picked m p = record { far = p.far; short = p.short; is = p.is; below = p.below; running = p.running; skipped = p.first.skipped }

-- it is no farther from the turn than any other that runs
pub nearest : (m : Group) (i : ℕ) (a : Picked m i) (d : ℕ) → runs (warp_at (place_after d m) m) ≡ true → a.far ≤ d
nearest m i a d e = by_test (ltb d a.far) (λ t. refute e (a.skipped d (ltb-true _ _ t))) (λ t. ltb-false _ _ t)

pub picked_one : (m : Group) (i j : ℕ) → Picked m i → Picked m j → i ≡ j
picked_one m i j a b =
    let e : a.far ≡ b.far = omega (arith, nearest m i a b.far (rw b.is at b.running), nearest m j b a.far (rw a.is at a.running)) in
    a.is ∙ ap (λ (d : ℕ). place_after d m) e ∙ sym b.is

module _ (k : List ℕ) (m : Group) (r : Ready k m) where
  pub ready_fit : GroupFit k m
  ready_fit = group_fit k m r.sizes r.formed

  pub ready_pick : Pick m
  ready_pick = let g = going m ready_fit.goes r.going in picked m g.0 g.1

  pub ready_picked : Picked m (pick_of m)
  ready_picked = pick_picked m ready_pick

-- where none of the three tests holds
open_tests : (a b c : Bool) → first (1 ⇒ not a ∷ 2 ⇒ not b ∷ 3 ⇒ c ∷ []) ≡ 0 → (a ≡ true) × ((b ≡ true) × (c ≡ false))
open_tests false b c e = absurd (omega arith)
open_tests true false c e = absurd (omega arith)
open_tests true true true e = absurd (omega arith)
open_tests true true false e = (refl, (refl, refl))

pub tests_ready : (k : List ℕ) (m : Group) → first (group_step_tests k m) ≡ 0 → Ready k m
tests_ready k m e =
    let p = open_tests (sizes_ok_of k (fixeds_of m) m.vector m.bytes) (formed_of m) (all_ended m.warps) e in
    record { sizes = p.0; formed = p.1.0; going = p.1.1 }

pub one_picked : OnePicked
one_picked k m e = let p = ready_picked k m (tests_ready k m e) in (p, λ i q. picked_one m i (pick_of m) q p)

-- ---- what the step leaves

kept_settled : (b : Bool) (w : Warp) → Kept w (cond b w (freed w))
kept_settled true w = same refl
kept_settled false w = by_test w.waiting (λ e. released e (freed_waits w e)) (λ e. same (freed_runs w e))

-- warp j of the row in which warp i is w, settled
pub settled_own : (ws : List Warp) (i : ℕ) (w : Warp) → i < length ws → get_or (settled (set ws i w)) i zero_warp ≡ cond (some_runs (set ws i w)) w (freed w)
settled_own ws i w h = settled_at (set ws i w) i (omega (arith, length-set ws i w)) ∙ rw (get_or-set_same ws i w zero_warp h)

pub settled_other : (ws : List Warp) (i : ℕ) (w : Warp) (j : ℕ) → j < length ws → (j ≡ i → ⊥)
    → get_or (settled (set ws i w)) j zero_warp ≡ cond (some_runs (set ws i w)) (get_or ws j zero_warp) (freed (get_or ws j zero_warp))
settled_other ws i w j h o = settled_at (set ws i w) j (omega (arith, length-set ws i w)) ∙ rw (get_or-set_other ws i j w zero_warp o)

module _ (k : List ℕ) (m : Group) (g : GroupFit k m) (i : ℕ) (h : i < count_of m) (s : State) (e : step_of k (state_at i m) ≡ outcome 0 s) where
  inside : file_start i + file_words ≤ length m.vector
  inside = file_inside (count_of m) i m.vector g.files h

  pub own_words : length s.vector ≡ file_words
  own_words = ap (λ (o : Outcome). length o.left.vector) (sym e) ∙ (step_within k (state_at i m)).words ∙ length_file i m.vector inside

  pub leads : Leads k m i (gone_on i s m)
  leads =
      rw (gone_on_lem i s m)
      (record {
        after = s;
        taken = e;
        turn = refl;
        count = length_settled (set m.warps i s.warp) ∙ length-set m.warps i s.warp;
        own = rw (settled_own m.warps i s.warp h) (kept_settled (some_runs (set m.warps i s.warp)) s.warp);
        others = λ j l o. rw (settled_other m.warps i s.warp j l o) (kept_settled (some_runs (set m.warps i s.warp)) (warp_at j m));
        file = file_put i m.vector inside s.vector own_words;
        files = λ j o. file_other i m.vector inside s.vector own_words j o;
        words = length_put i m.vector inside s.vector own_words;
        bytes = refl;
      })

pub own_taken : (k : List ℕ) (m n : Group) → Taken k m n → step_of k (state_at (pick_of m) m) ≡ outcome 0 (picked_step k m).left
own_taken k m n t = ap (λ (c : ℕ). outcome c (picked_step k m).left) t.own

pub group_step_is : GroupStepIs
group_step_is k m n e =
    let t : Taken k m n = group_taken k m n e in
    record {
      which = pick_of m;
      picked = ready_picked k m t.ready;
      leads = rw t.left (leads k m (ready_fit k m t.ready) (pick_of m) (ready_pick k m t.ready).below (picked_step k m).left (own_taken k m n t));
    }
