-- The barrier: the step after which no warp runs releases all that wait, and no other step releases one.
use Prim.Native.Nat.{ℕ, ◌<◌}
use mathlib.Core.Path.{◌≡◌, ◌∙◌, ap}
use mathlib.Core.Bool.{true, false, cond}
use mathlib.Core.List.{List}
use native.Mathlib.Omega.{arith}
use lib.ListN.{length, get_or, set, length-set}
use lib.Seq.{get_or-set_same, get_or-set_other}
use Rattle.warp.specs.declared.Warp.{Warp}
use Rattle.warp.specs.Warp.{zero_warp}
use Rattle.group.specs.Group.{Group, count_of, warp_at, runs, some_runs, pick_of, freed, gone_on}
use Rattle.group.proofs.GroupLaws.{by_test, by_equal, refute, none_runs, all_stopped, runs_is, freed_runs, freed_waits, freed_goes, gone_on_lem}
use Rattle.group.proofs.GroupFacts.{waits_lasts}
use Rattle.group.proofs.GroupCases.{Taken, group_taken}
use Rattle.group_promises.specs.Barrier.{NoneRuns, Barrier, BarrierReleases}
use Rattle.group_promises.proofs.Steps.{picked_one, ready_fit, ready_picked, settled_own, settled_other}

module _ (m : Group) (i : ℕ) (w : Warp) (h : i < count_of m) where
  -- the warps before a release
  abbrev row : List Warp
  row = set m.warps i w

  none_stops : NoneRuns m i w → some_runs row ≡ false
  none_stops n = all_stopped row at
    where
      at : (j : ℕ) → j < length row → runs (get_or row j zero_warp) ≡ false
      at j l =
          by_equal j i (λ e. rw (e, get_or-set_same m.warps i w zero_warp h) n.own)
          (λ o. rw (get_or-set_other m.warps i j w zero_warp o) (n.others j (omega (arith, length-set m.warps i w)) o))

  stops_none : some_runs row ≡ false → NoneRuns m i w
  stops_none e =
      let b : length row ≡ count_of m = length-set m.warps i w in
      record {
        own = rw (get_or-set_same m.warps i w zero_warp h) at (none_runs row e i (omega arith));
        others = λ j l o. rw (get_or-set_other m.warps i j w zero_warp o) at (none_runs row e j (omega arith));
      }

-- released, a warp that hasn't ended runs
freed_lasts : (w : Warp) → w.ended ≡ false → runs (freed w) ≡ true
freed_lasts w e = freed_goes w (by_test w.waiting (λ b. rw (freed_waits w b)) (λ b. rw (freed_runs w b) e))

-- the group n has the settled row
module _ (m n : Group) (i : ℕ) (w : Warp) (h : i < count_of m) (own : warp_at i n ≡ cond (some_runs (row m i w h)) w (freed w))
    (others : (j : ℕ) → j < count_of m → (j ≡ i → ⊥) → warp_at j n ≡ cond (some_runs (row m i w h)) (warp_at j m) (freed (warp_at j m)))
    (each : (j : ℕ) → j < count_of m → (warp_at j m).waiting ≡ true → (warp_at j m).ended ≡ false) where
  barrier : Barrier m i w n
  barrier =
      record {
        when = λ j l o b. (
          λ r. by_test (some_runs (row m i w h)) (λ e. refute b (runs_is (warp_at j m) (rw (others j l o, e) at r)).1) (λ e. stops_none m i w h e),
          λ z. rw (others j l o, none_stops m i w h z, freed_waits (warp_at j m) b),
        );
        all = λ z j l o e. rw (others j l o, none_stops m i w h z) (freed_lasts (warp_at j m) e);
        own = λ z e. rw (own, none_stops m i w h z) (freed_lasts w e);
        none = λ z. let e : some_runs (row m i w h) ≡ true = by_test (some_runs (row m i w h)) (λ e. e) (λ e. absurd (z (stops_none m i w h e))) in
            (rw (own, e), λ j l o. rw (others j l o, e));
        ended = λ j l o e. let b : (warp_at j m).waiting ≡ false = by_test (warp_at j m).waiting (λ t. refute e (each j l t)) (λ t. t) in
            others j l o ∙ by_test (some_runs (row m i w h)) (λ t. rw t) (λ t. rw t (freed_runs (warp_at j m) b));
      }

pub barrier_releases : BarrierReleases
barrier_releases k m n i s e p q =
    let t : Taken k m n = group_taken k m n e in
    let f = ready_fit k m t.ready in
    let z : i ≡ pick_of m = picked_one m i (pick_of m) p (ready_picked k m t.ready) in
    let y : n ≡ gone_on i s m = t.left ∙ rw (← z, q) in
    let x = y ∙ gone_on_lem i s m in
    barrier m n i s.warp p.below (ap (λ (g : Group). warp_at i g) x ∙ settled_own m.warps i s.warp p.below)
    (λ j l o. ap (λ (g : Group). warp_at j g) x ∙ settled_other m.warps i s.warp j l o) (λ j l b. waits_lasts (warp_at j m) (f.each j l) b)
