-- A group of one warp steps as a single warp does.
use Prim.Native.Nat.{ℕ, ◌<◌}
use mathlib.Core.Path.{◌≡◌, refl, ◌∙◌, ap, subst}
use mathlib.Core.Bool.{true}
use mathlib.Core.List.{List, [], ◌∷◌, append-nil}
use native.Mathlib.Omega.{arith}
use lib.ListN.{length, drop_of_length-le}
use lib.Seq.{take_all}
use Rattle.lanes.specs.Lanes.{file_words}
use Rattle.memory.specs.Memories.{Contents}
use Rattle.warp.specs.declared.Warp.{Warp}
use Rattle.warp.specs.WellFormed.{well_formed_of}
use Rattle.definition.specs.State.{State, state, Outcome, outcome}
use Rattle.definition.specs.Refuse.{runs_ok_of}
use Rattle.definition.specs.Step.{step_of}
use Rattle.definition.proofs.Sizes.{sizes}
use Rattle.group.specs.Group.{Group, group, warp_at, file_at, with_file_at, state_at, runs, some_runs, all_ended, freed, settled, gone_on, pick_of}
use Rattle.group.specs.GroupRefuse.{fixed_at}
use Rattle.group.specs.GroupCalls.{group_outcome, group_step_of}
use Rattle.group.proofs.GroupLaws.{by_test, refute, some_runs_lem, Running, who_runs, runs_is, runs_if, ended_at_lem, freed_runs, settled_on, settled_off, gone_on_lem}
use Rattle.group.specs.Places.{InPlace}
use Rattle.group.proofs.GroupFacts.{GroupFit, fit_sizes, fit_formed, fit_place, all_placed, going, goes_on}
use Rattle.group.proofs.GroupCases.{Ready, by_group_step}
use Rattle.promises.proofs.Refusals.{step_refusals}
use Rattle.group_promises.specs.Runs.{group_tested}
use Rattle.group_promises.specs.OneWarp.{LoneFits, OneWarpGroup, OneWarpTests}
use Rattle.group_promises.proofs.Steps.{ready_picked}
use Rattle.group_promises.proofs.Runs.{tested_fit}

-- a single warp in its row, settled
settled_one : (w : Warp) → settled (w ∷ []) ≡ freed w ∷ []
unfolding some_runs
settled_one w =
    by_test (runs w) (λ e. settled_on (w ∷ []) (rw e) ∙ rw (freed_runs w (runs_is w e).1)) (λ e. settled_off (w ∷ []) (rw e))

module _ (k : List ℕ) (t : ℕ) (w : Warp) (v : List ℕ) (c : Contents) (z : group_tested k (group t (w ∷ []) v c) ≡ 0) where
  abbrev lone : Group
  lone = group t (w ∷ []) v c

  fit : GroupFit k lone
  fit = tested_fit k lone z

  -- its vector file is all there is
  whole : file_at 0 v ≡ v
  whole = take_all file_words v (omega (arith, fit.files))

  put_whole : (f : List ℕ) → with_file_at 0 f v ≡ f
  put_whole f = rw (drop_of_length-le v {i = file_words} (omega (arith, fit.files))) (append-nil f)

  picked_zero : Ready k lone → pick_of lone ≡ 0
  picked_zero r = let b = (ready_picked k lone r).below in omega arith

  own_state : Ready k lone → state_at (pick_of lone) lone ≡ state w v c
  own_state r = rw (picked_zero r, whole)

  gone_zero : (s : State) → gone_on 0 s lone ≡ group 0 (freed s.warp ∷ []) s.vector s.bytes
  gone_zero s = gone_on_lem 0 s lone ∙ rw (settled_one s.warp, put_whole s.vector)

  ended_three : all_ended (w ∷ []) ≡ true → (step_of k (state w v c)).code ≡ 3
  ended_three e =
      let a = fit.sizes 0 (omega arith) in
      (step_refusals k (state w v c)).row3.1 (rw (rw whole at a, fit.each 0 (omega arith)), ended_at_lem (w ∷ []) e 0 (omega arith))

  lone_taken : (s : State) → step_of k (state w v c) ≡ outcome 0 s → group_step_of k lone ≡ group_outcome 0 0 (group 0 (freed s.warp ∷ []) s.vector s.bytes)
  lone_taken s e =
      let o : (step_of k (state w v c)).code ≡ 0 = ap (λ (o : Outcome). o.code) e in
      by_group_step k lone (λ o. o ≡ group_outcome 0 0 (group 0 (freed s.warp ∷ []) s.vector s.bytes)) (λ a. refute (fit_sizes k lone fit) a)
      (λ a b. refute (fit_formed k lone fit) b) (λ a b d. absurd (omega (arith, ended_three d)))
      (λ r y. rw (own_state r, e, picked_zero r) (ap (group_outcome 0 0) (gone_zero s)))
      (λ r y. absurd (y (rw (own_state r) o)))

  lone_refused : ((step_of k (state w v c)).code ≡ 0 → ⊥) → group_step_of k lone ≡ group_outcome (step_of k (state w v c)).code 0 lone
  lone_refused n =
      by_group_step k lone (λ o. o ≡ group_outcome (step_of k (state w v c)).code 0 lone) (λ a. refute (fit_sizes k lone fit) a)
      (λ a b. refute (fit_formed k lone fit) b) (λ a b d. rw (ended_three d))
      (λ r y. absurd (n (rw (own_state r) at y)))
      (λ r y. rw (own_state r, picked_zero r))

pub one_warp_group : OneWarpGroup
one_warp_group k t w v c z = record { taken = lone_taken k t w v c z; refused = lone_refused k t w v c z }

-- ---- when it passes 1 and 2

module _ (k : List ℕ) (t : ℕ) (w : Warp) (v : List ℕ) (c : Contents) where
  lone_asks : group_tested k (group t (w ∷ []) v c) ≡ 0 → LoneFits k t w v c
  unfolding all_ended
  lone_asks z =
      let m : Group = group t (w ∷ []) v c in
      let f : GroupFit k m = tested_fit k m z in
      let p = fit_place k m f 0 (omega arith) in
      record {
        sizes = rw (whole k t w v c z) at (f.sizes 0 (omega arith));
        formed = f.each 0 (omega arith);
        wid = p.wid;
        numw = p.numw;
        goes = λ e. let g = going m f.goes (rw e) in
            let r : Running (w ∷ []) = who_runs (w ∷ []) g.1 in
            let y : r.which ≡ 0 = omega (arith, r.below) in
            (omega (arith, g.0), (runs_is w (rw y at r.running)).1);
      }

  -- it is the only one
  only : (P : ℕ → Type 0) → P 0 → (i : ℕ) → i < 1 → P i
  only P p i h = let e : 0 ≡ i = omega arith in subst P e p

  lone_passes : LoneFits k t w v c → group_tested k (group t (w ∷ []) v c) ≡ 0
  unfolding all_ended
  lone_passes l =
      let m : Group = group t (w ∷ []) v c in
      let n : length v ≡ file_words = (sizes w.fixed k v c l.sizes).file_is in
      let f : file_at 0 v ≡ v = take_all file_words v (omega arith) in
      let g : GroupFit k m = record {
        some = omega arith;
        most = omega arith;
        files = n;
        sizes = only (λ i. runs_ok_of (warp_at i m).fixed k (file_at i v) c ≡ true) (rw f l.sizes);
        each = only (λ i. well_formed_of (warp_at i m) ≡ true) l.formed;
        placed = all_placed (w.fixed ∷ []) (only (λ i. InPlace 1 w.fixed i (fixed_at (w.fixed ∷ []) i))
            (record { wid = l.wid; numw = l.numw; numt = refl; codeBase = refl; dataBase = refl; lds = refl }));
        goes = by_test w.ended (λ e. rw e) (λ e. let q = l.goes e in goes_on m (omega (arith, q.0)) (some_runs_lem (w ∷ []) 0 (omega arith) (runs_if w e q.1)));
      } in
      rw (fit_sizes k m g, fit_formed k m g)

pub one_warp_tests : OneWarpTests
one_warp_tests k t w v c = (lone_asks k t w v c, lone_passes k t w v c)
