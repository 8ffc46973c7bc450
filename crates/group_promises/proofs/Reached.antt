-- Each warp of a reached group is reached, and the group is sound.
use Prim.Native.Nat.{ℕ, ◌<◌}
use mathlib.Core.Path.{◌≡◌, refl, sym, ◌∙◌, ap, subst}
use mathlib.Core.Bool.{true}
use mathlib.Core.List.{List, [], ◌∷◌, map}
use native.Mathlib.Omega.{arith}
use lib.ListN.{length, replicate, length-map, length-replicate}
use Rattle.answer.proofs.Rows.{both}
use Rattle.memory.specs.Memories.{Contents}
use Rattle.warp.specs.declared.Fixed.{Fixed}
use Rattle.warp.specs.declared.Launch.{Launch}
use Rattle.warp.specs.declared.Warp.{Warp}
use Rattle.warp.specs.Warp.{zero_warp, zero_fixed, zero_launch}
use Rattle.warp.specs.WellFormed.{launch_ok_of}
use Rattle.definition.specs.Calls.{launched_of}
use Rattle.definition.proofs.Calls.{launch_done}
use Rattle.promises.specs.Reached as single
use Rattle.promises.specs.Reached.{Reached, Sound}
use Rattle.promises.proofs.Reached.{reached_sound}
use Rattle.group.specs.Group.{Group, group, count_of, fixeds_of, file_start, file_at, state_at, some_runs}
use Rattle.lanes.specs.Lanes.{all_below}
use Rattle.lanes.proofs.Laws.{below_at}
use Rattle.group.specs.GroupRefuse.{sizes_ok_of, placed_of}
use Rattle.group.specs.GroupCalls.{GroupOutcome, group_launch_of}
use Rattle.group.proofs.GroupLaws.{get_d_map_in, file_zeros, some_runs_lem}
use Rattle.group.proofs.GroupFacts.{GroupSizes, group_sizes, fit_sizes, fit_formed, goes_on}
use Rattle.group_promises.specs.Reached.{GroupReached, launched, goes, launch_at, WarpReached, GroupReachedSound}
use Rattle.group_promises.proofs.Refusals.{group_launch_refusals}
use Rattle.group_promises.proofs.Goes.{Fits, warp_fit, Onward, onward, onward_fits, hop_reached}

-- the group, with each warp reached
record Sure (k : List ℕ) (ls : List Launch) (m : Group) : Type 0 where
  fits : Fits k m
  fixed : fixeds_of m ≡ map (λ (l : Launch). l.fixed) ls
  count : count_of m ≡ length ls
  reached : (i : ℕ) → i < count_of m → Reached k (launch_at i ls) (state_at i m)

-- ---- the launch

launched_fixeds : (ls : List Launch) → map (λ (w : Warp). w.fixed) (map launched_of ls) ≡ map (λ (l : Launch). l.fixed) ls
launched_fixeds [] = refl
launched_fixeds (l ∷ ls) = rw (launched_fixeds ls)

module _ (k : List ℕ) (ls : List Launch) (v : List ℕ) (c : Contents) (z : (group_launch_of k ls v c).code ≡ 0) where
  abbrev fixeds : List Fixed
  fixeds = map (λ (l : Launch). l.fixed) ls

  abbrev first : Group
  first = group 0 (map launched_of ls) (replicate (file_start (length ls)) 0) c

  record Launches : Type 0 where
    sizes : GroupSizes k fixeds v c
    range : (i : ℕ) → i < length ls → launch_ok_of (launch_at i ls) ≡ true
    placed : placed_of fixeds ≡ true

  launches : Launches
  launches =
      let p = both (sizes_ok_of k fixeds v c) _ ((group_launch_refusals k ls v c).row0.0 z) in
      let q = both (all_below (length ls) (λ i. launch_ok_of (launch_at i ls))) (placed_of fixeds) p.1 in
      record { sizes = group_sizes k fixeds v c p.0; range = below_at (length ls) (λ i. launch_ok_of (launch_at i ls)) q.0; placed = q.1 }

  count_fixeds : length fixeds ≡ length ls
  count_fixeds = length-map ls (λ (l : Launch). l.fixed)

  count_first : count_of first ≡ length ls
  count_first = length-map ls launched_of

  -- warp i is what its own launch leaves
  launch_reached : (i : ℕ) → i < length ls → Reached k (launch_at i ls) (state_at i first)
  launch_reached i h =
      let b = rw (get_d_map_in (λ (l : Launch). l.fixed) ls i zero_launch zero_fixed h) at (launches.sizes.own i (omega (arith, count_fixeds))) in
      rw (get_d_map_in launched_of ls i zero_launch zero_warp h, file_zeros (length ls) i h)
      (single.launched (file_at i v) c (launch_done k (launch_at i ls) (file_at i v) c b (launches.range i h)))

  launch_sound : (i : ℕ) → i < count_of first → Sound k (launch_at i ls) (state_at i first)
  launch_sound i h = reached_sound k (launch_at i ls) (state_at i first) (launch_reached i (omega (arith, count_first)))

  launch_runs : 0 < length ls → some_runs (map launched_of ls) ≡ true
  launch_runs h = some_runs_lem (map launched_of ls) 0 (omega (arith, count_first)) (rw (get_d_map_in launched_of ls 0 zero_launch zero_warp h))

  launch_sure : Sure k ls first
  launch_sure =
      let p = launches in
      record {
        fits =
            record {
              fit =
                  record {
                    some = omega (arith, count_first, count_fixeds, p.sizes.some);
                    most = omega (arith, count_first, count_fixeds, p.sizes.most);
                    files = length-replicate (file_start (length ls)) 0 ∙ ap file_start (sym count_first);
                    sizes = λ i h. (launch_sound i h).runs;
                    each = λ i h. (launch_sound i h).formed;
                    placed = rw (launched_fixeds ls) p.placed;
                    goes = goes_on first (omega (arith, count_first, count_fixeds, p.sizes.some)) (launch_runs (omega (arith, count_fixeds, p.sizes.some)));
                  };
              splits = λ i h. (launch_sound i h).splits;
            };
        fixed = launched_fixeds ls;
        count = count_first;
        reached = λ i h. launch_reached i (omega (arith, count_first));
      }

-- ---- and on

sure : (k : List ℕ) (ls : List Launch) (m : Group) → GroupReached k ls m → Sure k ls m
sure k ls m (launched v c q) =
    let z : (group_launch_of k ls v c).code ≡ 0 = ap (λ (o : GroupOutcome). o.code) q in
    subst (Sure k ls) (ap (λ (o : GroupOutcome). o.left) (sym ((group_launch_refusals k ls v c).gives z) ∙ q)) (launch_sure k ls v c z)
sure k ls m (goes {m = b} r e) =
    let s : Sure k ls b = sure k ls b r in
    let o : Onward k b m = onward k b m s.fits.fit e in
    record {
      fits = onward_fits k b m s.fits o;
      fixed = o.fixeds ∙ s.fixed;
      count = o.count ∙ s.count;
      reached = λ i h. let l : i < count_of b = omega (arith, o.count) in hop_reached k (launch_at i ls) (state_at i b) (state_at i m) (warp_fit k b s.fits i l) (s.reached i l) (o.hops i l);
    }

-- ---- promises

pub warp_reached : WarpReached
warp_reached k ls m i r h = (sure k ls m r).reached i h

pub group_reached_fits : (k : List ℕ) (ls : List Launch) (m : Group) → GroupReached k ls m → Fits k m
group_reached_fits k ls m r = (sure k ls m r).fits

pub group_reached_sound : GroupReachedSound
group_reached_sound k ls m r =
    let s : Sure k ls m = sure k ls m r in
    record { sizes = fit_sizes k m s.fits.fit; formed = fit_formed k m s.fits.fit; count = s.count; fixed = s.fixed; splits = s.fits.splits }
