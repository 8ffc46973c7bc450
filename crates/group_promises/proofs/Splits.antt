-- Demand 3 for a group, the splits: each of its warps goes on as a single warp does (Goes.antt).
use Prim.Native.Nat.{ℕ, ◌≤◌, ◌<◌}
use mathlib.Core.Path.{◌≡◌, refl, sym, ◌∙◌, ap}
use mathlib.Core.List.{List}
use native.Mathlib.Omega.{arith}
use Rattle.warp.specs.declared.Warp.{Warp}
use Rattle.warp.specs.Warp.{Answered}
use Rattle.definition.specs.State.{State, state, outcome}
use Rattle.definition.specs.Step.{step_of}
use Rattle.promises.specs.Reached as single
use Rattle.promises.specs.Splits.{Above, here, on}
use Rattle.promises.proofs.Refusals.{release_refusals}
use Rattle.promises.proofs.Reached.{Fit, goes_fit}
use Rattle.promises.proofs.Splits.{covered, fewer, split_cuts, restored}
use Rattle.group.specs.Group.{Group, count_of, warp_at, state_at}
use Rattle.group_promises.specs.Steps.{Kept, same, released}
use Rattle.group_promises.specs.Reached.{steps, launch_at}
use Rattle.group_promises.specs.Splits as over
use Rattle.group_promises.specs.Splits.{GroupAbove, GroupCovered, GroupFewer, GroupSplitCuts, GroupRestored}
use Rattle.group_promises.proofs.Goes.{Hop, hop, kept_on, Onward, onward, Fits, warp_fit, onward_fits}
use Rattle.group_promises.proofs.Reached.{warp_reached, group_reached_fits}

pub group_covered : GroupCovered
group_covered k ls m i r h = covered k (launch_at i ls) (state_at i m) (warp_reached k ls m i r h)

pub group_fewer : GroupFewer
group_fewer k ls m i r h = fewer k (launch_at i ls) (state_at i m) (warp_reached k ls m i r h)

pub group_split_cuts : GroupSplitCuts
group_split_cuts k ls m i t r h = split_cuts k (launch_at i ls) (state_at i m) t (warp_reached k ls m i r h)

-- ---- the mask comes back

-- a release changes neither the count of open splits nor the mask
kept_splits : (w u : Warp) → Kept w u → (u.depth ≡ w.depth) × (u.mask ≡ w.mask)
kept_splits w u (same e) = rw e (refl, refl)
kept_splits w u (released b e) = rw e (refl, refl)

above_end : (k : List ℕ) (d : ℕ) (s t : State) → Above k d s t → d < t.warp.depth
above_end k d s t (here a) = a
above_end k d s t (on p g a) = a

module _ (k : List ℕ) (d : ℕ) (s : State) where
  above_kept : (t : State) (u : Warp) → Fit k t → Kept t.warp u → Above k d s t → Above k d s (state u t.vector t.bytes)
  above_kept t u f x p = kept_on k (Above k d s) (λ m g a. on a g (above_end k d s m a)) t u f x p

  above_hop : (t u : State) → Fit k t → Hop k t u → Above k d s t → d < u.warp.depth → Above k d s u
  above_hop t u f (hop {t = v} {u = w} g x) p a = above_kept v w (goes_fit k t v f g) x (on p g (omega (arith, (kept_splits v.warp w x).0)))

  -- warp i of the group m, up to which more than d of its splits stay open
  record Up (i : ℕ) (m : Group) : Type 0 where
    above : Above k d s (state_at i m)
    fits : Fits k m
    below : i < count_of m

  climb : (i : ℕ) (m n : Group) → GroupAbove k i d m n → Up i m → Up i n
  climb i m n (over.here a) u = u
  climb i m n (over.on {n = b} p g a) u =
      let v : Up i b = climb i m b p u in
      let o : Onward k b n = onward k b n v.fits.fit g in
      record {
        above = above_hop (state_at i b) (state_at i n) (warp_fit k b v.fits i v.below) (o.hops i v.below) v.above a;
        fits = onward_fits k b n v.fits o;
        below = omega (arith, o.count, v.below);
      }

-- a hop over which a split opens begins with a step of the warp's own
record Opened (k : List ℕ) (s t : State) : Type 0 where
  via : State
  taken : step_of k s ≡ outcome 0 via
  rises : s.warp.depth < via.warp.depth
  above : Above k s.warp.depth via t

opening : (k : List ℕ) (s t : State) → Fit k s → Hop k s t → s.warp.depth < t.warp.depth → Opened k s t
opening k s t f (hop {t = v} {u = w} (single.steps q) x) d =
    let r : s.warp.depth < v.warp.depth = omega (arith, (kept_splits v.warp w x).0) in
    record { via = v; taken = q; rises = r; above = above_kept k s.warp.depth v v w (goes_fit k s v f (single.steps q)) x (here r) }
opening k s t f (hop {u = w} (single.releases {w = y} q) x) d =
    let z = ap (λ (a : Answered). a.code) q in
    let e : y.depth ≡ s.warp.depth = ap (λ (a : Answered). a.warp.depth) (sym q ∙ (release_refusals s.warp).gives z) in
    absurd (omega (arith, e, (kept_splits y w x).0))
opening k s t f (hop {u = w} (single.changes a b) x) d = absurd (omega (arith, (kept_splits s.warp w x).0))

pub group_restored : GroupRestored
group_restored k ls m a b n i r h q d p g f = fall (state_at i n) ((onward k b n up.fits.fit g).hops i up.below) f
  where
    fits : Fits k m
    fits = group_reached_fits k ls m r

    first : Onward k m a
    first = onward k m a fits.fit (steps q)

    opens : Opened k (state_at i m) (state_at i a)
    opens = opening k (state_at i m) (state_at i a) (warp_fit k m fits i h) (first.hops i h) d

    up : Up k (warp_at i m).depth opens.via i b
    up = climb k (warp_at i m).depth opens.via i a b p (record { above = opens.above; fits = onward_fits k m a fits first; below = omega (arith, first.count, h) })

    fall : (t : State) → Hop k (state_at i b) t → t.warp.depth ≤ (warp_at i m).depth → (t.warp.depth ≡ (warp_at i m).depth) × (t.warp.mask ≡ (warp_at i m).mask)
    fall t (hop {t = v} {u = w} e x) c =
        let s = kept_splits v.warp w x in
        let z = restored k (launch_at i ls) (state_at i m) opens.via (state_at i b) v (warp_reached k ls m i r h) opens.taken opens.rises up.above e (omega (arith, s.0)) in
        (s.0 ∙ z.0, s.1 ∙ z.1)
