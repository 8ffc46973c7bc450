-- Every warp that can run gets its step.
use Prim.Native.Nat.{ℕ, zero, suc, ◌+◌, ◌-◌, ◌<◌}
use mathlib.Core.Path.{◌≡◌, refl, sym, ◌∙◌, ap}
use mathlib.Core.Bool.{true, false}
use mathlib.Core.List.{List}
use mathlib.Core.Logic.{◌⊎◌, inl, inr}
use native.Mathlib.Omega.{arith}
use Rattle.warp.specs.declared.Warp.{Warp}
use Rattle.promises.proofs.Refusals.{is_zero}
use Rattle.group.specs.Group.{Group, count_of, warp_at, runs, all_ended}
use Rattle.group.specs.GroupCalls.{group_outcome, group_step_of}
use Rattle.group.proofs.GroupLaws.{by_equal, refute, runs_is, not_ended, Within, within, after_pass}
use Rattle.group.proofs.GroupFacts.{going}
use Rattle.group_promises.specs.Steps.{place_after, Picked, Kept, same, released, Stepped}
use Rattle.group_promises.specs.Reached.{steps}
use Rattle.group_promises.specs.Runs.{GroupSteps, start, more}
use Rattle.group_promises.specs.Fair.{Turns, Stops, Fair}
use Rattle.group_promises.proofs.Steps.{nearest, group_step_is}
use Rattle.group_promises.proofs.Refusals.{group_refusals}
use Rattle.group_promises.proofs.Goes.{Fits, goes_fits}
use Rattle.group_promises.proofs.Runs.{answered, tested_fit, unrefused}

-- warp i had no step yet: it still runs, so near the turn that it comes within the steps that are left
record Still (m : Group) (t i : ℕ) (u : Group) : Type 0 where
  count : count_of u ≡ count_of m
  running : runs (warp_at i u) ≡ true
  far : ℕ
  there : place_after far u ≡ i
  short : far + t < count_of m

data Or (A B : Type 0) : Type 0 where
  had : A → Or A B
  not_yet : B → Or A B

past_three : (c : ℕ) → (c ≡ 0 → ⊥) → (c ≡ 1 → ⊥) → (c ≡ 2 → ⊥) → (c ≡ 3 → ⊥) → 3 < c
past_three c a b d e = omega arith

-- a warp that runs is kept
kept_runs : (w u : Warp) → runs w ≡ true → Kept w u → u ≡ w
kept_runs w u r (same e) = e
kept_runs w u r (released b e) = refute b (runs_is w r).1

module _ (k : List ℕ) (m : Group) (i : ℕ) (h : i < count_of m) where
  -- a step from u to x
  onward : (t : ℕ) (u x : Group) → GroupSteps k t m u → Still m t i u → group_step_of k u ≡ group_outcome 0 0 x → Stepped k u x → Or (Turns k m (t + 1) i) (Still m (t + 1) i x)
  onward t u x p s q g = by_equal g.which i mine other
    where
      mine : g.which ≡ i → Or (Turns k m (t + 1) i) (Still m (t + 1) i x)
      mine e = had (record { before = t; within = omega arith; at = u; taken = p; picked = rw e at g.picked; left = x; step = q })

      other : (g.which ≡ i → ⊥) → Or (Turns k m (t + 1) i) (Still m (t + 1) i x)
      other o =
          let a : Picked u g.which = g.picked in
          let l = nearest u g.which a s.far (rw s.there s.running) in
          let d : a.far ≡ s.far → ⊥ = λ e. o (a.is ∙ ap (λ (c : ℕ). place_after c u) e ∙ s.there) in
          not_yet
          (record {
            count = g.leads.count ∙ s.count;
            running = rw (kept_runs (warp_at i u) (warp_at i x) s.running (g.leads.others i (omega (arith, s.count)) (λ (e : i ≡ g.which). o (sym e)))) s.running;
            far = s.far - a.far - 1;
            there = rw (g.leads.turn, g.leads.count, a.is) (after_pass (count_of u) u.turn a.far s.far (omega arith) ∙ s.there);
            short = omega arith;
          })

  -- n steps are left, and warp i had none yet
  from : (n t : ℕ) (u : Group) → t + n ≡ count_of m → GroupSteps k t m u → Fits k u → Still m t i u → Turns k m (count_of m) i ⊎ Stops k m (count_of m)
  from zero t u e p f s = absurd (omega (arith, s.short, e))
  from (suc n) t u e p f s =
      is_zero (group_step_of k u).code
      (λ z. let x : Group = (group_step_of k u).left in
      let q : group_step_of k u ≡ group_outcome 0 0 x = answered k u z in
      go x (onward t u x p s q (group_step_is k u x q)) (λ y. from n (t + 1) x (omega (arith, e)) (more p q) (goes_fits k u x f (steps q)) y))
      refused
    where
      go : (x : Group) → Or (Turns k m (t + 1) i) (Still m (t + 1) i x) → (Still m (t + 1) i x → Turns k m (count_of m) i ⊎ Stops k m (count_of m)) → Turns k m (count_of m) i ⊎ Stops k m (count_of m)
      go x (had a) on = inl (record { before = a.before; within = omega (arith, a.within, e); at = a.at; taken = a.taken; picked = a.picked; left = a.left; step = a.step })
      go x (not_yet y) on = on y

      -- it runs, so not all have ended
      not_all : all_ended u.warps ≡ false
      not_all = not_ended u.warps i (omega (arith, s.count)) (runs_is (warp_at i u) s.running).0

      refused : ((group_step_of k u).code ≡ 0 → ⊥) → Turns k m (count_of m) i ⊎ Stops k m (count_of m)
      refused z =
          let r = unrefused k u f in
          let one : (group_step_of k u).code ≡ 1 → ⊥ = r.0 in
          let two : (group_step_of k u).code ≡ 2 → ⊥ = r.1 in
          let three : (group_step_of k u).code ≡ 3 → ⊥ = λ c. refute ((group_refusals k u).row3.0 c).1.1 not_all in
          inr (record { steps = t; fewer = omega (arith, e); at = u; taken = p; stopped = past_three _ z one two three })

pub fair : Fair
fair k m i z a h r =
    let f : Fits k m = record { fit = tested_fit k m z; splits = a } in
    let b : m.turn < count_of m = (going m f.fit.goes (not_ended m.warps i h (runs_is (warp_at i m) r).0)).0 in
    let w : Within (count_of m) m.turn i = within (count_of m) m.turn i b h in
    from k m i h (count_of m) 0 m (omega arith) start f (record { count = refl; running = r; far = w.far; there = w.there; short = omega arith })
