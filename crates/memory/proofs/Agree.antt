-- Stores that agree: at each address that two accesses have, both have the same byte.
use mathlib.Core.Path.{◌≡◌, sym, subst}
use mathlib.Core.Bool.{Bool, true}
use Prim.Native.Nat.{ℕ, ◌+◌, ◌-◌, ◌<◌}
use native.Mathlib.Omega.{arith}
use lib.Dec.{eqb, leb, ltb}
use borrow.Author.Tests.{eqb-true, eq-eqb, leb-true, le-leb, ltb-true, lt-ltb}
use Rattle.isa.specs.declared.StoreOp.{StoreOp}
use Rattle.lanes.specs.declared.Lane.{Lane}
use Rattle.lanes.specs.Lanes.{all_lanes, ok_if}
use Rattle.lanes.proofs.Laws.{below_at, below_all, all_at, all_hold, all_same, ok_at, ok_when, ok_same, both_left, both_right}
use Rattle.memory.specs.Memory.{width_of, has_of, Has, byte_at}
use Rattle.memory.specs.LaneAccess.{agree_at, agree_of, all_agree}

pub has_true : (n b a : ℕ) → has_of n b a ≡ true → Has n b a
has_true n b a e = (leb-true b a (both_left (leb b a) (ltb a (b + n)) e), ltb-true a (b + n) (both_right (leb b a) (ltb a (b + n)) e))

pub true_has : (n b a : ℕ) → Has n b a → has_of n b a ≡ true
true_has n b a h = rw (le-leb b a h.0, lt-ltb a (b + n) h.1)

-- ---- two stores
module _ (k : StoreOp) (a x b y : ℕ) where
  abbrev pub SameBytes : Type 0
  SameBytes = (c : ℕ) → Has (width_of k) a c → Has (width_of k) b c → byte_at k a x c ≡ byte_at k b y c

  pub agree_true : agree_of k a x b y ≡ true → SameBytes
  unfolding agree_of
  agree_true e c h g =
      let i : ℕ = c - a in
      let q : a + i ≡ c = omega (arith, h.0) in
      let t : ok_if (has_of (width_of k) b c) (eqb (byte_at k a x c) (byte_at k b y c)) ≡ true =
      subst (λ (d : ℕ). ok_if (has_of (width_of k) b d) (eqb (byte_at k a x d) (byte_at k b y d)) ≡ true) q (below_at (width_of k) (agree_at k a x b y) e i (omega (arith, h.0, h.1))) in
      eqb-true _ _ (ok_at (has_of (width_of k) b c) (eqb (byte_at k a x c) (byte_at k b y c)) t (true_has (width_of k) b c g))

  pub true_agree : SameBytes → agree_of k a x b y ≡ true
  unfolding agree_of
  true_agree s =
      below_all (width_of k) (agree_at k a x b y) (λ i h. ok_when _ _ (λ t. eq-eqb _ _ (s (a + i) (omega arith, omega arith) (has_true (width_of k) b (a + i) t))))

-- ---- any two active lanes
module _ (n : ℕ) (on : Lane → Bool) (k : StoreOp) (at xs : Lane → ℕ) where
  abbrev pub Agreed : Type 0
  Agreed = (l h : Lane) → l.0 < n → h.0 < n → on l ≡ true → on h ≡ true → SameBytes k (at l) (xs l) (at h) (xs h)

  abbrev with_lane : Lane → Lane → Bool
  with_lane l h = ok_if (on h) (agree_of k (at l) (xs l) (at h) (xs h))

  abbrev of_lane : Lane → Bool
  of_lane l = ok_if (on l) (all_lanes n (with_lane l))

  pub all_agreed : true ≡ all_agree n on k at xs → Agreed
  all_agreed e l h p q s t =
      let e1 : all_lanes n (with_lane l) ≡ true = ok_at (on l) (all_lanes n (with_lane l)) (all_at of_lane n l e p) s in
      agree_true k (at l) (xs l) (at h) (xs h) (ok_at (on h) (agree_of k (at l) (xs l) (at h) (xs h)) (all_at (with_lane l) n h (sym e1) q) t)

  pub agreed_all : Agreed → true ≡ all_agree n on k at xs
  agreed_all f =
      all_hold of_lane n
      (λ l p. ok_when (on l) (all_lanes n (with_lane l))
      (λ s. sym (all_hold (with_lane l) n (λ h q. ok_when (on h) (agree_of k (at l) (xs l) (at h) (xs h)) (λ t. true_agree k (at l) (xs l) (at h) (xs h) (f l h p q s t))))))

-- the active lanes decide
pub agree_only : (n : ℕ) (on : Lane → Bool) (k : StoreOp) (at at' xs xs' : Lane → ℕ) → ((l : Lane) → l.0 < n → on l ≡ true → at l ≡ at' l) → ((l : Lane) → l.0 < n → on l ≡ true → xs l ≡ xs' l)
    → all_agree n on k at xs ≡ all_agree n on k at' xs'
agree_only n on k at at' xs xs' e f =
    all_same (of_lane n on k at xs) (of_lane n on k at' xs') n
    (λ l p. ok_same (on l) (all_lanes n (with_lane n on k at xs l)) (all_lanes n (with_lane n on k at' xs' l))
    (λ s. all_same (with_lane n on k at xs l) (with_lane n on k at' xs' l) n
    (λ h q. ok_same (on h) (agree_of k (at l) (xs l) (at h) (xs h)) (agree_of k (at' l) (xs' l) (at' h) (xs' h))
    (λ t. rw (e l p s, f l p s, e h q t, f h q t)))))
