-- JOIN and VBRANCH, case by case.
use Prim.Native.Nat.{ℕ}
use mathlib.Core.Path.{◌≡◌, refl}
use mathlib.Core.Bool.{Bool, true, false, cond}
use borrow.Author.Tests.{eq-eqb, ne_eqb}
use Rattle.warp.specs.declared.Split.{Split}
use Rattle.warp.specs.declared.Warp.{Warp}
use Rattle.warp.specs.Warp.{with_pc, next}
use Rattle.warp.specs.Splits.{open_of, parted, last_split, turn_of, close_of, join_of}

-- a choice has what both of its sides have
abbrev pub by_cond : {A : Type 0} (P : A → Type 0) (b : Bool) (x y : A) → (b ≡ true → P x) → (b ≡ false → P y) → P (cond b x y)
by_cond P true x y f g = f refl
by_cond P false x y f g = g refl

pub join_none : (w : Warp) → w.depth ≡ 0 → next w ≡ join_of w
unfolding join_of
join_none w z = simp (eq-eqb _ _ z)

module _ (w : Warp) (d : w.depth ≡ 0 → ⊥) where
  pub join_off : (w.pc ≡ (last_split w).rpc → ⊥) → next w ≡ join_of w
  unfolding join_of
  join_off p = simp (ne_eqb _ _ d, ne_eqb _ _ p)

  module _ (p : w.pc ≡ (last_split w).rpc) where
    pub join_turn : (last_split w).phaseTwo ≡ false → turn_of (last_split w) w ≡ join_of w
    unfolding join_of
    join_turn s = simp (ne_eqb _ _ d, eq-eqb _ _ p, s)

    pub join_close : (last_split w).phaseTwo ≡ true → close_of (last_split w) w ≡ join_of w
    unfolding join_of
    join_close s = simp (ne_eqb _ _ d, eq-eqb _ _ p, s)

-- JOIN, by what it asks of the warp: what it does is done after f as before it, where each of its three ways is
abbrev pub join_by : Split → Bool → Bool → Bool → Warp → Warp
join_by s b c d w = cond b (next w) (cond c (cond d (close_of s w) (turn_of s w)) (next w))

pub join_through : (f : Warp → Warp) (s : Split) (w : Warp) → next (f w) ≡ f (next w) → close_of s (f w) ≡ f (close_of s w) → turn_of s (f w) ≡ f (turn_of s w) → (b c d : Bool) → join_by s b c d (f w) ≡ f (join_by s b c d w)
join_through f s w on closed turned true c d = on
join_through f s w on closed turned false true true = closed
join_through f s w on closed turned false true false = turned
join_through f s w on closed turned false false d = on

module _ (e p : ℕ) (w : Warp) where
  pub parted_none : e ≡ 0 → next w ≡ parted e p w
  unfolding parted
  parted_none z = simp (eq-eqb _ _ z)

  module _ (z : e ≡ 0 → ⊥) where
    pub parted_all : e ≡ w.mask → with_pc p w ≡ parted e p w
    unfolding parted
    parted_all m = simp (ne_eqb _ _ z, eq-eqb _ _ m)

    pub parted_opens : (e ≡ w.mask → ⊥) → open_of e p w ≡ parted e p w
    unfolding parted
    parted_opens m = simp (ne_eqb _ _ z, ne_eqb _ _ m)
