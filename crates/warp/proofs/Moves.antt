-- What a step does to the splits, and what holds through any number of steps.
use Prim.Native.Nat.{ℕ, suc, ◌+◌, ◌-◌, ◌%◌, ◌^◌, ◌≤◌, ◌<◌}
use mathlib.Core.Path.{◌≡◌, refl, sym, ◌∙◌, ap, subst}
use mathlib.Core.Bool.{true}
use mathlib.Core.List.{List}
use mathlib.Core.Logic.{⊎_elim}
use native.Mathlib.Nat.{eq-or-lt_of_le}
use native.Mathlib.Omega.{arith}
use native.Mathlib.Numerals.{add-one}
use lib.Dec.{eqb}
use lib.ListN.{get_or, set, length, length-set, get_or-map}
use lib.Seq.{get_or-set_same, get_or-set_other, map-set_same}
use lib.Bits.{bit_and, and_le_r}
use lib.Count.{ones, ones-le}
use borrow.Author.Tests.{eqb-false}
use Rattle.isa.specs.declared.Prefix.{Prefix}
use Rattle.warp.specs.declared.Split.{Split}
use Rattle.warp.specs.declared.Warp.{Warp}
use Rattle.answer.proofs.Rows.{both}
use Rattle.lanes.specs.declared.Lane.{Lane}
use Rattle.lanes.specs.Mask.{bit_at}
use Rattle.lanes.proofs.MaskLaws.{cut_bit, cut_ones, ones_pos}
use Rattle.lanes.specs.Lanes.{lanes_max}
use Rattle.warp.specs.Warp.{split_count, zero_split, with_prefix}
use Rattle.warp.specs.WellFormed.{split_ok_of, chain_of}
use Rattle.warp.specs.Splits.{opened, open_of, last_split, turned, turn_of, close_of, join_of}
use Rattle.warp.proofs.SplitLaws.{by_cond, join_through}
use Rattle.warp.specs.Parked.{parked_in, CutInTwo}
use Rattle.warp.proofs.Chain.{Good, good, chain_covered, chain_fewer, chain_step, chain_set, chain_more}

-- active lanes that disagree: those of e, some but not all, go to p
pub record Cuts (e p : ℕ) (w : Warp) : Type 0 where
  pub within : bit_and e w.mask ≡ e
  pub some : e ≡ 0 → ⊥
  pub strict : e ≡ w.mask → ⊥
  pub aligned : p % 4 ≡ 0

-- a step that leaves the splits alone
pub record MoveLeaves (w v : Warp) : Type 0 where
  pub splits : v.splits ≡ w.splits
  pub depth : v.depth ≡ w.depth
  pub mask : v.mask ≡ w.mask
  pub fixed : v.fixed ≡ w.fixed

pub unmoved : (w : Warp) → MoveLeaves w w
unmoved w = record { splits = refl; depth = refl; mask = refl; fixed = refl }

-- up to what no split has part in, as the pending prefix
pub data Moves (w v : Warp) : Type 0 where
  opens : (e p : ℕ) → Cuts e p w → MoveLeaves (open_of e p w) v → Moves w v
  joins : MoveLeaves (join_of w) v → Moves w v
  leaves : MoveLeaves w v → Moves w v

-- what every step keeps of the splits
pub record Held (w : Warp) : Type 0 where
  pub long : length w.splits ≡ split_count
  pub some : 0 < w.fixed.launchMask
  pub small : w.fixed.launchMask < 2 ^ 32
  pub chain : chain_of w.fixed.launchMask w.splits w.depth w.mask ≡ true

-- Each launched lane is active or parked in just one open split, and no other lane is either.
pub lanes_covered : (l : Lane) (w : Warp) → Held w → bit_at l.0 w.mask + parked_in l w.splits w.depth ≡ bit_at l.0 w.fixed.launchMask
lanes_covered l w h = chain_covered l w.fixed.launchMask w.splits w.depth w.mask h.chain

-- Fewer splits are open than lanes were launched.
pub splits_fewer : (w : Warp) → Held w → w.depth < ones w.fixed.launchMask
splits_fewer w h =
    let f = chain_fewer w.fixed.launchMask w.splits w.depth w.mask h.some h.chain in
    omega (arith, ones_pos w.mask f.1)

-- ---- a split opens

-- where some lanes of m but not all are in e, there are two at least
pub cut_two : (e m : ℕ) → bit_and e m ≡ e → (e ≡ 0 → ⊥) → (e ≡ m → ⊥) → 2 ≤ ones m
cut_two e m i z n = omega (arith, cut_ones m e i, ones_pos e (omega arith), ones_pos (m - e) (omega (arith, and_le_r e m)), and_le_r e m)

-- each open split parks a lane, so that with the active ones they are at most as many as a warp has
pub room_left : (w : Warp) → Held w → (w.depth + ones w.mask ≤ lanes_max) × (0 < w.mask)
room_left w h = omega (arith, chain_fewer w.fixed.launchMask w.splits w.depth w.mask h.some h.chain, ones-le 32 w.fixed.launchMask h.small)

-- The split records never overflow.
pub fits : (e p : ℕ) (w : Warp) → Held w → Cuts e p w → w.depth < split_count
fits e p w h o = omega (arith, room_left w h, cut_two e w.mask o.within o.some o.strict)

-- Opening cuts the active mask in two, the lanes that run and those that are parked.
pub cuts_open : (e p : ℕ) (w : Warp) → Held w → Cuts e p w → CutInTwo w.mask (last_split (open_of e p w)).elseMask (open_of e p w).mask
unfolding open_of
cuts_open e p w h o =
    let d : w.depth + 1 - 1 ≡ w.depth = omega arith in
    rw (d, get_or-set_same w.splits w.depth (opened e p w) zero_split (omega (arith, h.long, fits e p w h o)))
    (record {
      one = omega (arith, o.some);
      other = omega (arith, and_le_r e w.mask, o.within, o.strict);
      lanes = λ l. cut_bit l.0 e w.mask o.within;
    })

held_open : (e p : ℕ) (w : Warp) → Held w → Cuts e p w → Held (open_of e p w)
unfolding open_of
held_open e p w h o =
    record {
      long = length-set w.splits w.depth _ ∙ h.long;
      some = h.some;
      small = h.small;
      chain =
          rw add-one (chain_more w.fixed.launchMask w.splits w.depth (w.mask - e) (opened e p w)
          (omega (arith, h.long, fits e p w h o))
          (record { some = o.some; strict = o.strict; within = o.within; aligned = o.aligned; runs = refl })
          h.chain);
    }

-- ---- JOIN, at the last split

module _ (w : Warp) (h : Held w) (d : w.depth ≡ 0 → ⊥) where
  last : (split_ok_of (last_split w) w.mask ≡ true) × (chain_of w.fixed.launchMask w.splits (w.depth - 1) (last_split w).full ≡ true)
  last =
      both (split_ok_of (last_split w) w.mask) (chain_of w.fixed.launchMask w.splits (w.depth - 1) (last_split w).full)
      (sym (chain_step w.fixed.launchMask w.splits w.depth w.mask (omega arith)) ∙ h.chain)

  pub last_good : Good (last_split w) w.mask
  last_good = good (last_split w) w.mask last.0

  held_turn : Held (turn_of (last_split w) w)
  held_turn =
      let g : Good (last_split w) w.mask = last_good in
      let n : suc (w.depth - 1) ≡ w.depth = omega arith in
      record {
        long = length-set w.splits (w.depth - 1) _ ∙ h.long;
        some = h.some;
        small = h.small;
        chain =
            subst (λ (k : ℕ). chain_of w.fixed.launchMask (set w.splits (w.depth - 1) (turned (last_split w))) k (last_split w).elseMask ≡ true) n
            (chain_more w.fixed.launchMask w.splits (w.depth - 1) (last_split w).elseMask (turned (last_split w))
            (omega (arith, h.long, room_left w h, ones_pos w.mask (room_left w h).1))
            (record { some = g.some; strict = g.strict; within = g.within; aligned = g.aligned; runs = refl })
            last.1);
      }

  held_close : Held (close_of (last_split w) w)
  held_close =
      record {
        long = length-set w.splits (w.depth - 1) zero_split ∙ h.long;
        some = h.some;
        small = h.small;
        chain = chain_set w.fixed.launchMask w.splits (w.depth - 1) zero_split (w.depth - 1) (last_split w).full (omega arith) ∙ last.1;
      }

held_leaves : (w v : Warp) → Held w → MoveLeaves w v → Held v
held_leaves w v h l =
    record {
      long = rw l.splits h.long;
      some = rw l.fixed h.some;
      small = rw l.fixed h.small;
      chain = rw (l.splits, l.depth, l.mask, l.fixed) h.chain;
    }

held_join : (w : Warp) → Held w → Held (join_of w)
unfolding join_of
held_join w h =
    by_cond Held (eqb w.depth 0) _ _ (λ z. held_leaves w _ h (record { splits = refl; depth = refl; mask = refl; fixed = refl }))
    (λ z. by_cond Held (eqb w.pc (last_split w).rpc) _ _
    (λ q. by_cond Held (last_split w).phaseTwo _ _ (λ s. held_close w h (eqb-false _ _ z)) (λ s. held_turn w h (eqb-false _ _ z)))
    (λ q. held_leaves w _ h (record { splits = refl; depth = refl; mask = refl; fixed = refl })))

-- What is held is held after a step.
pub held : (w v : Warp) → Held w → Moves w v → Held v
held w v h (opens e p o l) = held_leaves (open_of e p w) v (held_open e p w h o) l
held w v h (joins l) = held_leaves (join_of w) v (held_join w h) l
held w v h (leaves l) = held_leaves w v h l

-- ---- the mask comes back

-- split k is open, and its full mask is m
pub record Under (k m : ℕ) (w : Warp) : Type 0 where
  pub above : k < w.depth
  pub full : (get_or w.splits k zero_split).full ≡ m

full_set : (ss : List Split) (i k : ℕ) (s : Split) → s.full ≡ (get_or ss i zero_split).full → (get_or (set ss i s) k zero_split).full ≡ (get_or ss k zero_split).full
full_set ss i k s e =
    sym (get_or-map (λ (x : Split). x.full) (set ss i s) k zero_split)
    ∙ ap (λ (l : List ℕ). get_or l k 0) (map-set_same (λ (x : Split). x.full) ss i s zero_split e)
    ∙ get_or-map (λ (x : Split). x.full) ss k zero_split

-- after a step either split k is open as before, or the count is k and the mask is m
pub data After (k m : ℕ) (v : Warp) : Type 0 where
  still : Under k m v → After k m v
  back : v.depth ≡ k → v.mask ≡ m → After k m v

k_le : (k m : ℕ) (w : Warp) → Under k m w → k ≤ w.depth - 1
k_le k m w u = omega arith

after_close : (k m : ℕ) (w : Warp) → Under k m w → After k m (close_of (last_split w) w)
after_close k m w u =
    ⊎_elim (λ e. back (sym e) (ap (λ (i : ℕ). (get_or w.splits i zero_split).full) (sym e) ∙ u.full))
    (λ l. still (record { above = l; full = ap (λ (x : Split). x.full) (get_or-set_other w.splits (w.depth - 1) k zero_split zero_split (omega arith)) ∙ u.full }))
    (eq-or-lt_of_le (k_le k m w u))

after_join : (k m : ℕ) (w : Warp) → Under k m w → After k m (join_of w)
unfolding join_of
after_join k m w u =
    by_cond (After k m) (eqb w.depth 0) _ _ (λ z. still (record { above = u.above; full = u.full }))
    (λ z. by_cond (After k m) (eqb w.pc (last_split w).rpc) _ _
    (λ q. by_cond (After k m) (last_split w).phaseTwo _ _ (λ s. after_close k m w u)
    (λ s. still (record { above = u.above; full = full_set w.splits (w.depth - 1) k (turned (last_split w)) refl ∙ u.full })))
    (λ q. still (record { above = u.above; full = u.full })))

under_open : (k m e p : ℕ) (w : Warp) → Under k m w → Under k m (open_of e p w)
unfolding open_of
under_open k m e p w u =
    record { above = omega arith; full = ap (λ (s : Split). s.full) (get_or-set_other w.splits w.depth k _ zero_split (omega arith)) ∙ u.full }

under_leaves : (k m : ℕ) (w v : Warp) → Under k m w → MoveLeaves w v → Under k m v
under_leaves k m w v u l = record { above = rw l.depth u.above; full = rw l.splits u.full }

after_leaves : (k m : ℕ) (w v : Warp) → After k m w → MoveLeaves w v → After k m v
after_leaves k m w v (still u) l = still (under_leaves k m w v u l)
after_leaves k m w v (back d e) l = back (l.depth ∙ d) (l.mask ∙ e)

pub moved_after : (k m : ℕ) (w v : Warp) → Under k m w → Moves w v → After k m v
moved_after k m w v u (opens e p o l) = still (under_leaves k m (open_of e p w) v (under_open k m e p w u) l)
moved_after k m w v u (joins l) = after_leaves k m (join_of w) v (after_join k m w u) l
moved_after k m w v u (leaves l) = still (under_leaves k m w v u l)

begun : (e p : ℕ) (w : Warp) → Held w → Cuts e p w → Under w.depth w.mask (open_of e p w)
unfolding open_of
begun e p w h o =
    record { above = omega arith; full = ap (λ (s : Split). s.full) (get_or-set_same w.splits w.depth _ zero_split (omega (arith, h.long, fits e p w h o))) }

-- any number of steps from w to v, through all of which more than k splits are open
pub data OpenAbove (k : ℕ) : Warp → Warp → Type 0 where
  here : {w : Warp} → k < w.depth → OpenAbove k w w
  on : {w v u : Warp} → OpenAbove k w v → Moves v u → k < u.depth → OpenAbove k w u

along : (k m : ℕ) (w v : Warp) → Under k m w → OpenAbove k w v → Under k m v
along k m w v u (here a) = u
along k m w v u (on {v = x} p s a) = stays (moved_after k m x v (along k m w x u p) s)
  where
    stays : After k m v → Under k m v
    stays (still y) = y
    stays (back d e) = absurd (omega arith)

-- When the count of open splits first falls back to what it was before a split, the mask is the one held just before that split.
pub mask_restored : (e p : ℕ) (w v u z : Warp) → Held w → Cuts e p w → MoveLeaves (open_of e p w) v → OpenAbove w.depth v u → Moves u z → z.depth ≤ w.depth → z.mask ≡ w.mask
mask_restored e p w v u z h o l a s d =
    falls (moved_after w.depth w.mask u z (along w.depth w.mask v u (under_leaves w.depth w.mask (open_of e p w) v (begun e p w h o) l) a) s)
  where
    falls : After w.depth w.mask z → z.mask ≡ w.mask
    falls (still y) = absurd (omega arith)
    falls (back x y) = y

-- ---- the pending prefix has no part in a move

open_prefix : (q : Prefix) (e p : ℕ) (w : Warp) → open_of e p (with_prefix q w) ≡ with_prefix q (open_of e p w)
unfolding open_of
open_prefix q e p w = refl

join_prefix : (q : Prefix) (w : Warp) → join_of (with_prefix q w) ≡ with_prefix q (join_of w)
unfolding join_of
join_prefix q w = join_through (with_prefix q) (last_split w) w refl refl refl (eqb w.depth 0) (eqb w.pc (last_split w).rpc) (last_split w).phaseTwo

leaves_prefix : (q : Prefix) (w u v : Warp) → u ≡ with_prefix q w → MoveLeaves u v → MoveLeaves w v
leaves_prefix q w u v e l =
    record {
      splits = l.splits ∙ ap (λ (x : Warp). x.splits) e;
      depth = l.depth ∙ ap (λ (x : Warp). x.depth) e;
      mask = l.mask ∙ ap (λ (x : Warp). x.mask) e;
      fixed = l.fixed ∙ ap (λ (x : Warp). x.fixed) e;
    }

pub moves_unprefixed : (q : Prefix) (w v : Warp) → Moves (with_prefix q w) v → Moves w v
moves_unprefixed q w v (opens e p c l) =
    opens e p (record { within = c.within; some = c.some; strict = c.strict; aligned = c.aligned }) (leaves_prefix q (open_of e p w) _ v (open_prefix q e p w) l)
moves_unprefixed q w v (joins l) = joins (leaves_prefix q (join_of w) _ v (join_prefix q w) l)
moves_unprefixed q w v (leaves l) = leaves (leaves_prefix q w _ v refl l)
