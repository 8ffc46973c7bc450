-- A well-formed warp stays so.
use Prim.Native.Nat.{ℕ, ◌+◌, ◌-◌, ◌*◌, ◌%◌, ◌^◌, ◌≤◌, ◌<◌}
use mathlib.Core.Path.{◌≡◌, refl, sym, ◌∙◌}
use mathlib.Core.Bool.{Bool, true, false, not, ◌&&◌, ◌||◌}
use mathlib.Core.List.{List, [], ◌∷◌}
use native.Mathlib.Omega.{arith}
use native.Mathlib.Nat.{lt_of_lt_of_le, lt_of_le_of_lt, le_of_lt, mul-le-mul}
use lib.Dec.{eqb, leb, ltb}
use lib.ListN.{get_or, set, drop, length, length-set}
use lib.Seq.{get_or-set_same, get_or-set_other, drop-set-lt}
use lib.Pow.{pow_mono}
use borrow.Author.Tests.{eq-eqb, eqb-true, eqb-false, leb-true, le-leb, ltb-true, not-true, not-false}
use Rattle.answer.specs.Rows.{between}
use Rattle.answer.proofs.Rows.{both, every_at}
use Rattle.isa.specs.declared.XReg.{XReg}
use Rattle.isa.specs.declared.Prefix.{Prefix}
use Rattle.isa.specs.Prefix.{no_prefix, reg_ext_i, pending}
use Rattle.warp.specs.declared.Split.{Split}
use Rattle.warp.specs.declared.Fixed.{Fixed}
use Rattle.warp.specs.declared.Warp.{Warp}
use Rattle.lanes.specs.Lanes.{lanes_max}
use Rattle.warp.specs.Warp.{split_count, max_warps, zero_split, aligned, with_scalars, with_pc, with_rpc, with_print, with_stop, with_prefix, set_x, write_x, next_pc, next}
use Rattle.warp.specs.WellFormed.{fixed_ok_of, chain_of, is_zero, all_zero, prefix_ok_of, well_formed_of}
use Rattle.warp.specs.Splits.{open_of, last_split, turned, turn_of, close_of, join_of, set_rpc_of}
use Rattle.warp.proofs.SplitLaws.{by_cond}
use Rattle.warp.specs.Csr.{tid_of}
use Rattle.warp.proofs.Chain.{zero_step, chain_le}
use Rattle.warp.proofs.Moves.{Cuts, Held, held, unmoved, opens, joins, fits, last_good}
use Rattle.warp.specs.Facts.{FixedOk, Formed}

-- ---- the fixed values

ends : (low n high : ℕ) → between low n high ≡ true → (low ≤ n) × (n ≤ high)
ends low n high e = let p = both (leb low n) (leb n high) e in (leb-true _ _ p.0, leb-true _ _ p.1)

pub fixed_ok : (f : Fixed) → fixed_ok_of f ≡ true → FixedOk f
unfolding fixed_ok_of
fixed_ok f e =
    let p =
    every_at
    (between 1 f.numt lanes_max ∷ between 1 f.numw max_warps ∷ ltb f.wid f.numw ∷ not (eqb f.launchMask 0) ∷ ltb f.launchMask (2 ^ f.numt) ∷ aligned f.codeBase ∷ [])
    e in
    let z : f.launchMask ≡ 0 → ⊥ = eqb-false _ _ (not-true _ (p 3)) in
    record {
      lanes = ends 1 f.numt lanes_max (p 0);
      warps = ends 1 f.numw max_warps (p 1);
      wid = ltb-true _ _ (p 2);
      some = omega arith;
      mask = ltb-true _ _ (p 4);
      code = eqb-true _ _ (p 5);
    }

-- TID fits a word
pub tid_small : (f : Fixed) → FixedOk f → tid_of f ≤ max_warps * lanes_max
tid_small f k = mul-le-mul (le_of_lt (lt_of_lt_of_le k.wid k.warps.1)) k.lanes.1

-- ---- the test, part by part

abbrev tests : Warp → List Bool
tests w =
    fixed_ok_of w.fixed ∷ aligned w.pc ∷ eqb (get_or w.x 0 0) 0 ∷ leb w.depth split_count ∷ all_zero (drop w.depth w.splits) ∷ not (w.ended && w.waiting)
    ∷ chain_of w.fixed.launchMask w.splits w.depth w.mask ∷ not ((w.ended || w.waiting) && ltb 0 w.depth) ∷ prefix_ok_of w.prefix
    ∷ not ((w.ended || w.waiting) && pending w.prefix) ∷ []

-- no more splits are open than there is room for, whatever the length of the list
pub depth_le : (w : Warp) → well_formed_of w ≡ true → w.depth ≤ split_count
unfolding well_formed_of
depth_le w e = leb-true _ _ (every_at (tests w) e 3)

pub formed : (w : Warp) → length w.splits ≡ split_count → well_formed_of w ≡ true → Formed w
unfolding well_formed_of
formed w n e =
    let p = every_at (tests w) e in
    record {
      long = n;
      fixed = p 0;
      pc = eqb-true _ _ (p 1);
      x0 = eqb-true _ _ (p 2);
      deep = leb-true _ _ (p 3);
      unused = p 4;
      one = p 5;
      chain = p 6;
      quiet = p 7;
      prefix = p 8;
      free = p 9;
    }

pub well : (w : Warp) → Formed w → well_formed_of w ≡ true
unfolding well_formed_of
well w f = simp (f.fixed, eq-eqb _ _ f.pc, eq-eqb _ _ f.x0, le-leb _ _ f.deep, f.unused, f.one, f.chain, f.quiet, f.prefix, f.free)

pub held_of : (w : Warp) → Formed w → Held w
held_of w f =
    let n = fixed_ok w.fixed f.fixed in
    record { long = f.long; some = n.some; small = lt_of_lt_of_le n.mask (pow_mono n.lanes.1); chain = f.chain }

-- the active mask has no lane at or above NUMT
pub mask_small : (w : Warp) → Formed w → w.mask < 2 ^ w.fixed.numt
mask_small w f =
    lt_of_le_of_lt (chain_le w.fixed.launchMask w.splits w.depth w.mask f.chain) (fixed_ok w.fixed f.fixed).mask

-- ---- what leaves the splits alone

pub next_pc_lem : (p : ℕ) → p % 4 ≡ 0 → (p + 4) % 2 ^ 32 % 4 ≡ 0
next_pc_lem p h = omega arith

put_x0 : (r : XReg) (y : ℕ) (x : List ℕ) → get_or x 0 0 ≡ 0 → get_or (set_x r y x) 0 0 ≡ 0
put_x0 r y x h =
    by_cond (λ (l : List ℕ). get_or l 0 0 ≡ 0) (eqb r.0 0) _ _ (λ e. h)
    (λ e. let n : r.0 ≡ 0 → ⊥ = eqb-false r.0 0 e in get_or-set_other {A = ℕ} x r.0 0 y 0 (omega arith) ∙ h)

unless : (a : Bool) → not (a && false) ≡ true
unless true = refl
unless false = refl

still_quiet : (a b c : Bool) → a ≡ false → b ≡ false → not ((a || b) && c) ≡ true
still_quiet a b c p q = simp (p, q)

-- what no ended or waiting warp has, a waiting one has not
pub stopped_none : (a b c : Bool) → not ((a || b) && c) ≡ true → b ≡ true → c ≡ false
stopped_none true b c q e = not-true c q
stopped_none false true c q e = not-true c q
stopped_none false false c q e = cc

none_ok : (p : Prefix) → prefix_ok_of p ≡ true → pending p ≡ false → p ≡ no_prefix
unfolding prefix_ok_of
none_ok p o q =
    let t = every_at (leb p.kind reg_ext_i ∷ ltb p.bits (2 ^ 12) ∷ (pending p || eqb p.bits 0) ∷ []) o in
    let b : eqb p.bits 0 ≡ true = rw q at t 2 in
    rw (eqb-true p.kind 0 (not-false _ q), eqb-true p.bits 0 b)

module _ (w : Warp) (f : Formed w) where
  formed_scalars : (x : List ℕ) (pc rpc print : ℕ) → pc % 4 ≡ 0 → get_or x 0 0 ≡ 0 → Formed (with_scalars x pc rpc print w)
  formed_scalars x pc rpc print a z =
      record {
        long = f.long;
        fixed = f.fixed;
        pc = a;
        x0 = z;
        deep = f.deep;
        unused = f.unused;
        one = f.one;
        chain = f.chain;
        quiet = f.quiet;
        prefix = f.prefix;
        free = f.free;
      }

  pub formed_pc : (p : ℕ) → p % 4 ≡ 0 → Formed (with_pc p w)
  formed_pc p a = formed_scalars w.x p w.rpc w.print a f.x0

  pub formed_next : Formed (next w)
  formed_next = formed_pc (next_pc w) (next_pc_lem w.pc f.pc)

  pub formed_x : (r : XReg) (y : ℕ) → Formed (write_x r y w)
  formed_x r y = formed_scalars (set_x r y w.x) w.pc w.rpc w.print f.pc (put_x0 r y w.x f.x0)

  pub formed_rpc : (y : ℕ) → Formed (with_rpc y w)
  formed_rpc y = formed_scalars w.x w.pc y w.print f.pc f.x0

  pub formed_print : (y : ℕ) → Formed (with_print y w)
  formed_print y = formed_scalars w.x w.pc w.rpc y f.pc f.x0

  -- with no split open and no prefix pending a warp may end, wait or go on
  pub formed_stop : (e b : Bool) → not (e && b) ≡ true → w.depth ≡ 0 → pending w.prefix ≡ false → Formed (with_stop e b w)
  formed_stop e b n z q =
      record {
        long = f.long;
        fixed = f.fixed;
        pc = f.pc;
        x0 = f.x0;
        deep = f.deep;
        unused = f.unused;
        one = n;
        chain = f.chain;
        quiet = rw z (unless (e || b));
        prefix = f.prefix;
        free = rw q (unless (e || b));
      }

  with_prefix_lem : (p : Prefix) → prefix_ok_of p ≡ true → not ((w.ended || w.waiting) && pending p) ≡ true → Formed (with_prefix p w)
  with_prefix_lem p o q =
      record {
        long = f.long;
        fixed = f.fixed;
        pc = f.pc;
        x0 = f.x0;
        deep = f.deep;
        unused = f.unused;
        one = f.one;
        chain = f.chain;
        quiet = f.quiet;
        prefix = o;
        free = q;
      }

  -- a running warp may have a prefix pending, and any warp none
  pub formed_prefix : (p : Prefix) → prefix_ok_of p ≡ true → w.ended ≡ false → w.waiting ≡ false → Formed (with_prefix p w)
  formed_prefix p o en wa = with_prefix_lem p o (still_quiet _ _ _ en wa)

  pub formed_unprefixed : Formed (with_prefix no_prefix w)
  unfolding prefix_ok_of
  formed_unprefixed = with_prefix_lem no_prefix refl (unless (w.ended || w.waiting))

  -- where none is pending the bits are 0 too
  pub none_pending : pending w.prefix ≡ false → w.prefix ≡ no_prefix
  none_pending q = none_ok w.prefix f.prefix q

  -- none is pending where the warp waits
  pub waiting_free : w.waiting ≡ true → pending w.prefix ≡ false
  waiting_free e = stopped_none w.ended w.waiting (pending w.prefix) f.free e

pub formed_setrpc : (rd rs1 : XReg) (i : ℕ) (w : Warp) → Formed w → Formed (set_rpc_of rd rs1 i w)
unfolding set_rpc_of
formed_setrpc rd rs1 i w f = formed_next _ (formed_x _ (formed_rpc w f _) rd _)

-- ---- what moves the splits

unused_above : (ss : List Split) (d : ℕ) (s : Split) → d < length ss → all_zero (drop d ss) ≡ true → all_zero (drop (d + 1) (set ss d s)) ≡ true
unused_above ss d s h e =
    rw (drop-set-lt (d + 1) ss d s (omega arith)) (both (is_zero (get_or ss d zero_split)) (all_zero (drop (d + 1) ss)) (sym (zero_step ss d h) ∙ e)).1

unused_freed : (ss : List Split) (d : ℕ) → 0 < d → d ≤ length ss → all_zero (drop d ss) ≡ true → all_zero (drop (d - 1) (set ss (d - 1) zero_split)) ≡ true
unused_freed ss d p h e =
    let k : d - 1 + 1 ≡ d = omega arith in
    zero_step (set ss (d - 1) zero_split) (d - 1) (omega (arith, length-set ss (d - 1) zero_split))
    ∙ rw (get_or-set_same ss (d - 1) zero_split zero_split (omega arith), drop-set-lt (d - 1 + 1) ss (d - 1) zero_split (omega arith), k) e

module _ (w : Warp) (f : Formed w) (en : w.ended ≡ false) (wa : w.waiting ≡ false) where
  pub formed_open : (e p : ℕ) → Cuts e p w → Formed (open_of e p w)
  unfolding open_of
  formed_open e p o =
      let h : Held w = held_of w f in
      let k : w.depth < split_count = fits e p w h o in
      let g : Held (open_of e p w) = held w (open_of e p w) h (opens e p o (unmoved (open_of e p w))) in
      record {
        long = g.long;
        fixed = f.fixed;
        pc = next_pc_lem w.pc f.pc;
        x0 = f.x0;
        deep = omega arith;
        unused = unused_above w.splits w.depth _ (omega (arith, f.long)) f.unused;
        one = f.one;
        chain = g.chain;
        quiet = still_quiet _ _ _ en wa;
        prefix = f.prefix;
        free = f.free;
      }

  formed_turn : (w.depth ≡ 0 → ⊥) → Held (turn_of (last_split w) w) → Formed (turn_of (last_split w) w)
  formed_turn d h =
      record {
        long = h.long;
        fixed = f.fixed;
        pc = (last_good w (held_of w f) d).aligned;
        x0 = f.x0;
        deep = f.deep;
        unused = rw (drop-set-lt w.depth w.splits (w.depth - 1) (turned (last_split w)) (omega arith)) f.unused;
        one = f.one;
        chain = h.chain;
        quiet = f.quiet;
        prefix = f.prefix;
        free = f.free;
      }

  formed_close : (w.depth ≡ 0 → ⊥) → Held (close_of (last_split w) w) → Formed (close_of (last_split w) w)
  formed_close d h =
      let l : w.depth ≤ split_count = f.deep in
      record {
        long = h.long;
        fixed = f.fixed;
        pc = f.pc;
        x0 = f.x0;
        deep = omega arith;
        unused = unused_freed w.splits w.depth (omega arith) (omega (arith, f.long)) f.unused;
        one = f.one;
        chain = h.chain;
        quiet = still_quiet _ _ _ en wa;
        prefix = f.prefix;
        free = f.free;
      }

  pub formed_join : Formed (join_of w)
  unfolding join_of
  formed_join =
      by_cond (λ (v : Warp). Held v → Formed v) (eqb w.depth 0) _ _ (λ z k. formed_next w f)
      (λ z. by_cond (λ (v : Warp). Held v → Formed v) (eqb w.pc (last_split w).rpc) _ _
      (λ q. by_cond (λ (v : Warp). Held v → Formed v) (last_split w).phaseTwo _ _ (λ s k. formed_close (eqb-false _ _ z) k) (λ s k. formed_turn (eqb-false _ _ z) k))
      (λ q k. formed_next w f))
      (held w (join_of w) (held_of w f) (joins (unmoved (join_of w))))
