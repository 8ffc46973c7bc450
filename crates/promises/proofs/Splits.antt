-- Demand 3, the splits.
use Prim.Native.Nat.{ℕ, ◌+◌, ◌-◌, ◌≤◌, ◌<◌}
use mathlib.Core.Path.{◌≡◌, refl, sym, ◌∙◌, ap}
use mathlib.Core.List.{List}
use native.Mathlib.Omega.{arith}
use lib.Dec.{eqb}
use lib.ListN.{length}
use lib.Seq.{get_or-set_same}
use Rattle.word.specs.Word.{holds_of}
use Rattle.word.specs.declared.Cond.{Cond}
use Rattle.isa.specs.declared.CsrOp.{CsrOp}
use Rattle.isa.specs.declared.XReg.{XReg}
use Rattle.isa.specs.declared.VReg.{VReg}
use Rattle.isa.specs.declared.Instr.{Instr}
use Rattle.isa.specs.declared.Instr.TheVariants as I
use Rattle.lanes.specs.Mask.{bit_at}
use Rattle.lanes.proofs.MaskLaws.{part_in}
use Rattle.warp.specs.declared.Launch.{Launch}
use Rattle.warp.specs.declared.Split.{Split}
use Rattle.warp.specs.declared.Warp.{Warp}
use Rattle.warp.specs.Warp.{split_count, zero_split, next_pc, next, write_x}
use Rattle.warp.specs.Splits.{opened, open_of, parted, last_split, join_of, set_rpc_of}
use Rattle.warp.proofs.SplitLaws.{by_cond, parted_opens}
use Rattle.warp.specs.Csr.{is_print, writes_of, csr_at, csr_done}
use Rattle.warp.proofs.Moves as M
use Rattle.warp.specs.Facts.{Formed}
use Rattle.warp.proofs.Formed.{formed, depth_le, held_of, mask_small}
use Rattle.definition.specs.State.{State, Outcome, outcome, pc_by, x_of, else_of, instr_at, used_up}
use Rattle.definition.specs.Exec.{effect_of}
use Rattle.definition.specs.Step.{carried_out, step_of}
use Rattle.definition.proofs.Sound.{step_taken}
use Rattle.promises.specs.Reached.{steps, Sound}
use Rattle.promises.specs.Splits.{Disagree, Opens, Near, OneAtMost, SplitCuts, SplitWhen, Covered, Fewer, AtMost, Room, OneLane, Above, here, on, Restored}
use Rattle.promises.proofs.Refusals.{is_zero, step_keeps}
use Rattle.promises.proofs.Reached.{fit, carried, goes_sound, reached_sound}
use Rattle.warp.specs.Parked.{CutInTwo}

held_at : (k : List ℕ) (l : Launch) (s : State) → Sound k l s → M.Held s.warp
held_at k l s g = held_of s.warp (formed s.warp g.splits g.formed)

-- ---- each lane, and how many splits

pub covered : Covered
covered k l s r i =
    let g : Sound k l s = reached_sound k l s r in
    M.lanes_covered i s.warp (held_at k l s g) ∙ ap (λ f. bit_at i.0 f.launchMask) g.fixed

pub fewer : Fewer
fewer k l s r =
    let g : Sound k l s = reached_sound k l s r in
    rw (← g.fixed) (M.splits_fewer s.warp (held_at k l s g))

pub at_most : AtMost
at_most k l s r = depth_le s.warp (reached_sound k l s r).formed

pub room : Room
room k l s r x =
    let g : Sound k l s = reached_sound k l s r in
    let f : Formed s.warp = formed s.warp g.splits g.formed in
    M.fits (else_of x.cond x.left x.right s) 0 s.warp (held_of s.warp f)
    (record { within = part_in s.warp.mask s.warp.fixed.numt _ (mask_small s.warp f); some = x.some; strict = x.notall; aligned = refl })

pub one_lane : OneLane
one_lane k l s r o = omega (arith, fewer k l s r)

-- ---- which instruction opens a split

-- JOIN closes one split at most
record Joined (before after : ℕ) : Type 0 where
  most : after ≤ before
  least : before ≤ after + 1

joined : (w : Warp) → Joined w.depth (join_of w).depth
unfolding join_of
joined w =
    by_cond (λ (u : Warp). Joined w.depth u.depth) (eqb w.depth 0) _ _ (λ z. same)
    (λ z. by_cond (λ (u : Warp). Joined w.depth u.depth) (eqb w.pc (last_split w).rpc) _ _
    (λ q. by_cond (λ (u : Warp). Joined w.depth u.depth) (last_split w).phaseTwo _ _ (λ p. record { most = omega arith; least = omega arith }) (λ p. same))
    (λ q. same))
  where
    same : Joined w.depth w.depth
    same = record { most = omega arith; least = omega arith }

data Opener (s : State) (i : Instr) (u : Warp) : Type 0 where
  none : Joined s.warp.depth u.depth → Opener s i u
  branch : (c : Cond) (a b : VReg) (n : ℕ) → i ≡ I.VBranch c a b n → u ≡ open_of (else_of c a b s) (pc_by 13 n s) s.warp → Opener s i u

module _ (s : State) where
  abbrev W : Warp
  W = s.warp

  stays : (i : Instr) (u : Warp) → u.depth ≡ W.depth → Opener s i u
  stays i u e = none (record { most = omega arith; least = omega arith })

  csr : (i : Instr) (o : CsrOp) (n : ℕ) (r : XReg) (a y : ℕ) → Opener s i (csr_done o n r a y W)
  unfolding csr_done
  csr i o n r a y =
      by_cond (λ (u : Warp). Opener s i (next (write_x r (csr_at n W) u))) (writes_of o a) _ _
      (λ e. by_cond (λ (u : Warp). Opener s i (next (write_x r (csr_at n W) u))) (is_print n) _ _ (λ p. stays i _ refl) (λ p. stays i _ refl)) (λ e. stays i _ refl)

  setrpc : (i : Instr) (r a : XReg) (n : ℕ) → Opener s i (set_rpc_of r a n W)
  unfolding set_rpc_of
  setrpc i r a n = stays i _ refl

  vbranch : (c : Cond) (a b : VReg) (n : ℕ) → Opener s (I.VBranch c a b n) (parted (else_of c a b s) (pc_by 13 n s) W)
  unfolding parted
  vbranch c a b n =
      by_cond (Opener s _) (eqb (else_of c a b s) 0) _ _ (λ z. stays _ _ refl)
      (λ z. by_cond (Opener s _) (eqb (else_of c a b s) W.mask) _ _ (λ e. stays _ _ refl) (λ e. branch c a b n refl refl))

  opener : (i : Instr) → Opener s i (carried_out i s).warp
  unfolding effect_of
  opener I.Refused = stays _ _ refl
  opener (I.Lui r n) = stays _ _ refl
  opener (I.Auipc r n) = stays _ _ refl
  opener (I.Jal r n) = stays _ _ refl
  opener (I.Jalr r a n) = stays _ _ refl
  opener (I.Branch c a b n) = by_cond (Opener s _) (holds_of c (x_of a s) (x_of b s)) _ _ (λ t. stays _ _ refl) (λ t. stays _ _ refl)
  opener (I.Load k r a n) = stays _ _ refl
  opener (I.Store k a b n) = stays _ _ refl
  opener (I.OpImm o r a n) = stays _ _ refl
  opener (I.OpReg o r a b) = stays _ _ refl
  opener (I.Fence r a n) = stays _ _ refl
  opener (I.Csr o r a n) = csr _ o n r _ _
  opener (I.CsrImm o r i n) = csr _ o n r _ _
  opener (I.Vector o a) = stays _ _ refl
  opener (I.VMove r a) = stays _ _ refl
  opener (I.VMerge r b a) = stays _ _ refl
  opener (I.VMoveXS r b) = stays _ _ refl
  opener (I.VMoveSX r a) = stays _ _ refl
  opener (I.Vid t r) = stays _ _ refl
  opener (I.VBranch c a b n) = vbranch c a b n
  opener I.Join = none (joined W)
  opener (I.SetRpc r a n) = setrpc _ r a n
  opener I.EndPrg = stays _ _ refl
  opener (I.Barrier n) = stays _ _ refl
  opener (I.VLoad e k r a n) = stays _ _ refl
  opener (I.VStore e k a b n) = stays _ _ refl
  opener (I.RegExt n) = stays _ _ refl
  opener (I.RegExtI n) = stays _ _ refl

-- ---- a split opens

-- a move that opens a split
data Widens (w u : Warp) : Type 0 where
  widens : (e p : ℕ) → M.Cuts e p w → M.MoveLeaves (open_of e p w) u → Widens w u

widening : (w u : Warp) → M.Moves w u → w.depth < u.depth → Widens w u
widening w u (M.opens e p c q) d = widens e p c q
widening w u (M.joins q) d = absurd (omega (arith, q.depth, (joined w).most))
widening w u (M.leaves x) d = absurd (omega (arith, x.depth))

record Opened (e p : ℕ) (w u : Warp) : Type 0 where
  depth : u.depth ≡ w.depth + 1
  mask : u.mask ≡ w.mask - e
  pc : u.pc ≡ next_pc w
  last : w.depth < length w.splits → last_split u ≡ opened e p w

opening : (e p : ℕ) (w : Warp) → Opened e p w (open_of e p w)
unfolding open_of
opening e p w =
    let d : w.depth + 1 - 1 ≡ w.depth = omega arith in
    record { depth = refl; mask = refl; pc = refl; last = λ h. rw d (get_or-set_same w.splits w.depth (opened e p w) zero_split h) }

module _ (k : List ℕ) (l : Launch) (s t : State) (g : Sound k l s) (q : step_of k s ≡ outcome 0 t) where
  -- what the instruction has done
  done : t.warp ≡ (carried_out (instr_at k s) (used_up s)).warp
  done = ap (λ (o : Outcome). o.left.warp) (sym q) ∙ ap (λ (m : State). m.warp) (step_taken k s (ap (λ (o : Outcome). o.code) q))

  module _ (d : s.warp.depth < t.warp.depth) where
    wide : Widens s.warp t.warp
    wide = widening s.warp t.warp (carried k s t (fit k l s g) (steps q)).moves d

    cuts_in_two : Widens s.warp t.warp → (s.warp.depth < split_count) × CutInTwo s.warp.mask (last_split t.warp).elseMask t.warp.mask
    cuts_in_two (widens e p c u) = (M.fits e p s.warp (held_at k l s g) c, rw (u.splits, u.depth, u.mask) (M.cuts_open e p s.warp (held_at k l s g) c))

    opens : Opener (used_up s) (instr_at k s) t.warp → Opens k s t
    opens (none n) = absurd (omega (arith, n.most))
    opens (branch c a b n i u) =
        let m = cuts_in_two wide in
        let o : Opened (else_of c a b s) (pc_by 13 n s) (used_up s).warp t.warp = rw u (opening (else_of c a b s) (pc_by 13 n s) (used_up s).warp) in
        let f = o.last (omega (arith, g.splits, m.0)) in
        let e : (last_split t.warp).elseMask ≡ else_of c a b s = ap (λ (x : Split). x.elseMask) f in
        record {
          by = record { cond = c; left = a; right = b; offset = n; word = i; some = λ z. omega (arith, m.1.one, e); notall = λ z. omega (arith, m.1.other, o.mask) };
          split = f;
          cut = m.1;
          first = o.pc;
        }

    opens_at : Opens k s t
    opens_at = opens (rw done (opener (used_up s) (instr_at k s)))

pub one_at_most : OneAtMost
one_at_most k s = is_zero (step_of k s).code (λ z. rw (step_taken k s z) (near (opener (used_up s) (instr_at k s)))) (λ n. rw (step_keeps k s n) (record { most = omega arith; least = omega arith }))
  where
    near : {i : Instr} {u : Warp} → Opener (used_up s) i u → Near s.warp.depth u.depth
    near (none j) = record { most = omega (arith, j.most); least = j.least }
    near (branch c a b n i e) =
        let d = ap (λ (x : Warp). x.depth) e ∙ (opening (else_of c a b s) (pc_by 13 n s) (used_up s).warp).depth in
        record { most = omega arith; least = omega arith }

pub split_cuts : SplitCuts
split_cuts k l s t r q d = opens_at k l s t (reached_sound k l s r) q d

parts : (c : Cond) (a b : VReg) (n : ℕ) (s : State) → (carried_out (I.VBranch c a b n) s).warp ≡ parted (else_of c a b s) (pc_by 13 n s) s.warp
unfolding effect_of
parts c a b n s = refl

pub split_when : SplitWhen
split_when k l s t r q = ((λ d. (split_cuts k l s t r q d).by), widened)
  where
    one_more : Disagree k s → t.warp.depth ≡ s.warp.depth + 1
    one_more x =
        ap (λ (u : Warp). u.depth) (
        done k l s t (reached_sound k l s r) q
        ∙ ap (λ (i : Instr). (carried_out i (used_up s)).warp) x.word
        ∙ parts x.cond x.left x.right x.offset (used_up s)
        ∙ sym (parted_opens _ _ (used_up s).warp x.some x.notall))
        ∙ (opening _ _ (used_up s).warp).depth

    widened : Disagree k s → s.warp.depth < t.warp.depth
    widened x = omega (arith, one_more x)

-- ---- the mask comes back

-- no move closes more than one split
closes_one : (w u : Warp) → M.Moves w u → w.depth ≤ u.depth + 1
closes_one w u (M.opens e p c q) = omega (arith, q.depth, (opening e p w).depth)
closes_one w u (M.joins q) = rw q.depth (joined w).least
closes_one w u (M.leaves x) = omega (arith, x.depth)

-- what is above over calls is above over moves
above : (k : List ℕ) (l : Launch) (n : ℕ) (s t : State) → Sound k l s → Above k n s t → M.OpenAbove n s.warp t.warp × Sound k l t
above k l n s t g (here a) = (M.here a, g)
above k l n s t g (on {t = u} p m a) =
    let h = above k l n s u g p in
    (M.on h.0 (carried k u t (fit k l u h.1) m).moves a, goes_sound k l u t h.1 m)

last_above : (n : ℕ) (w u : Warp) → M.OpenAbove n w u → n < u.depth
last_above n w u (M.here a) = a
last_above n w u (M.on p m a) = a

pub restored : Restored
restored k l s a b t r q d p m f =
    let g : Sound k l s = reached_sound k l s r in
    let h = above k l s.warp.depth a b (goes_sound k l s a g (steps q)) p in
    let z : M.Moves b.warp t.warp = (carried k b t (fit k l b h.1) m).moves in
    (omega (arith, closes_one b.warp t.warp z, last_above _ _ _ h.0), back (wide k l s a g q d) h.0 z)
  where
    back : Widens s.warp a.warp → M.OpenAbove s.warp.depth a.warp b.warp → M.Moves b.warp t.warp → t.warp.mask ≡ s.warp.mask
    back (widens e o c u) x z = M.mask_restored e o s.warp a.warp b.warp t.warp (held_at k l s (reached_sound k l s r)) c u x z f
