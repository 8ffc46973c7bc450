-- What the chain of open splits says of the lanes.
use Prim.Native.Nat.{ℕ, zero, suc, ◌+◌, ◌-◌, ◌%◌, ◌≤◌, ◌<◌}
use mathlib.Core.Path.{◌≡◌, refl, sym, ◌∙◌, ap}
use mathlib.Core.Bool.{Bool, true, false, not, ◌&&◌, cond}
use mathlib.Core.List.{List, [], ◌∷◌, map}
use native.Mathlib.Omega.{arith}
use native.Mathlib.Numerals.{add-one, sub-one}
use native.Mathlib.Nat.{not-suc-le-zero}
use lib.Dec.{eqb}
use lib.ListN.{get_or, set, drop, length, drop_of_length-le, length-map}
use lib.Seq.{drop-cons, get_or-set_same, get_or-set_other}
use lib.Bits.{bit_and, and_le_r}
use lib.Count.{ones}
use borrow.Author.Tests.{eq-eqb, ne_eqb, eqb-true, eqb-false, not-true}
use Rattle.warp.specs.declared.Split.{Split}
use Rattle.answer.proofs.Rows.{both, every_at}
use Rattle.lanes.specs.declared.Lane.{Lane}
use Rattle.lanes.specs.Mask.{bit_at, inside}
use Rattle.lanes.proofs.MaskLaws.{cut_bit, cut_ones, ones_pos}
use Rattle.warp.specs.Warp.{zero_split, aligned}
use Rattle.warp.specs.WellFormed.{running_of, split_ok_of, chain_of, is_zero, all_zero}
use Rattle.warp.specs.Parked.{parked_in}

-- what the prover knows of an array of structs is the length of a list mapped from it
pub mapped : {A B : Type 0} (f : A → B) (l : List A) (n : ℕ) → length (map f l) ≡ n → length l ≡ n
mapped f l n e = sym (length-map l f) ∙ e

-- ---- the split records one by one

-- the last of i open splits, and the rest
pub chain_step : (l : ℕ) (ss : List Split) (i m : ℕ) → 0 < i
    → chain_of l ss i m ≡ (split_ok_of (get_or ss (i - 1) zero_split) m && chain_of l ss (i - 1) (get_or ss (i - 1) zero_split).full)
unfolding chain_of
chain_step l ss zero m h = absurd (not-suc-le-zero h)
chain_step l ss (suc i) m h = simp (sub-one (suc i))

pub chain_end : (l : ℕ) (ss : List Split) (i m : ℕ) → i ≤ 0 → chain_of l ss i m ≡ eqb m l
unfolding chain_of
chain_end l ss zero m h = refl
chain_end l ss (suc i) m h = absurd (not-suc-le-zero h)

-- the first of the unused records, and the rest
pub zero_step : (ss : List Split) (i : ℕ) → i < length ss → all_zero (drop i ss) ≡ (is_zero (get_or ss i zero_split) && all_zero (drop (i + 1) ss))
unfolding all_zero
zero_step ss i h = rw (drop-cons ss i zero_split h, add-one)

pub zero_end : (ss : List Split) (i : ℕ) → length ss ≤ i → all_zero (drop i ss) ≡ true
unfolding all_zero
zero_end ss i h = rw (drop_of_length-le ss h)

-- an open split, of which m runs
pub record Good (s : Split) (m : ℕ) : Type 0 where
  pub some : s.elseMask ≡ 0 → ⊥
  pub within : bit_and s.elseMask s.full ≡ s.elseMask
  pub strict : s.elseMask ≡ s.full → ⊥
  pub aligned : s.elsePc % 4 ≡ 0
  pub runs : running_of s ≡ m

pub good : (s : Split) (m : ℕ) → split_ok_of s m ≡ true → Good s m
unfolding split_ok_of
good s m e =
    let p = every_at (not (eqb s.elseMask 0) ∷ inside s.elseMask s.full ∷ not (eqb s.elseMask s.full) ∷ aligned s.elsePc ∷ eqb (running_of s) m ∷ []) e in
    record {
      some = eqb-false _ _ (not-true _ (p 0));
      within = eqb-true _ _ (p 1);
      strict = eqb-false _ _ (not-true _ (p 2));
      aligned = eqb-true _ _ (p 3);
      runs = eqb-true _ _ (p 4);
    }

pub good_ok : (s : Split) (m : ℕ) → Good s m → split_ok_of s m ≡ true
unfolding split_ok_of
good_ok s m g = simp (ne_eqb _ _ g.some, ne_eqb _ _ g.strict, eq-eqb _ _ g.within, eq-eqb _ _ g.aligned, eq-eqb _ _ g.runs)

-- ---- what the chain says

-- the split's running and parked lanes are its full lanes, each in one of the two
share : (l : ℕ) (b : Bool) (e f : ℕ) → bit_and e f ≡ e → bit_at l f ≡ bit_at l (cond b e (f - e)) + bit_at l (cond b (f - e) e)
share l true e f h = cut_bit l e f h
share l false e f h = omega (arith, cut_bit l e f h)

share_ones : (b : Bool) (e f : ℕ) → bit_and e f ≡ e → (e ≡ 0 → ⊥) → (e ≡ f → ⊥) → (ones (cond b e (f - e)) < ones f) × (0 < cond b e (f - e))
share_ones true e f h z n = omega (arith, cut_ones f e h, ones_pos (f - e) (omega (arith, and_le_r e f)))
share_ones false e f h z n = omega (arith, cut_ones f e h, ones_pos e (omega arith), and_le_r e f)

-- each launched lane is active or parked in just one of the d splits, and no other lane is either
pub chain_covered : (l : Lane) (a : ℕ) (ss : List Split) (d m : ℕ) → chain_of a ss d m ≡ true → bit_at l.0 m + parked_in l ss d ≡ bit_at l.0 a
unfolding chain_of parked_in
chain_covered l a ss zero m e = let q : bit_at l.0 m ≡ bit_at l.0 a = ap (bit_at l.0) (eqb-true m a e) in omega arith
chain_covered l a ss (suc d) m e =
    let s : Split = get_or ss d zero_split in
    let p = both (split_ok_of s m) (chain_of a ss d s.full) e in
    let g : Good s m = good s m p.0 in
    let r : bit_at l.0 (running_of s) ≡ bit_at l.0 m = ap (bit_at l.0) g.runs in
    omega (arith, chain_covered l a ss d s.full p.1, share l.0 s.phaseTwo s.elseMask s.full g.within)

-- each split parks a lane, and the active mask isn't empty
pub chain_fewer : (a : ℕ) (ss : List Split) (d m : ℕ) → 0 < a → chain_of a ss d m ≡ true → (d + ones m ≤ ones a) × (0 < m)
unfolding chain_of
chain_fewer a ss zero m h e = let q : m ≡ a = eqb-true m a e in let o : ones m ≡ ones a = ap ones q in omega arith
chain_fewer a ss (suc d) m h e =
    let s : Split = get_or ss d zero_split in
    let p = both (split_ok_of s m) (chain_of a ss d s.full) e in
    let g : Good s m = good s m p.0 in
    let r : ones (running_of s) ≡ ones m = ap ones g.runs in
    let q : running_of s ≡ m = g.runs in
    omega (arith, chain_fewer a ss d s.full h p.1, share_ones s.phaseTwo s.elseMask s.full g.within g.some g.strict)

running_le : (b : Bool) (e f : ℕ) → bit_and e f ≡ e → cond b e (f - e) ≤ f
running_le true e f h = omega (arith, and_le_r e f)
running_le false e f h = omega arith

-- no more than the launched lanes are active
pub chain_le : (a : ℕ) (ss : List Split) (d m : ℕ) → chain_of a ss d m ≡ true → m ≤ a
unfolding chain_of
chain_le a ss zero m e = let q : m ≡ a = eqb-true m a e in omega arith
chain_le a ss (suc d) m e =
    let s : Split = get_or ss d zero_split in
    let p = both (split_ok_of s m) (chain_of a ss d s.full) e in
    let g : Good s m = good s m p.0 in
    let q : running_of s ≡ m = g.runs in
    omega (arith, chain_le a ss d s.full p.1, running_le s.phaseTwo s.elseMask s.full g.within)

-- the splits below place d don't see what is put at i, above them
pub chain_set : (a : ℕ) (ss : List Split) (i : ℕ) (s : Split) (d m : ℕ) → d ≤ i → chain_of a (set ss i s) d m ≡ chain_of a ss d m
unfolding chain_of
chain_set a ss i s zero m h = refl
chain_set a ss i s (suc d) m h =
    let q : get_or (set ss i s) d zero_split ≡ get_or ss d zero_split = get_or-set_other ss i d s zero_split (omega arith) in
    rw (q, chain_set a ss i s d (get_or ss d zero_split).full (omega arith))

-- a chain with one split more
pub chain_more : (a : ℕ) (ss : List Split) (i m : ℕ) (s : Split) → i < length ss → Good s m → chain_of a ss i s.full ≡ true → chain_of a (set ss i s) (suc i) m ≡ true
unfolding chain_of
chain_more a ss i m s h g e = rw (get_or-set_same ss i s zero_split h, good_ok s m g, chain_set a ss i s i s.full (omega arith)) e
