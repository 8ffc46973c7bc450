-- An inactive lane keeps its registers, writes no byte and influences nothing, and an active one no other lane's registers.
use Prim.Native.Nat.{ℕ, ◌^◌, ◌≤◌, ◌<◌}
use mathlib.Core.Path.{◌≡◌, refl, sym, ap, ◌∙◌, subst₂}
use mathlib.Core.Bool.{Bool, true, false, not, ◌&&◌, ◌||◌, true≢false}
use mathlib.Core.List.{List, [], ◌∷◌, ◌++◌}
use native.Mathlib.Nat.{lt_of_le_of_lt, lt_of_lt_of_le}
use native.Mathlib.Omega.{arith}
use lib.Dec.{eqb, ltb, leb}
use lib.ListN.{length, get_or, drop}
use lib.Seq.{set_out}
use borrow.Author.Tests.{ltb-true, ltb-false, lt-ltb, ne_eqb}
use Rattle.answer.specs.Rows.{Row, first}
use Rattle.answer.proofs.Rows.{every_at}
use Rattle.isa.specs.declared.Instr.{Instr}
use Rattle.isa.specs.declared.VReg.{VReg}
use Rattle.lanes.specs.declared.Lane.{Lane}
use Rattle.lanes.specs.Mask.{lane}
use Rattle.isa.specs.Bounds.{vector_registers}
use Rattle.memory.specs.Memories.{bytes_at}
use Rattle.lanes.specs.Lanes.{lanes_max, file_words, slot_of, write_lanes}
use Rattle.lanes.proofs.Laws.{each_keeps, write_only, write_unwritten}
use Rattle.lanes.proofs.MaskLaws.{bit_above}
use Rattle.warp.specs.declared.Warp.{Warp}
use Rattle.warp.specs.Warp.{aligned, split_count}
use Rattle.warp.specs.WellFormed.{fixed_ok_of, all_zero, chain_of, prefix_ok_of, well_formed_of}
use Rattle.warp.proofs.Chain.{chain_le}
use Rattle.definition.specs.State.{State, Outcome, fixed_of, active, instr_at, used_up}
use Rattle.definition.specs.Refuse.{runs_ok_of, step_tests, tests_of}
use Rattle.definition.specs.Exec.{Effect, effect}
use Rattle.definition.specs.Step.{carried_out, step_of}
use Rattle.isa.specs.Prefix.{pending}
use Rattle.definition.proofs.Sizes.{sizes, sizes_kept}
use Rattle.definition.proofs.Sound.{step_clear, step_taken}
use Rattle.definition.proofs.Used.{step_within}
use Rattle.promises.specs.Lanes.{is_active, SameLane, Agree, all_but, with_file, Alike, ActiveMask, Kept, Unwritten, Unseen, Unfelt, LaneAlone}
use Rattle.promises.proofs.Refusals.{is_zero, step_table, step_keeps}
use Rattle.promises.proofs.Stores.{active_of, becomes_stays}
use Rattle.promises.proofs.Twins.{Same, Twin, moves, gives, stores_both, compared}
use Rattle.promises.proofs.Written.{fixed_of_lem, written}

-- ---- active lanes

pub active_mask : ActiveMask
unfolding well_formed_of
active_mask m e l = below (ltb l.0 (fixed_of m).numt) refl
  where
    w : Warp
    w = m.warp

    small : w.mask < 2 ^ w.fixed.numt
    small =
        let p = every_at
        (fixed_ok_of w.fixed ∷ aligned w.pc ∷ eqb (get_or w.x 0 0) 0 ∷ leb w.depth split_count ∷ all_zero (drop w.depth w.splits) ∷ not (w.ended && w.waiting)
        ∷ chain_of w.fixed.launchMask w.splits w.depth w.mask ∷ not ((w.ended || w.waiting) && ltb 0 w.depth) ∷ prefix_ok_of w.prefix
        ∷ not ((w.ended || w.waiting) && pending w.prefix) ∷ []) e in
        lt_of_le_of_lt (chain_le w.fixed.launchMask w.splits w.depth w.mask (p 6)) (fixed_of_lem w e).mask

    below : (t : Bool) → ltb l.0 (fixed_of m).numt ≡ t → (t && active m l) ≡ active m l
    below true t = refl
    below false t = sym (bit_above w.mask w.fixed.numt l small (omega (arith, ltb-false l.0 w.fixed.numt t)))

pub no_true : (t : Bool) → (t ≡ true → ⊥) → t ≡ false
no_true true n = absurd (n refl)
no_true false n = refl

inactive_bit : (m : State) (l : Lane) → is_active m l ≡ false → l.0 < (fixed_of m).numt → active m l ≡ false
inactive_bit m l e h = rw (lt-ltb l.0 (fixed_of m).numt h) at e

-- ---- what an inactive lane keeps

module _ (k : List ℕ) (m : State) (u : List ℕ) (P : State → State → Type 0) where
  abbrev other : State
  other = with_file u m

  -- two steps with one number: both were refused, or both taken
  by_both : (step_of k m).code ≡ (step_of k other).code → P m other
      → ((step_of k m).code ≡ 0 → P (carried_out (instr_at k m) (used_up m)) (carried_out (instr_at k m) (used_up other))) → P (step_of k m).left (step_of k other).left
  by_both c old new =
      is_zero (step_of k m).code (λ z. subst₂ P (sym (step_taken k m z)) (sym (step_taken k other (sym c ∙ z))) (new z))
      (λ n. subst₂ P (sym (ap (λ (o : Outcome). o.left) (step_keeps k m n))) (sym (ap (λ (o : Outcome). o.left) (step_keeps k other (λ z. n (c ∙ z))))) old)

pub by_step : (k : List ℕ) (m : State) (P : State → Type 0) → P m → ((step_of k m).code ≡ 0 → P (carried_out (instr_at k m) (used_up m))) → P (step_of k m).left
by_step k m P = by_both k m m.vector (λ n o. P n) refl

kept_by : (m : State) (u : List ℕ) (i : Instr) (a b : Effect) → (fixed_of m).numt ≤ lanes_max → (l : Lane) → l.0 < lanes_max → is_active m l ≡ false → Twin m u i a b → SameLane l (effect a m).vector m.vector
kept_by m u i a b n l h o (moves e) r = refl
kept_by m u i a b n l h o (gives {on = on} {r = c} {f = f} w e) r =
    write_unwritten on c f m.vector (fixed_of m).numt n r l h (λ b. no_true (on l) (λ t. true≢false (sym (w l t).0 ∙ inactive_bit m l o b)))
kept_by m u i a b n l h o (stores_both t e) r = refl

pub kept : Kept
kept k m l h o =
    by_step k m (λ n. SameLane l n.vector m.vector) (λ r. refl)
    (λ z. kept_by (used_up m) m.vector _ _ _ (fixed_of_lem m.warp (step_clear k m z).formed).lanes.1 l h o (compared (used_up m) m.vector (instr_at k m)).twin)

pub unwritten : Unwritten
unwritten k m r = (
  (step_within k m).size r,
  λ j h o. is_zero (step_of k m).code (λ z. becomes_stays m _ _ _ _ (written k m z r j h) o)
      (λ n. ap (λ (s : Outcome). get_or (bytes_at r s.left.bytes) j 0) (step_keeps k m n)),
)

-- ---- what a lane depends on

-- a write of the same words to a lane that is the same
write_alike : (n : ℕ) (on on' : Lane → Bool) (c : VReg) (f g : Lane → ℕ) (v u : List ℕ) (l : Lane) → n ≤ lanes_max → length v ≡ file_words → length u ≡ file_words → l.0 < lanes_max → on l ≡ on' l → f l ≡ g l → SameLane l v u
    → SameLane l (write_lanes n on c f v) (write_lanes n on' c g u)
write_alike n on on' c f g v u l hn lv lu hl o e s = in_file (ltb c.0 vector_registers) refl
  where
    -- a register that the file does not have is not written
    none : vector_registers ≤ c.0 → (on : Lane → Bool) (h : Lane → ℕ) (x : List ℕ) → length x ≡ file_words → write_lanes n on c h x ≡ x
    none b on h x lx = each_keeps on _ x (λ y. y ≡ x) refl n (λ m y p q z. set_out y (slot_of c m) (h m) (rw z (omega arith)) ∙ z)

    in_file : (t : Bool) → ltb c.0 vector_registers ≡ t → SameLane l (write_lanes n on c f v) (write_lanes n on' c g u)
    in_file true t = write_only n hn c (ltb-true c.0 vector_registers t) l hl v u lv lu s on on' f g o e
    in_file false t =
        let b = ltb-false c.0 vector_registers t in
        subst₂ (SameLane l) (sym (none b on f v lv)) (sym (none b on' g u lu)) s

module _ (k : List ℕ) (m : State) (u : List ℕ) (long : length m.vector ≡ length u) where
  alone : (i : Instr) (a b : Effect) → (step_of k m).code ≡ 0 → (l : Lane) → l.0 < lanes_max → SameLane l m.vector u → Twin (used_up m) u i a b
      → SameLane l (effect a (used_up m)).vector (effect b (with_file u (used_up m))).vector
  alone i a b z l h s (moves e) = s
  alone i a b z l h s (gives {on = on} {on' = on'} {r = c} {f = f} {g = g} w e) =
      let t = step_clear k m z in
      let n = (sizes (fixed_of m) k m.vector m.bytes t.runs).file_is in
      write_alike (fixed_of m).numt on on' c f g m.vector u l (fixed_of_lem m.warp t.formed).lanes.1 n (sym long ∙ n) h (e l s).0 (e l s).1 s
  alone i a b z l h s (stores_both t e) = s

  -- where the active lanes are the same, so are the answer, the warp and the memories
  module _ (same : well_formed_of m.warp ≡ true → Same m u) where
    code_same : (step_of k m).code ≡ (step_of k (with_file u m)).code
    code_same = step_table k m ∙ by_formed (well_formed_of m.warp) refl ∙ sym (step_table k (with_file u m))
      where
        runs : runs_ok_of (fixed_of m) k m.vector m.bytes ≡ runs_ok_of (fixed_of m) k u m.bytes
        runs = sizes_kept (fixed_of m) k u m.bytes m.vector m.bytes long (λ r. refl)

        by_formed : (t : Bool) → well_formed_of m.warp ≡ t → first (tests_of k m) ≡ first (tests_of k (with_file u m))
        by_formed true f = rw runs (ap (λ (rs : List (Row Bool)). first (step_tests k (with_file u m) ++ rs)) ((compared m u (instr_at k m)).rows (same f)))
        by_formed false f = rw (runs, f)

    equal : (i : Instr) (a b : Effect) → Same m u → Twin (used_up m) u i a b → ((effect a (used_up m)).warp ≡ (effect b (with_file u (used_up m))).warp) × ((effect a (used_up m)).bytes ≡ (effect b (with_file u (used_up m))).bytes)
    equal i a b s (moves e) = (e s, refl)
    equal i a b s (gives w e) = (refl, refl)
    equal i a b s (stores_both t e) = (refl, e s)

    left_same : ((step_of k m).left.warp ≡ (step_of k (with_file u m)).left.warp) × ((step_of k m).left.bytes ≡ (step_of k (with_file u m)).left.bytes)
    left_same =
        by_both k m u (λ n o. (n.warp ≡ o.warp) × (n.bytes ≡ o.bytes)) code_same (refl, refl)
        (λ z. equal _ _ _ (same (step_clear k m z).formed) (compared (used_up m) u (instr_at k m)).twin)

pub lane_alone : LaneAlone
lane_alone k m u long c l h s = by_both k m u (λ n o. SameLane l n.vector o.vector) c s (λ z. alone k m u long _ _ _ z l h s (compared (used_up m) u (instr_at k m)).twin)

-- a set of lanes with all active ones: where the files agree on it, the outcomes are alike on it
alike : (k : List ℕ) (m : State) (u : List ℕ) (on : Lane → Bool) → ((l : Lane) → is_active m l ≡ true → on l ≡ true) → Agree on m.vector u → Alike on (step_of k m) (step_of k (with_file u m))
alike k m u on all g =
    let same : well_formed_of m.warp ≡ true → Same m u = λ f l h t. g.1 l (lt_of_lt_of_le h (fixed_of_lem m.warp f).lanes.1) (all l (active_of m l h t)) in
    let c = code_same k m u g.0 same in
    let e = left_same k m u g.0 same in
    record {
      code = c;
      warp = e.0;
      bytes = e.1;
      vector = ((step_within k m).words ∙ g.0 ∙ sym (step_within k (with_file u m)).words, λ l h t. lane_alone k m u g.0 c l h (g.1 l h t));
    }

-- an active lane is another than the inactive lane h
pub all_but_lem : (m : State) (h : Lane) → is_active m h ≡ false → (l : Lane) → is_active m l ≡ true → all_but h l ≡ true
all_but_lem m h i l a = ap not (ne_eqb l.0 h.0 (λ e. true≢false (sym a ∙ ap (is_active m) (ap lane e) ∙ i)))

pub unseen : Unseen
unseen k m u g = alike k m u (is_active m) (λ l a. a) g

pub unfelt : Unfelt
unfelt k m u h i g = alike k m u (all_but h) (all_but_lem m h i) g
