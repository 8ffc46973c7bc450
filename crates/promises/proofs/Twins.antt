-- An instruction at two vector files: what its tests and its effect look at, lane by lane.
use Prim.Native.Nat.{ℕ, ◌<◌}
use mathlib.Core.Path.{◌≡◌, refl, sym, ap, ap₂, ◌∙◌}
use mathlib.Core.Bool.{Bool, true, false, not, cond, ◌&&◌, true≢false}
use mathlib.Core.List.{List, [], ◌∷◌, ◌++◌}
use lib.Dec.{eqb}
use borrow.Author.Tests.{eqb-true, eqb-false, eq-eqb}
use lib.ListN.{length, get_or}
use Rattle.answer.specs.Rows.{Row, ◌⇒◌, first}
use Rattle.word.specs.Word.{extend_of}
use Rattle.isa.specs.declared.Instr.{Instr}
use Rattle.isa.specs.declared.Instr.TheVariants as I
use Rattle.isa.specs.declared.Source.{Source}
use Rattle.isa.specs.declared.Source.TheVariants as From
use Rattle.isa.specs.declared.Space.{Space}
use Rattle.isa.specs.declared.VReg.{VReg}
use Rattle.isa.specs.Masked.{v0}
use Rattle.lanes.specs.Lanes.{lane_of, operand_of, op_lane, is_odd, in_v0, merge_lane}
use Rattle.lanes.specs.declared.Operand.{Operand}
use Rattle.lanes.specs.declared.Lane.{Lane}
use Rattle.lanes.proofs.Laws.{both_left, both_right, lane_only, operand_only, uniform_only, value_only}
use Rattle.lanes.proofs.MaskLaws.{wants_only}
use Rattle.memory.specs.Memory.{size_of, width_of}
use Rattle.memory.specs.Memories.{Region, Contents, bytes_at}
use Rattle.memory.proofs.Agree.{agree_only}
use Rattle.memory.proofs.Laws.{address_only, word_only, inside_only, store_only}
use Rattle.warp.specs.declared.Warp.{Warp}
use Rattle.warp.specs.Warp.{next, write_x}
use Rattle.warp.specs.Splits.{parted}
use Rattle.definition.specs.State.{State, fixed_of, active, written, pc_by, memory_of, lane_at, private_in, else_of}
use Rattle.definition.specs.Refuse.{astray, access_tests, refusals_of}
use Rattle.definition.specs.Exec.{Effect, goes, writes, stores, effect_of, immediate_of, source_of, loaded}
use Rattle.promises.specs.Lanes.{SameLane, with_file, address_in}
use Rattle.promises.specs.Masked.{InV0}
use Rattle.promises.specs.Written.{Becomes, Gives, operation, move, merge_operand, merge_other, scalar, number, load}
use Rattle.promises.proofs.Stores.{Apart, scalar_becomes, lanes_become}

-- ---- the lanes that are written

-- the test of bit 0, and the fact
pub in_v0_true : (m : State) (l : Lane) → InV0 m l → in_v0 m.vector l ≡ true
in_v0_true m l h = eq-eqb _ 1 h

pub true_in_v0 : (m : State) (l : Lane) → in_v0 m.vector l ≡ true → InV0 m l
true_in_v0 m l e = eqb-true _ 1 e

module _ (m : State) (l : Lane) where
  pub written_active : (t : Bool) → written t m l ≡ true → active m l ≡ true
  written_active false e = e
  written_active true e = both_left (active m l) (in_v0 m.vector l) e

  pub written_in_v0 : (t : Bool) → written t m l ≡ true → t ≡ true → InV0 m l
  written_in_v0 false e q = absurd (true≢false (sym q))
  written_in_v0 true e q = true_in_v0 m l (both_right (active m l) (in_v0 m.vector l) e)

  pub in_v0_written : (t : Bool) → (t ≡ true → InV0 m l) → active m l ≡ true → written t m l ≡ true
  in_v0_written false h a = a
  in_v0_written true h a = rw (a, in_v0_true m l (h refl))

-- what vmerge gives a lane
pub merged : (m : State) (l : Lane) (r b : VReg) (s : Source) → Gives m l (I.VMerge r b s) r (merge_lane m.vector b (source_of extend_of s m) l)
merged m l r b s = by (in_v0 m.vector l) refl
  where
    by : (t : Bool) → in_v0 m.vector l ≡ t → Gives m l (I.VMerge r b s) r (cond t (operand_of m.vector (source_of extend_of s m) l) (lane_of m.vector b l))
    by true e = merge_operand r b s (true_in_v0 m l e)
    by false e = merge_other r b s (eqb-false _ 1 e)

module _ (m : State) (u : List ℕ) where
  -- the files are the same in every active lane
  abbrev pub Same : Type 0
  Same = (l : Lane) → l.0 < (fixed_of m).numt → active m l ≡ true → SameLane l m.vector u

  -- where no test of i holds, in memories that don't overlap, the bytes d are what i's store makes of those before
  abbrev pub EffectLeaves : Instr → Contents → Type 0
  EffectLeaves i d = Apart m → first (refusals_of i m) ≡ 0 → (r : Region) (j : ℕ) → j < length (bytes_at r m.bytes) → Becomes m (address_in r j m) (get_or (bytes_at r m.bytes) j 0) (get_or (bytes_at r d) j 0) i

  -- i's effect with the file of m, and with u
  pub data Twin (i : Instr) : Effect → Effect → Type 0 where
    moves : {a b : Warp} → (Same → a ≡ b) → Twin i (goes a) (goes b)
    gives : {on on' : Lane → Bool} {r : VReg} {f g : Lane → ℕ} → ((l : Lane) → on l ≡ true → (active m l ≡ true) × Gives m l i r (f l))
        → ((l : Lane) → SameLane l m.vector u → (on l ≡ on' l) × (f l ≡ g l)) → Twin i (writes on r f) (writes on' r g)
    stores_both : {d e : Contents} → EffectLeaves i d → (Same → d ≡ e) → Twin i (stores d) (stores e)

  -- and its rows
  pub record Compared (i : Instr) (rs us : List (Row Bool)) (a b : Effect) : Type 0 where
    pub rows : Same → rs ≡ us
    pub twin : Twin i a b

  -- an instruction that looks at no vector register; one whose rows look at none, and which writes the active lanes, or those of a masked word
  idle : {i : Instr} {rs : List (Row Bool)} {a : Warp} → Compared i rs rs (goes a) (goes a)
  idle = record { rows = λ s. refl; twin = moves (λ s. refl) }

  fills : {i : Instr} {rs : List (Row Bool)} {r : VReg} {f g : Lane → ℕ} → ((l : Lane) → Gives m l i r (f l)) → ((l : Lane) → SameLane l m.vector u → f l ≡ g l) → Compared i rs rs (writes (active m) r f) (writes (active m) r g)
  fills w o = record { rows = λ s. refl; twin = gives (λ l e. (e, w l)) (λ l s. (refl, o l s)) }

  written_same : (t : Bool) (l : Lane) → SameLane l m.vector u → written t m l ≡ written t (with_file u m) l
  written_same false l s = refl
  written_same true l s = ap (λ (x : ℕ). active m l && is_odd x) (s v0)

  fills_by : {i : Instr} {rs : List (Row Bool)} {r : VReg} {f g : Lane → ℕ} (t : Bool) → ((l : Lane) → (t ≡ true → InV0 m l) → Gives m l i r (f l)) → ((l : Lane) → SameLane l m.vector u → f l ≡ g l)
      → Compared i rs rs (writes (written t m) r f) (writes (written t (with_file u m)) r g)
  fills_by t w o = record { rows = λ s. refl; twin = gives (λ l e. (written_active m l t e, w l (written_in_v0 m l t e))) (λ l s. (written_same t l s, o l s)) }

  -- a scalar register or an immediate is the same with any file
  source_same : (f : ℕ → ℕ → ℕ) (e : Source) → source_of f e m ≡ source_of f e (with_file u m)
  source_same f (From.V r) = refl
  source_same f (From.X r) = refl
  source_same f (From.I i) = refl
  source_same f (From.Long i) = refl

  at_same : (e : Space) (a : VReg) (o : ℕ) (l : Lane) → SameLane l m.vector u → lane_at e a o m l ≡ lane_at e a o (with_file u m) l
  at_same e a o l s = address_only e (private_in (fixed_of m)) m.vector u a o l (s a)

  rows_same : (e : Space) (a : VReg) (o w : ℕ) → Same → access_tests e w a o m ≡ access_tests e w a o (with_file u m)
  rows_same e a o w s =
      ap₂ (λ (c t : Bool). 14 ⇒ not c ∷ 9 ⇒ not t ∷ []) (word_only (fixed_of m).numt (active m) w o e (lane_of m.vector a) (lane_of u a) (λ l h t. s l h t a))
      (inside_only (fixed_of m).numt (active m) (memory_of m) (lane_at e a o m) (lane_at e a o (with_file u m)) (λ l h t. at_same e a o l (s l h t)) w)

  pub compared : (i : Instr) → Compared i (refusals_of i m) (refusals_of i (with_file u m)) (effect_of i m) (effect_of i (with_file u m))
  unfolding refusals_of effect_of
  compared I.Refused = idle
  compared (I.Lui r n) = idle
  compared (I.Auipc r n) = idle
  compared (I.Jal r n) = idle
  compared (I.Jalr r a n) = idle
  compared (I.Branch c a b n) = idle
  compared (I.Load k r a n) = idle
  compared (I.Store k a b n) =
      record {
        rows = λ s. refl;
        twin = stores_both (λ p h r j c. scalar_becomes m p r j c k a b n h) (λ s. refl);
      }
  compared (I.OpImm o r a n) = idle
  compared (I.OpReg o r a b) = idle
  compared (I.Fence r a n) = idle
  compared (I.Csr o r a n) = idle
  compared (I.CsrImm o r i n) = idle
  compared (I.Vector o a) = fills_by a.masked (λ l. operation o a) (λ l s. lane_only l m.vector u s o a.vs2 (source_of (immediate_of o) a.src m) ∙ ap (λ (b : Operand). op_lane o u a.vs2 b l) (source_same (immediate_of o) a.src))
  compared (I.VMove r e) = fills (λ l. move r e) (λ l s. operand_only l m.vector u s (source_of extend_of e m) ∙ ap (λ (b : Operand). operand_of u b l) (source_same extend_of e))
  compared (I.VMerge r b e) =
      fills (λ l. merged m l r b e)
      (λ l s. rw (s v0, s b, operand_only l m.vector u s (source_of extend_of e m) ∙ ap (λ (b : Operand). operand_of u b l) (source_same extend_of e)))
  compared (I.VMoveXS r b) =
      record {
        rows = λ s. ap (λ (t : Bool). 10 ⇒ not t ∷ []) (uniform_only (fixed_of m).numt (active m) (lane_of m.vector b) (lane_of u b) (λ l h t. s l h t b));
        twin = moves (λ s. ap (λ (y : ℕ). next (write_x r y m.warp)) (value_only (fixed_of m).numt (active m) (lane_of m.vector b) (lane_of u b) (λ l h t. s l h t b)));
      }
  compared (I.VMoveSX r a) = fills (λ l. scalar r a) (λ l s. refl)
  compared (I.Vid t r) = fills_by t (λ l. number t r) (λ l s. refl)
  compared (I.VBranch c a b n) =
      let e : Same → else_of c a b m ≡ else_of c a b (with_file u m) = λ s. wants_only m.warp.mask (fixed_of m).numt c a b m.vector u s in
      record {
        rows = λ s. ap (λ (x : ℕ). 8 ⇒ (not (eqb x 0) && astray (pc_by 13 n m)) ∷ []) (e s);
        twin = moves (λ s. ap (λ (x : ℕ). parted x (pc_by 13 n m) m.warp) (e s));
      }
  compared I.Join = idle
  compared (I.SetRpc r a n) = idle
  compared I.EndPrg = idle
  compared (I.Barrier n) = idle
  compared (I.RegExt n) = idle
  compared (I.RegExtI n) = idle
  compared (I.VLoad e k r a n) = record { rows = λ s. rows_same e a n (size_of k) s; twin = gives (λ l t. (t, load e k r a n)) (λ l s. (refl, ap (λ (x : ℕ). loaded k x m) (at_same e a n l s))) }
  compared (I.VStore e k a b n) =
      record {
        rows = λ s. ap₂ ◌++◌ (rows_same e a n (width_of k) s)
            (ap (λ (t : Bool). 15 ⇒ not t ∷ []) (agree_only (fixed_of m).numt (active m) k (lane_at e a n m) (lane_at e a n (with_file u m)) (lane_of m.vector b) (lane_of u b)
            (λ l h t. at_same e a n l (s l h t)) (λ l h t. s l h t b)));
        twin = stores_both
            (λ p h r j c. lanes_become m p r j c e k a b n h)
            (λ s. store_only (fixed_of m).numt (active m) (memory_of m) (lane_at e a n m) (lane_at e a n (with_file u m)) (λ l h t. at_same e a n l (s l h t)) k
            (lane_of m.vector b) (lane_of u b) (λ l h t. s l h t b));
      }
