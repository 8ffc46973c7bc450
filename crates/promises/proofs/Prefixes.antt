-- The prefixes REGEXT and REGEXTI.
use Prim.Native.Nat.{ℕ, ◌+◌, ◌*◌, ◌/◌, ◌%◌, ◌^◌}
use mathlib.Core.Path.{◌≡◌, refl, sym, ap, ap₂, ◌∙◌}
use mathlib.Core.Bool.{Bool, true, false, not, ◌&&◌, ◌||◌}
use mathlib.Core.List.{List, [], ◌∷◌, ◌++◌, append-nil}
use native.Mathlib.Omega.{arith}
use lib.Dec.{eqb, leb, ltb}
use lib.ListN.{get_or, drop}
use borrow.Author.Tests.{lt-ltb, le-ltb}
use Rattle.answer.specs.Rows.{Row, ◌⇒◌, first}
use Rattle.answer.proofs.Rows.{every_at}
use Rattle.word.specs.Word.{extend_of, holds_of}
use Rattle.word.specs.declared.Op.{Op}
use Rattle.isa.specs.declared.Instr.{Instr}
use Rattle.isa.specs.declared.Instr.TheVariants as I
use Rattle.isa.specs.declared.CsrOp.{CsrOp}
use Rattle.isa.specs.declared.XReg.{XReg}
use Rattle.isa.specs.Decode.{decode_of}
use Rattle.isa.specs.Prefix.{reg_ext, reg_ext_i, prefix, no_prefix, pending, takes_of, allowed, prefixed}
use Rattle.isa.proofs.Digits.{v_same, zero_digits}
use Rattle.warp.specs.declared.Warp.{Warp}
use Rattle.warp.specs.Warp.{split_count, aligned, with_prefix, next, write_x, pends}
use Rattle.warp.specs.WellFormed.{fixed_ok_of, chain_of, all_zero, prefix_ok_of, well_formed_of}
use Rattle.warp.specs.Splits.{open_of, parted, last_split, join_of, set_rpc_of}
use Rattle.warp.specs.Csr.{is_print, writes_of, csr_at, csr_done}
use Rattle.warp.proofs.SplitLaws.{by_cond}
use Rattle.definition.specs.State.{State, state, fixed_of, x_of, place_of, instr_at, used_up}
use Rattle.definition.specs.Refuse.{runs_ok_of, fetch_tests, refusals_of, step_tests}
use Rattle.definition.specs.Exec.{immediate_of, effect_of}
use Rattle.definition.specs.Step.{carried_out, step_of}
use Rattle.definition.proofs.Sound.{step_taken}
use Rattle.definition.proofs.Tests.{step_rows}
use Rattle.definition.proofs.Used.{tests_used}
use Rattle.promises.specs.Prefixes.{IsPrefix, ext, ext_i, PrefixOnly, UsedUp, AsAlone, ZeroDigits, Repeats, clear, set, RepeatsIn, operation, move, merge, ZeroDigitsI}

-- ---- a prefix

prefix_done : (m : State) {i : Instr} {j n : ℕ} → IsPrefix i j n → carried_out i (used_up m) ≡ state (pends j n m.warp) m.vector m.bytes
unfolding effect_of
prefix_done m (ext n) = refl
prefix_done m (ext_i n) = refl

prefix_free : (m : State) {i : Instr} {j n : ℕ} → IsPrefix i j n → refusals_of i m ≡ []
unfolding refusals_of
prefix_free m (ext n) = refl
prefix_free m (ext_i n) = refl

pub prefix_only : PrefixOnly
prefix_only k m j n p =
    record {
      code = step_rows k m ∙ ap first (ap (λ (rs : List (Row Bool)). step_tests k m ++ rs) (prefix_free m p) ∙ append-nil (step_tests k m));
      left = λ z. step_taken k m z ∙ prefix_done m p;
    }

-- ---- every other instruction leaves what is pending

module _ (m : State) where
  abbrev G : Warp → Type 0
  G u = u.prefix ≡ m.warp.prefix

  csr : (o : CsrOp) (n : ℕ) (r : XReg) (a y : ℕ) → G (csr_done o n r a y m.warp)
  unfolding csr_done
  csr o n r a y =
      by_cond (λ (u : Warp). G (next (write_x r (csr_at n m.warp) u))) (writes_of o a) _ _
      (λ e. by_cond (λ (u : Warp). G (next (write_x r (csr_at n m.warp) u))) (is_print n) _ _ (λ p. refl) (λ p. refl)) (λ e. refl)

  vbranch : (e p : ℕ) → G (parted e p m.warp)
  unfolding parted open_of
  vbranch e p = by_cond G (eqb e 0) _ _ (λ z. refl) (λ z. by_cond G (eqb e m.warp.mask) _ _ (λ q. refl) (λ q. refl))

  joined : G (join_of m.warp)
  unfolding join_of
  joined =
      by_cond G (eqb m.warp.depth 0) _ _ (λ z. refl)
      (λ z. by_cond G (eqb m.warp.pc (last_split m.warp).rpc) _ _ (λ q. by_cond G (last_split m.warp).phaseTwo _ _ (λ s. refl) (λ s. refl)) (λ q. refl))

  setrpc : (r a : XReg) (n : ℕ) → G (set_rpc_of r a n m.warp)
  unfolding set_rpc_of
  setrpc r a n = refl

  pending_kept : (i : Instr) → ((j n : ℕ) → IsPrefix i j n → ⊥) → G (carried_out i m).warp
  unfolding effect_of
  pending_kept I.Refused h = refl
  pending_kept (I.Lui r n) h = refl
  pending_kept (I.Auipc r n) h = refl
  pending_kept (I.Jal r n) h = refl
  pending_kept (I.Jalr r a n) h = refl
  pending_kept (I.Branch c a b n) h = by_cond G (holds_of c (x_of a m) (x_of b m)) _ _ (λ t. refl) (λ t. refl)
  pending_kept (I.Load k r a n) h = refl
  pending_kept (I.Store k a b n) h = refl
  pending_kept (I.OpImm o r a n) h = refl
  pending_kept (I.OpReg o r a b) h = refl
  pending_kept (I.Fence r a n) h = refl
  pending_kept (I.Csr o r a n) h = csr o n r _ _
  pending_kept (I.CsrImm o r i n) h = csr o n r _ _
  pending_kept (I.Vector o a) h = refl
  pending_kept (I.VMove r s) h = refl
  pending_kept (I.VMerge r b s) h = refl
  pending_kept (I.VMoveXS r b) h = refl
  pending_kept (I.VMoveSX r a) h = refl
  pending_kept (I.Vid t r) h = refl
  pending_kept (I.VBranch c a b n) h = vbranch _ _
  pending_kept I.Join h = joined
  pending_kept (I.SetRpc r a n) h = setrpc r a n
  pending_kept I.EndPrg h = refl
  pending_kept (I.Barrier n) h = refl
  pending_kept (I.VLoad s k r a n) h = refl
  pending_kept (I.VStore s k a b n) h = refl
  pending_kept (I.RegExt n) h = absurd (h reg_ext n (ext n))
  pending_kept (I.RegExtI n) h = absurd (h reg_ext_i n (ext_i n))

pub used_up_lem : UsedUp
used_up_lem k m z =
    record {
      own = λ j n p. ap (λ (s : State). s.warp.prefix) (step_taken k m z ∙ prefix_done m p);
      other = λ h. ap (λ (s : State). s.warp.prefix) (step_taken k m z) ∙ pending_kept (used_up m) (instr_at k m) h;
    }

-- ---- a prefix that changes nothing

none_stopped : (b : Bool) → not (b && false) ≡ true
none_stopped true = refl
none_stopped false = refl

still_formed : (w : Warp) → well_formed_of w ≡ true → well_formed_of (with_prefix no_prefix w) ≡ true
unfolding well_formed_of prefix_ok_of
still_formed w e =
    let p = every_at
    (fixed_ok_of w.fixed ∷ aligned w.pc ∷ eqb (get_or w.x 0 0) 0 ∷ leb w.depth split_count ∷ all_zero (drop w.depth w.splits) ∷ not (w.ended && w.waiting)
    ∷ chain_of w.fixed.launchMask w.splits w.depth w.mask ∷ not ((w.ended || w.waiting) && ltb 0 w.depth) ∷ prefix_ok_of w.prefix ∷ not ((w.ended || w.waiting) && pending w.prefix) ∷ []) e in
    simp (p 0, p 1, p 2, p 3, p 4, p 5, p 6, p 7, none_stopped (w.ended || w.waiting))

-- the instruction with the prefix on it, j, and the word's own, i, have one table and one effect
module _ (k : List ℕ) (m : State) (f : well_formed_of m.warp ≡ true)
    (rows : refusals_of (instr_at k m) (used_up m) ≡ refusals_of (instr_at k (used_up m)) (used_up m))
    (done : carried_out (instr_at k m) (used_up m) ≡ carried_out (instr_at k (used_up m)) (used_up m)) where
  same_code : (step_of k m).code ≡ (step_of k (used_up m)).code
  same_code =
      step_rows k m
      ∙ ap₂ (λ (t : Bool) (rs : List (Row Bool)). first (1 ⇒ not (runs_ok_of (fixed_of m) k m.vector m.bytes) ∷ 2 ⇒ not t ∷ (fetch_tests k m.warp ++ rs)))
      (f ∙ sym (still_formed m.warp f)) (sym (tests_used m (instr_at k m)) ∙ rows)
      ∙ sym (step_rows k (used_up m))

  as_alone : AsAlone (step_of k m) (step_of k (used_up m))
  as_alone = record { code = same_code; left = λ z. step_taken k m z ∙ done ∙ sym (step_taken k (used_up m) (sym same_code ∙ z)) }

abbrev word : List ℕ → State → Instr
word k m = decode_of (get_or k (place_of m.warp) 0)

alone_is : (k : List ℕ) (m : State) → instr_at k (used_up m) ≡ word k m
unfolding prefixed
alone_is k m = refl

with_zero : (n : ℕ) → n % 2 ^ 3 ≡ 0 → n / 2 ^ 3 % 2 ^ 3 ≡ 0 → n / 2 ^ 6 % 2 ^ 3 ≡ 0 → (i : Instr) → allowed reg_ext (takes_of i) ≡ true → prefixed (prefix reg_ext n) i ≡ i
unfolding prefixed
with_zero n d a b i u = rw (zero_digits n d a b i, u)

pub zero_digits_same : ZeroDigits
zero_digits_same k m n f p d a b t =
    let e : instr_at k m ≡ instr_at k (used_up m) = rw p (with_zero n d a b (word k m) (rw (alone_is k m) at t)) ∙ sym (alone_is k m) in
    as_alone k m f (ap (λ (i : Instr). refusals_of i (used_up m)) e) (ap (λ (i : Instr). carried_out i (used_up m)) e)

-- ---- a longer immediate of the same value

repeats_extended : (top i : ℕ) → Repeats top i → extend_of 11 (top * 2 ^ 5 + i) ≡ extend_of 5 i
repeats_extended top i (clear l e) = rw (e, lt-ltb (0 * 2 ^ 5 + i) (2 ^ 10) (omega arith), lt-ltb i (2 ^ 4) l) (omega arith)
repeats_extended top i (set l h e) = rw (e, le-ltb (63 * 2 ^ 5 + i) (2 ^ 10) (omega arith), le-ltb i (2 ^ 4) l) (omega arith)

repeats_low : (top i : ℕ) → (top * 2 ^ 5 + i) % 2 ^ 5 ≡ i % 2 ^ 5
repeats_low top i = omega arith

repeats_immediate : (o : Op) (top i : ℕ) → Repeats top i → immediate_of o 11 (top * 2 ^ 5 + i) ≡ immediate_of o 5 i
repeats_immediate o top i r = rw (repeats_extended top i r, repeats_low top i)

record Alike (i j : Instr) (m : State) : Type 0 where
  rows : refusals_of j m ≡ refusals_of i m
  done : carried_out j m ≡ carried_out i m

with_repeats : (n : ℕ) → n % 2 ^ 3 ≡ 0 → n / 2 ^ 3 % 2 ^ 3 ≡ 0 → {i : Instr} → RepeatsIn (n / 2 ^ 6) i → (m : State) → Alike i (prefixed (prefix reg_ext_i n) i) m
unfolding prefixed effect_of refusals_of
with_repeats n d b (operation o r c i u t) m = rw (v_same (n % 2 ^ 3) r d, v_same (n / 2 ^ 3 % 2 ^ 3) c b) (record { rows = refl; done = rw (repeats_immediate o (n / 2 ^ 6) i t) })
with_repeats n d b (move r i t) m = rw (v_same (n % 2 ^ 3) r d) (record { rows = refl; done = rw (repeats_extended (n / 2 ^ 6) i t) })
with_repeats n d b (merge r c i t) m = rw (v_same (n % 2 ^ 3) r d, v_same (n / 2 ^ 3 % 2 ^ 3) c b) (record { rows = refl; done = rw (repeats_extended (n / 2 ^ 6) i t) })

pub zero_digits_i_same : ZeroDigitsI
zero_digits_i_same k m n f p d b t =
    let q : Alike (instr_at k (used_up m)) (instr_at k m) (used_up m) = rw (p, alone_is k m) (with_repeats n d b (rw (alone_is k m) at t) (used_up m)) in
    as_alone k m f q.rows q.done
