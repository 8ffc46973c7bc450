-- What every instruction keeps where none of its tests holds: the warp well formed. (That the lists keep their lengths is the law `within`.)
use Prim.Native.Nat.{ℕ, ◌%◌, ◌<◌, ◌^◌}
use mathlib.Core.Path.{◌≡◌, refl, sym, ap, subst, ◌∙◌}
use mathlib.Core.Bool.{Bool, true, false, not, ◌&&◌, cond, true≢false}
use mathlib.Core.List.{List, [], ◌∷◌}
use native.Mathlib.Omega.{arith}
use lib.Bits.{bit_and}
use lib.Dec.{eqb, leb}
use lib.ListN.{length, get_or}
use borrow.Author.Tests.{eqb-true, eqb-false, eq-eqb, lt-ltb}
use Rattle.answer.specs.Rows.{Row, ◌⇒◌, first}
use Rattle.answer.proofs.Rows.{passed}
use Rattle.word.specs.Word.{holds_of}
use Rattle.isa.specs.declared.Instr.{Instr}
use Rattle.isa.specs.declared.Instr.TheVariants as I
use Rattle.isa.specs.declared.CsrOp.{CsrOp}
use Rattle.isa.specs.declared.XReg.{XReg}
use Rattle.isa.specs.declared.Prefix.{Prefix}
use Rattle.isa.specs.Prefix.{reg_ext, reg_ext_i, prefix, no_prefix, pending, digits_of, on_fields, neither, takes_of, allowed, if_allowed, prefixed}
use Rattle.isa.specs.Decode.{decode_of}
use Rattle.isa.specs.Fits.{ranges_of, Fits}
use Rattle.isa.proofs.Decoded.{decoded}
use Rattle.lanes.proofs.MaskLaws.{part_in}
use Rattle.warp.specs.declared.Warp.{Warp}
use Rattle.warp.specs.Warp.{split_count, aligned, with_pc, write_x, next, pends, next_pc, linked, branched}
use Rattle.warp.specs.WellFormed.{prefix_ok_of, well_formed_of}
use Rattle.warp.specs.Splits.{open_of, parted, set_rpc_of}
use Rattle.warp.proofs.SplitLaws.{by_cond}
use Rattle.warp.specs.Csr.{is_print, writes_of, csr_at, csr_done}
use Rattle.warp.proofs.Moves.{Cuts, unmoved, Moves, opens, joins, leaves, moves_unprefixed}
use Rattle.warp.specs.Facts.{Formed}
use Rattle.warp.proofs.Formed.{formed, well, mask_small, formed_pc, formed_next, formed_x, formed_stop, formed_prefix, formed_unprefixed, formed_print, formed_rpc, formed_setrpc, formed_open, formed_join}
use Rattle.definition.specs.State.{State, fixed_of, x_of, place_of, instr_at, used_up}
use Rattle.definition.specs.Refuse.{runs_ok_of, on_kernel, astray, refusals_of}
use Rattle.definition.specs.Exec.{effect_of}
use Rattle.definition.specs.Step.{carried_out, step_of}
use Rattle.definition.proofs.Used.{tests_used}

-- from the warp w to the warp u
pub record StepSound (w u : Warp) : Type 0 where
  pub formed : Formed u
  pub moves : Moves w u

module _ (w : Warp) (f : Formed w) where
  -- the splits and the mask are as they were
  plain : (u : Warp) → Formed u → u.splits ≡ w.splits → u.depth ≡ w.depth → u.mask ≡ w.mask → u.fixed ≡ w.fixed → StepSound w u
  plain u g s d m x = record { formed = g; moves = leaves (record { splits = s; depth = d; mask = m; fixed = x }) }

  on : StepSound w (next w)
  on = plain _ (formed_next w f) refl refl refl refl

  put : (r : XReg) (y : ℕ) → StepSound w (next (write_x r y w))
  put r y = plain _ (formed_next _ (formed_x w f r y)) refl refl refl refl

  link : (r : XReg) (p : ℕ) → first (8 ⇒ astray p ∷ []) ≡ 0 → StepSound w (linked r p w)
  link r p h = plain _ (formed_pc _ (formed_x w f r (next_pc w)) p (eqb-true _ _ (passed [] [] 8 (aligned p) refl h))) refl refl refl refl

  branch : (t : Bool) (p : ℕ) → first (8 ⇒ (t && astray p) ∷ []) ≡ 0 → StepSound w (branched t p w)
  branch true p h = plain _ (formed_pc w f p (eqb-true _ _ (passed [] [] 8 (aligned p) refl h))) refl refl refl refl
  branch false p h = on

  csr : (o : CsrOp) (n : ℕ) (rd : XReg) (rs1 y : ℕ) → StepSound w (csr_done o n rd rs1 y w)
  unfolding csr_done
  csr o n rd rs1 y =
      by_cond (λ u. StepSound w (next (write_x rd (csr_at n w) u))) (writes_of o rs1) _ _
      (λ e. by_cond (λ u. StepSound w (next (write_x rd (csr_at n w) u))) (is_print n) _ _
      (λ p. plain _ (formed_next _ (formed_x _ (formed_print w f _) rd _)) refl refl refl refl)
      (λ p. plain _ (formed_next _ (formed_x _ (formed_rpc w f _) rd _)) refl refl refl refl))
      (λ e. put rd _)

  setrpc : (r a : XReg) (n : ℕ) → StepSound w (set_rpc_of r a n w)
  unfolding set_rpc_of
  setrpc r a n = plain _ (formed_setrpc r a n w f) refl refl refl refl

module _ (w : Warp) (f : Formed w) (en : w.ended ≡ false) (wa : w.waiting ≡ false) where
  vbranch : (e p : ℕ) → bit_and e w.mask ≡ e → first (8 ⇒ (not (eqb e 0) && astray p) ∷ []) ≡ 0 → StepSound w (parted e p w)
  unfolding parted
  vbranch e p i h = by_cond (StepSound w) (eqb e 0) _ _ (λ z. on w f) (λ z. some z (eqb-true _ _ (passed [] [] 8 (aligned p) refl (rw z at h))))
    where
      some : eqb e 0 ≡ false → p % 4 ≡ 0 → StepSound w (cond (eqb e w.mask) (with_pc p w) (open_of e p w))
      some z a =
          by_cond (StepSound w) (eqb e w.mask) _ _ (λ m. plain w f _ (formed_pc w f p a) refl refl refl refl)
          (λ m. let c : Cuts e p w = record { within = i; some = eqb-false _ _ z; strict = eqb-false _ _ m; aligned = a } in
          record { formed = formed_open w f en wa e p c; moves = opens e p c (unmoved _) })

prefix_ok : (k n : ℕ) → leb k reg_ext_i ≡ true → not (eqb k 0) ≡ true → n < 2 ^ 12 → prefix_ok_of (prefix k n) ≡ true
unfolding prefix_ok_of
prefix_ok k n a b c = rw (a, b, lt-ltb n (2 ^ 12) c)

-- a prefix has 12 bits
abbrev pub ShortPrefix : Instr → Type 0
ShortPrefix i = (n : ℕ) → (i ≡ I.RegExt n → n < 2 ^ 12) × (i ≡ I.RegExtI n → n < 2 ^ 12)

-- where no prefix is pending
module _ (m : State) (f : Formed m.warp) (en : m.warp.ended ≡ false) (wa : m.warp.waiting ≡ false) (np : pending m.warp.prefix ≡ false) where
  abbrev W : Warp
  W = m.warp

  pendingly : (k n : ℕ) → leb k reg_ext_i ≡ true → not (eqb k 0) ≡ true → n < 2 ^ 12 → StepSound W (pends k n W)
  pendingly k n a b c = plain W f _ (formed_next _ (formed_prefix W f (prefix k n) (prefix_ok k n a b c) en wa)) refl refl refl refl

  pub sound : (i : Instr) → ShortPrefix i → first (refusals_of i m) ≡ 0 → StepSound m.warp (carried_out i m).warp
  unfolding effect_of refusals_of
  sound I.Refused q h = absurd (omega arith)
  sound (I.Lui r n) q h = put W f r _
  sound (I.Auipc r n) q h = put W f r _
  sound (I.Jal r n) q h = link W f r _ h
  sound (I.Jalr r a n) q h = link W f r _ h
  sound (I.Branch c a b n) q h = branch W f (holds_of c (x_of a m) (x_of b m)) _ h
  sound (I.Load k r a n) q h = put W f r _
  sound (I.Store k a b n) q h = on W f
  sound (I.OpImm o r a n) q h = put W f r _
  sound (I.OpReg o r a b) q h = put W f r _
  sound (I.Fence r a n) q h = on W f
  sound (I.Csr o r a n) q h = csr W f o n r a.0 _
  sound (I.CsrImm o r i n) q h = csr W f o n r i i
  sound (I.Vector o a) q h = on W f
  sound (I.VMove r s) q h = on W f
  sound (I.VMerge r b s) q h = on W f
  sound (I.VMoveXS r b) q h = put W f r _
  sound (I.VMoveSX r a) q h = on W f
  sound (I.Vid t r) q h = on W f
  sound (I.VBranch c a b n) q h = vbranch W f en wa _ _ (part_in W.mask (fixed_of m).numt _ (mask_small W f)) h
  sound I.Join q h = record { formed = formed_join W f en wa; moves = joins (unmoved _) }
  sound (I.SetRpc r a n) q h = setrpc W f r a n
  sound I.EndPrg q h = plain W f _ (formed_stop W f true false refl (eqb-true _ _ (passed [] [] 11 (eqb W.depth 0) refl h)) np) refl refl refl refl
  sound (I.Barrier n) q h = plain W f _ (formed_next _ (formed_stop W f false true refl (eqb-true _ _ (passed [] [] 11 (eqb W.depth 0) refl h)) np)) refl refl refl refl
  sound (I.VLoad s k r a n) q h = on W f
  sound (I.VStore s k a b n) q h = on W f
  sound (I.RegExt n) q h = pendingly reg_ext n refl refl ((q n).0 refl)
  sound (I.RegExtI n) q h = pendingly reg_ext_i n refl refl ((q n).1 refl)

-- The word's own prefix has 12 bits; a pending prefix makes none of another word.
allowed_not : (p : Prefix) (i j : Instr) → takes_of j ≡ neither → if_allowed p i ≡ j → (j ≡ I.Refused → ⊥) → ⊥
allowed_not p i j t e z = go (allowed p.kind (takes_of i)) refl e
  where
    go : (b : Bool) → allowed p.kind (takes_of i) ≡ b → cond b i I.Refused ≡ j → ⊥
    go true a q = true≢false (sym a ∙ rw (q, t) refl)
    go false a q = z (sym q)

-- an instruction with a field isn't Refused
ranged : {j : Instr} → length (ranges_of j) ≡ 1 → j ≡ I.Refused → ⊥
ranged l e = absurd (omega (arith, ap (λ (i : Instr). length (ranges_of i)) e))

short : (p : Prefix) (i : Instr) → Fits i → (b : Bool) → ShortPrefix (cond b (if_allowed p (on_fields (digits_of p) i)) i)
short p i f true n =
    ((λ e. absurd (allowed_not p (on_fields (digits_of p) i) (I.RegExt n) refl e (ranged refl))), λ e. absurd (allowed_not p (on_fields (digits_of p) i) (I.RegExtI n) refl e (ranged refl)))
short p i f false n = ((λ e. (subst Fits e f).0), λ e. (subst Fits e f).0)

short_prefix : (k : List ℕ) (m : State) → ShortPrefix (instr_at k m)
unfolding prefixed
short_prefix k m = short m.warp.prefix (decode_of (get_or k (place_of m.warp) 0)) (decoded (get_or k (place_of m.warp) 0)) (pending m.warp.prefix)

-- none of the five tests holds, nor any row after them
pub record Clear (a b c d e : Bool) (rs : List (Row Bool)) : Type 0 where
  pub runs : a ≡ true
  pub formed : b ≡ true
  pub ended : c ≡ false
  pub waiting : d ≡ false
  pub on : e ≡ true
  pub rest : first rs ≡ 0

clear : (a b c d e : Bool) (rs : List (Row Bool)) → first (1 ⇒ not a ∷ 2 ⇒ not b ∷ 3 ⇒ c ∷ 4 ⇒ d ∷ 5 ⇒ not e ∷ rs) ≡ 0 → Clear a b c d e rs
clear false b c d e rs h = absurd (omega arith)
clear true false c d e rs h = absurd (omega arith)
clear true true true d e rs h = absurd (omega arith)
clear true true false true e rs h = absurd (omega arith)
clear true true false false false rs h = absurd (omega arith)
clear true true false false true rs h = record { runs = refl; formed = refl; ended = refl; waiting = refl; on = refl; rest = h }

module _ (k : List ℕ) (m : State) (z : (step_of k m).code ≡ 0) where
  pub step_clear : Clear (runs_ok_of (fixed_of m) k m.vector m.bytes) (well_formed_of m.warp) m.warp.ended m.warp.waiting (on_kernel k m.warp) (refusals_of (instr_at k m) m)
  unfolding step_of
  step_clear = clear _ _ _ _ _ (refusals_of (instr_at k m) m) z

  pub step_taken : (step_of k m).left ≡ carried_out (instr_at k m) (used_up m)
  unfolding step_of
  step_taken = rw (eq-eqb _ _ z)

  -- A taken step moves the splits as the three kinds of move do, and keeps the warp well formed.
  pub step_sound : length m.warp.splits ≡ split_count → StepSound m.warp (step_of k m).left.warp
  step_sound n =
      let c = step_clear in
      let i : Instr = instr_at k m in
      let q = sound (used_up m) (formed_unprefixed m.warp (formed m.warp n c.formed)) c.ended c.waiting refl i (short_prefix k m) (rw (tests_used m i) c.rest) in
      rw step_taken (record { formed = q.formed; moves = moves_unprefixed no_prefix m.warp _ q.moves })

  pub step_formed : length m.warp.splits ≡ split_count → well_formed_of (step_of k m).left.warp ≡ true
  step_formed n = well _ (step_sound n).formed
