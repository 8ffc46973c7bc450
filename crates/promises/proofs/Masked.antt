-- What a masked word leaves alone, and when it is refused.
use Prim.Native.Nat.{ℕ, ◌≤◌, ◌<◌}
use mathlib.Core.Path.{◌≡◌, refl, sym, ap, ◌∙◌}
use mathlib.Core.Bool.{Bool, true, false, not, true≢false}
use mathlib.Core.List.{[], ◌∷◌}
use native.Mathlib.Omega.{arith}
use borrow.Author.Tests.{eqb-true, not-true}
use Rattle.answer.specs.Rows.{◌⇒◌, first, Iff}
use Rattle.answer.proofs.Rows.{both, first_silent, zero_silent}
use Rattle.word.specs.declared.Op.{Op}
use Rattle.word.specs.declared.Op.TheVariants as O
use Rattle.isa.specs.declared.Instr.{Instr}
use Rattle.isa.specs.declared.VReg.{VReg}
use Rattle.isa.specs.Fields.{v}
use Rattle.isa.specs.Masked.{v0, is_v0, is_compare, over_mask}
use Rattle.lanes.specs.declared.Lane.{Lane}
use Rattle.lanes.specs.Lanes.{lanes_max}
use Rattle.lanes.proofs.Laws.{write_unwritten}
use Rattle.definition.specs.State.{State, fixed_of, written, instr_at, used_up}
use Rattle.definition.specs.Refuse.{refusals_of, step_tests}
use Rattle.definition.specs.Exec.{effect, effect_of}
use Rattle.definition.specs.Step.{step_of}
use Rattle.definition.proofs.Sound.{step_clear}
use Rattle.definition.proofs.Tests.{step_rows}
use Rattle.promises.specs.Lanes.{SameLane}
use Rattle.promises.specs.Masked as M
use Rattle.promises.specs.Masked.{InV0, MaskedWord, MaskedOffKept, Maskable, Compares, WritesMask, MaskTests}
use Rattle.promises.proofs.Lanes.{by_step, no_true}
use Rattle.promises.proofs.Twins.{written_in_v0}
use Rattle.promises.proofs.Written.{fixed_of_lem}

-- ---- a lane that is not written

kept_in : (m : State) (i : Instr) → (fixed_of m).numt ≤ lanes_max → (l : Lane) → l.0 < lanes_max → (InV0 m l → ⊥) → MaskedWord i → SameLane l (effect (effect_of i m) m).vector m.vector
unfolding effect_of
kept_in m i n l h o (M.operation p a t) r =
    write_unwritten (written a.masked m) a.vd _ m.vector (fixed_of m).numt n r l h (λ b. no_true _ (λ e. o (written_in_v0 m l a.masked e t)))
kept_in m i n l h o (M.number d) r = write_unwritten (written true m) d _ m.vector (fixed_of m).numt n r l h (λ b. no_true _ (λ e. o (written_in_v0 m l true e refl)))

pub masked_off_kept : MaskedOffKept
masked_off_kept k m w l h o =
    by_step k m (λ n. SameLane l n.vector m.vector) (λ r. refl)
    (λ z. kept_in (used_up m) (instr_at k m) (fixed_of_lem m.warp (step_clear k m z).formed).lanes.1 l h o w)

-- ---- 6

compares_of : (o : Op) → is_compare o ≡ true → Compares o
compares_of O.Add e = absurd (true≢false (sym e))
compares_of O.Sub e = absurd (true≢false (sym e))
compares_of O.Rsub e = absurd (true≢false (sym e))
compares_of O.Sll e = absurd (true≢false (sym e))
compares_of O.Srl e = absurd (true≢false (sym e))
compares_of O.Sra e = absurd (true≢false (sym e))
compares_of O.Slt e = M.vmslt
compares_of O.Sltu e = M.vmsltu
compares_of O.And e = absurd (true≢false (sym e))
compares_of O.Or e = absurd (true≢false (sym e))
compares_of O.Xor e = absurd (true≢false (sym e))
compares_of O.Mul e = absurd (true≢false (sym e))
compares_of O.Mulh e = absurd (true≢false (sym e))
compares_of O.Mulhsu e = absurd (true≢false (sym e))
compares_of O.Mulhu e = absurd (true≢false (sym e))
compares_of O.Div e = absurd (true≢false (sym e))
compares_of O.Divu e = absurd (true≢false (sym e))
compares_of O.Rem e = absurd (true≢false (sym e))
compares_of O.Remu e = absurd (true≢false (sym e))
compares_of O.Min e = absurd (true≢false (sym e))
compares_of O.Minu e = absurd (true≢false (sym e))
compares_of O.Max e = absurd (true≢false (sym e))
compares_of O.Maxu e = absurd (true≢false (sym e))
compares_of O.Seq e = M.vmseq
compares_of O.Sne e = M.vmsne
compares_of O.Sle e = M.vmsle
compares_of O.Sleu e = M.vmsleu
compares_of O.Sgt e = M.vmsgt
compares_of O.Sgtu e = M.vmsgtu

pub is_compare_lem : {o : Op} → Compares o → is_compare o ≡ true
is_compare_lem M.vmseq = refl
is_compare_lem M.vmsne = refl
is_compare_lem M.vmsltu = refl
is_compare_lem M.vmslt = refl
is_compare_lem M.vmsleu = refl
is_compare_lem M.vmsle = refl
is_compare_lem M.vmsgtu = refl
is_compare_lem M.vmsgt = refl

is_v0_lem : (r : VReg) → is_v0 r ≡ true → r ≡ v0
is_v0_lem r e = ap v (eqb-true r.0 0 e)

no_compare : (o : Op) → not (is_compare o) ≡ true → Compares o → ⊥
no_compare o e c = true≢false (sym (is_compare_lem c) ∙ not-true (is_compare o) e)

-- the test, and what it says
over_writes : (i : Instr) → Maskable i → over_mask i ≡ true → WritesMask i
over_writes i (M.operation o a) e =
    let p = both a.masked _ e in
    let q = both (is_v0 a.vd) _ p.1 in
    M.operation o a p.0 (no_compare o q.1) (is_v0_lem a.vd q.0)
over_writes i (M.merge r b s) e = M.merge r b s (is_v0_lem r e)
over_writes i (M.number true r) e = M.number r (is_v0_lem r e)
over_writes i (M.number false r) e = absurd (true≢false (sym e))

writes_over : {i : Instr} → WritesMask i → over_mask i ≡ true
writes_over (M.operation o a t n z) = rw (t, z, no_true (is_compare o) (λ e. n (compares_of o e)))
writes_over (M.merge r b s z) = rw z
writes_over (M.number r z) = rw z

one_row : (m : State) (i : Instr) → Maskable i → first (refusals_of i m) ≡ first (6 ⇒ over_mask i ∷ [])
unfolding refusals_of
one_row m i (M.operation o a) = refl
one_row m i (M.merge r b s) = refl
one_row m i (M.number t r) = refl

-- a table of that one row
passes : (t : Bool) (n : ℕ) → n ≡ first (6 ⇒ t ∷ []) → Iff (n ≡ 0) (t ≡ false)
passes true n e = (λ z. absurd (omega arith), λ f. absurd (true≢false f))
passes false n e = (λ z. refl, λ f. e)

fails : (t : Bool) (n : ℕ) → n ≡ first (6 ⇒ t ∷ []) → Iff (n ≡ 6) (t ≡ true)
fails true n e = (λ z. refl, λ f. e)
fails false n e = (λ z. absurd (omega arith), λ f. absurd (true≢false (sym f)))

pub mask_tests : MaskTests
mask_tests k m w z =
    let i : Instr = instr_at k m in
    let e : (step_of k m).code ≡ first (6 ⇒ over_mask i ∷ []) = step_rows k m ∙ first_silent (step_tests k m) (refusals_of i m) (zero_silent (step_tests k m) refl z) ∙ one_row m i w in
    let p = passes (over_mask i) (step_of k m).code e in
    let q = fails (over_mask i) (step_of k m).code e in
    record {
      taken = (λ c x. true≢false (sym (writes_over x) ∙ p.0 c), λ n. p.1 (no_true (over_mask i) (λ t. n (over_writes i w t))));
      refused = (λ c. over_writes i w (q.0 c), λ x. q.1 (writes_over x));
    }
