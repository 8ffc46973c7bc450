-- x64 and above are never read or written: an instruction that is carried out names no such register.
use Prim.Native.Nat.{ℕ, ◌≤◌, ◌<◌}
use mathlib.Core.Path.{◌≡◌, refl, ap}
use mathlib.Core.Bool.{Bool, true, false, cond}
use mathlib.Core.List.{List, ◌++◌}
use native.Mathlib.Omega.{arith}
use lib.Dec.{eqb}
use lib.ListN.{length, get_or, set, get_or-append}
use lib.Seq.{set-append_left}
use Rattle.answer.specs.Rows.{first}
use Rattle.word.specs.Word.{extend_of, holds_of}
use Rattle.isa.specs.declared.CsrOp.{CsrOp}
use Rattle.isa.specs.declared.Instr.{Instr}
use Rattle.isa.specs.declared.Instr.TheVariants as I
use Rattle.isa.specs.declared.Source.{Source}
use Rattle.isa.specs.declared.Source.TheVariants as From
use Rattle.isa.specs.declared.XReg.{XReg}
use Rattle.isa.specs.Bounds.{scalar_registers}
use Rattle.isa.specs.Decode.{decode_of}
use Rattle.isa.specs.Prefix.{pending, digits_of, on_fields, takes_by, takes_of, allowed, if_allowed, prefixed}
use Rattle.isa.proofs.Decoded.{decoded}
use Rattle.isa.proofs.Digits.{ScalarsOf, scalars_of, fits_low}
use Rattle.warp.specs.declared.Warp.{Warp}
use Rattle.warp.specs.Warp.{set_x, read_x, with_x, with_pc, with_rpc, with_print, write_x, next, branched}
use Rattle.warp.specs.WellFormed.{well_formed_of}
use Rattle.warp.specs.Splits.{open_of, parted, last_split, join_of, set_rpc_of}
use Rattle.warp.specs.Csr.{is_print, writes_of, csr_new, csr_at, csr_done}
use Rattle.warp.proofs.SplitLaws.{by_cond, join_through}
use Rattle.definition.specs.State.{State, outcome, x_of, pc_by, else_of, place_of, instr_at, used_up}
use Rattle.definition.specs.Refuse.{refusals_of, tests_of}
use Rattle.definition.specs.Exec.{effect_of, immediate_of, source_of}
use Rattle.definition.specs.Step.{carried_out, step_of}
use Rattle.promises.specs.High.{with_more, HighUntouched}

-- ---- which scalar registers an instruction names

abbrev Low : Instr → Type 0
Low i = ScalarsOf (takes_of i)

low_at : (k : List ℕ) (m : State) → Low (instr_at k m)
unfolding prefixed
low_at k m =
    let p = m.warp.prefix in
    let w : ℕ = get_or k (place_of m.warp) 0 in
    let j : Instr = on_fields (digits_of p) (decode_of w) in
    by_cond Low (pending p) (if_allowed p j) (decode_of w) (λ e. by_cond Low (allowed p.kind (takes_of j)) j I.Refused (λ a. scalars_of p.kind (takes_of j) a) (λ a. tt))
    (λ e. fits_low (decode_of w) (decoded w))

-- ---- what it does with more registers

-- what is done to both sides of a choice is done to the choice
choice : {A B : Type 0} (f : A → B) (b : Bool) (x y : A) → cond b (f x) (f y) ≡ f (cond b x y)
choice f true x y = refl
choice f false x y = refl

-- VBRANCH and a CSR word, by what they ask
abbrev part_by : ℕ → ℕ → Bool → Bool → Warp → Warp
part_by e p b c w = cond b (next w) (cond c (with_pc p w) (open_of e p w))

abbrev csr_by : XReg → ℕ → ℕ → Bool → Bool → Warp → Warp
csr_by r old new b c w = next (write_x r old (cond b (cond c (with_print new w) (with_rpc new w)) w))

module _ (t : List ℕ) where
  abbrev more : Warp → Warp
  more w = with_x (w.x ++ t) w

  branches : (b : Bool) (p : ℕ) (w : Warp) → branched b p (more w) ≡ more (branched b p w)
  branches b p w = choice more b (with_pc p w) (next w)

  parts : (e p : ℕ) (w : Warp) → parted e p (more w) ≡ more (parted e p w)
  unfolding parted open_of
  parts e p w = go (eqb e 0) (eqb e w.mask)
    where
      go : (b c : Bool) → part_by e p b c (more w) ≡ more (part_by e p b c w)
      go true c = refl
      go false true = refl
      go false false = refl

  joins : (w : Warp) → join_of (more w) ≡ more (join_of w)
  unfolding join_of
  joins w = join_through more (last_split w) w refl refl refl (eqb w.depth 0) (eqb w.pc (last_split w).rpc) (last_split w).phaseTwo

  module _ (w : Warp) (l : scalar_registers ≤ length w.x) where
    -- a register below 64 lies before the words of t
    reads : (r : XReg) → r.0 < scalar_registers → read_x r (more w) ≡ read_x r w
    reads r h = get_or-append w.x t 0 r.0 (omega arith)

    puts : (r : XReg) → r.0 < scalar_registers → (y : ℕ) → set_x r y (w.x ++ t) ≡ set_x r y w.x ++ t
    puts r h y = go (eqb r.0 0)
      where
        go : (b : Bool) → cond b (w.x ++ t) (set (w.x ++ t) r.0 y) ≡ cond b w.x (set w.x r.0 y) ++ t
        go true = refl
        go false = set-append_left w.x t r.0 y (omega arith)

    formed_more : well_formed_of (more w) ≡ well_formed_of w
    unfolding well_formed_of
    formed_more = rw (get_or-append w.x t 0 0 (omega arith))

    csr : (o : CsrOp) (n : ℕ) (r : XReg) → r.0 < scalar_registers → (a y : ℕ) → csr_done o n r a y (more w) ≡ more (csr_done o n r a y w)
    unfolding csr_done csr_at
    csr o n r h a y = go (csr_at n w) (csr_new o (csr_at n w) y) (writes_of o a) (is_print n)
      where
        go : (old new : ℕ) (b c : Bool) → csr_by r old new b c (more w) ≡ more (csr_by r old new b c w)
        go old new true true = rw (puts r h)
        go old new true false = rw (puts r h)
        go old new false c = rw (puts r h)

    setrpc : (r a : XReg) (n : ℕ) → r.0 < scalar_registers → a.0 < scalar_registers → set_rpc_of r a n (more w) ≡ more (set_rpc_of r a n w)
    unfolding set_rpc_of
    setrpc r a n h g = rw (reads a g, puts r h)

  module _ (m : State) (l : scalar_registers ≤ length m.warp.x) where
    x_same : (r : XReg) → r.0 < scalar_registers → x_of r (with_more t m) ≡ x_of r m
    x_same = reads m.warp l

    put : (r : XReg) → r.0 < scalar_registers → (y : ℕ) → set_x r y (m.warp.x ++ t) ≡ set_x r y m.warp.x ++ t
    put = puts m.warp l

    source : (f : ℕ → ℕ → ℕ) (s : Source) → ScalarsOf (takes_by s) → source_of f s (with_more t m) ≡ source_of f s m
    source f (From.V r) h = refl
    source f (From.X r) h = rw (x_same r h.0)
    source f (From.I n) h = refl
    source f (From.Long n) h = refl

    rows_more : (i : Instr) → Low i → refusals_of i (with_more t m) ≡ refusals_of i m
    unfolding refusals_of
    rows_more I.Refused h = refl
    rows_more (I.Lui r n) h = refl
    rows_more (I.Auipc r n) h = refl
    rows_more (I.Jal r n) h = refl
    rows_more (I.Jalr r a n) h = rw (x_same a h.1.0)
    rows_more (I.Branch c a b n) h = rw (x_same a h.0, x_same b h.1.0)
    rows_more (I.Load k r a n) h = rw (x_same a h.1.0)
    rows_more (I.Store k a b n) h = rw (x_same a h.0)
    rows_more (I.OpImm o r a n) h = refl
    rows_more (I.OpReg o r a b) h = refl
    rows_more (I.Fence r a n) h = refl
    rows_more (I.Csr o r a n) h = refl
    rows_more (I.CsrImm o r i n) h = refl
    rows_more (I.Vector o a) h = refl
    rows_more (I.VMove r s) h = refl
    rows_more (I.VMerge r b s) h = refl
    rows_more (I.VMoveXS r b) h = refl
    rows_more (I.VMoveSX r a) h = refl
    rows_more (I.Vid t r) h = refl
    rows_more (I.VBranch c a b n) h = refl
    rows_more I.Join h = refl
    rows_more (I.SetRpc r a n) h = refl
    rows_more I.EndPrg h = refl
    rows_more (I.Barrier n) h = refl
    rows_more (I.VLoad s k r a n) h = refl
    rows_more (I.VStore s k a b n) h = refl
    rows_more (I.RegExt n) h = refl
    rows_more (I.RegExtI n) h = refl

    done_more : (i : Instr) → Low i → carried_out i (with_more t m) ≡ with_more t (carried_out i m)
    unfolding effect_of
    done_more I.Refused h = refl
    done_more (I.Lui r n) h = rw (put r h.0)
    done_more (I.Auipc r n) h = rw (put r h.0)
    done_more (I.Jal r n) h = rw (put r h.0)
    done_more (I.Jalr r a n) h = rw (x_same a h.1.0, put r h.0)
    done_more (I.Branch c a b n) h = rw (x_same a h.0, x_same b h.1.0, branches (holds_of c (x_of a m) (x_of b m)) (pc_by 13 n m) m.warp)
    done_more (I.Load k r a n) h = rw (x_same a h.1.0, put r h.0)
    done_more (I.Store k a b n) h = rw (x_same a h.0, x_same b h.1.0)
    done_more (I.OpImm o r a n) h = rw (x_same a h.1.0, put r h.0)
    done_more (I.OpReg o r a b) h = rw (x_same a h.1.0, x_same b h.1.1.0, put r h.0)
    done_more (I.Fence r a n) h = refl
    done_more (I.Csr o r a n) h = rw (x_same a h.1.0, csr m.warp l o n r h.0 a.0 (x_of a m))
    done_more (I.CsrImm o r i n) h = rw (csr m.warp l o n r h.0 i i)
    done_more (I.Vector o a) h = rw (source (immediate_of o) a.src h)
    done_more (I.VMove r s) h = rw (source extend_of s h)
    done_more (I.VMerge r b s) h = rw (source extend_of s h)
    done_more (I.VMoveXS r b) h = rw (put r h.0)
    done_more (I.VMoveSX r a) h = rw (x_same a h.0)
    done_more (I.Vid t r) h = refl
    done_more (I.VBranch c a b n) h = rw (parts (else_of c a b m) (pc_by 13 n m) m.warp)
    done_more I.Join h = rw (joins m.warp)
    done_more (I.SetRpc r a n) h = rw (setrpc m.warp l r a n h.0 h.1.0)
    done_more I.EndPrg h = refl
    done_more (I.Barrier n) h = refl
    done_more (I.VLoad s k r a n) h = refl
    done_more (I.VStore s k a b n) h = refl
    done_more (I.RegExt n) h = refl
    done_more (I.RegExtI n) h = refl

-- ---- the promise

pub high_untouched : HighUntouched
unfolding step_of
high_untouched k t m l =
    let i : Instr = instr_at k m in
    let b : scalar_registers ≤ length m.warp.x = omega arith in
    rw (formed_more t m.warp b, rows_more t m b i (low_at k m), done_more t (used_up m) b i (low_at k m))
    (ap (outcome (first (tests_of k m))) (choice (with_more t) (eqb (first (tests_of k m)) 0) (carried_out i (used_up m)) m))
