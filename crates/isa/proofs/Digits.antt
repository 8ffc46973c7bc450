-- Digits on an instruction: those that change nothing, and the scalar registers that there are.
use Prim.Native.Nat.{ℕ, ◌+◌, ◌*◌, ◌/◌, ◌%◌, ◌^◌, ◌<◌}
use mathlib.Core.Path.{◌≡◌, refl, ap, subst}
use mathlib.Core.List.{List, [], ◌∷◌}
use mathlib.Core.Bool.{Bool, true, false, cond, ◌&&◌}
use native.Mathlib.Omega.{arith}
use lib.Dec.{eqb, ltb}
use borrow.Author.Tests.{ltb-true}
use Rattle.isa.specs.declared.XReg.{XReg}
use Rattle.isa.specs.declared.VReg.{VReg}
use Rattle.isa.specs.declared.Source.{Source}
use Rattle.isa.specs.declared.Source.TheVariants as From
use Rattle.isa.specs.declared.Prefix.{Prefix}
use Rattle.isa.specs.declared.Instr.{Instr}
use Rattle.isa.specs.declared.Instr.TheVariants as I
use Rattle.isa.specs.Bounds.{scalar_registers, field_limit}
use Rattle.isa.specs.Fields.{x, v}
use Rattle.isa.specs.Fits.{field_of, source_limit, Fits}
use Rattle.isa.specs.Prefix.{OnFields, reg_ext, pending, ext_of, digits_of, on_source, on_fields, Takes, neither, reg_ext_alone, both, takes_by, takes_of, all_scalars, allowed, prefixed}

-- ---- no digits

record Same (f : OnFields) : Type 0 where
  xd : (r : XReg) → f.xd r ≡ r
  x1 : (r : XReg) → f.x1 r ≡ r
  x2 : (r : XReg) → f.x2 r ≡ r
  vd : (r : VReg) → f.vd r ≡ r
  v1 : (r : VReg) → f.v1 r ≡ r
  v2 : (r : VReg) → f.v2 r ≡ r
  imm : (n : ℕ) → f.imm n ≡ From.I n

module _ (f : OnFields) (h : Same f) where
  source_same : (s : Source) → on_source f s ≡ s
  source_same (From.V r) = rw (h.v1 r)
  source_same (From.X r) = rw (h.x1 r)
  source_same (From.I n) = h.imm n
  source_same (From.Long n) = refl

  same : (i : Instr) → on_fields f i ≡ i
  same I.Refused = refl
  same (I.Lui r n) = rw (h.xd r)
  same (I.Auipc r n) = rw (h.xd r)
  same (I.Jal r n) = rw (h.xd r)
  same (I.Jalr r a n) = rw (h.xd r, h.x1 a)
  same (I.Branch o a b n) = rw (h.x1 a, h.x2 b)
  same (I.Load o r a n) = rw (h.xd r, h.x1 a)
  same (I.Store o a b n) = rw (h.x1 a, h.x2 b)
  same (I.OpImm o r a n) = rw (h.xd r, h.x1 a)
  same (I.OpReg o r a b) = rw (h.xd r, h.x1 a, h.x2 b)
  same (I.Fence r a n) = refl
  same (I.Csr o r a n) = rw (h.xd r, h.x1 a)
  same (I.CsrImm o r i n) = rw (h.xd r)
  same (I.Vector o a) = rw (h.vd a.vd, h.v2 a.vs2, source_same a.src)
  same (I.VMove r s) = rw (h.vd r, source_same s)
  same (I.VMerge r b s) = rw (h.vd r, h.v2 b, source_same s)
  same (I.VMoveXS r b) = rw (h.xd r, h.v2 b)
  same (I.VMoveSX r a) = rw (h.vd r, h.x1 a)
  same (I.Vid t r) = rw (h.vd r)
  same (I.VBranch o a b n) = rw (h.v1 a, h.v2 b)
  same I.Join = refl
  same (I.SetRpc r a n) = rw (h.xd r, h.x1 a)
  same I.EndPrg = refl
  same (I.Barrier n) = refl
  same (I.VLoad s o r a n) = rw (h.vd r, h.v1 a)
  same (I.VStore s o a b n) = rw (h.v1 a, h.v2 b)
  same (I.RegExt n) = refl
  same (I.RegExtI n) = refl

pub x_same : (d : ℕ) (r : XReg) → d ≡ 0 → x (d * 2 ^ 5 + r.0) ≡ r
x_same d r e = ap x (omega arith)

pub v_same : (d : ℕ) (r : VReg) → d ≡ 0 → v (d * 2 ^ 5 + r.0) ≡ r
v_same d r e = ap v (omega arith)

-- a REGEXT whose digits are all 0, whatever x3 is
pub zero_digits : (n : ℕ) → n % 2 ^ 3 ≡ 0 → n / 2 ^ 3 % 2 ^ 3 ≡ 0 → n / 2 ^ 6 % 2 ^ 3 ≡ 0 → (i : Instr) → on_fields (ext_of n) i ≡ i
zero_digits n d a b =
    same (ext_of n)
    (record { xd = λ r. x_same _ r d; x1 = λ r. x_same _ r a; x2 = λ r. x_same _ r b; vd = λ r. v_same _ r d; v1 = λ r. v_same _ r a; v2 = λ r. v_same _ r b; imm = λ i. refl })

-- ---- the scalar registers that an instruction names

-- there are such scalar registers
abbrev pub Scalars : List XReg → Type 0
Scalars [] = Unit {0}
Scalars (r ∷ rs) = (r.0 < scalar_registers) × Scalars rs

-- takes_of lists them all: what takes no prefix, and a VI form, names none
abbrev pub ScalarsOf : Takes → Type 0
ScalarsOf neither = Unit {0}
ScalarsOf (reg_ext_alone rs) = Scalars rs
ScalarsOf both = Unit {0}

and_true : (a b : Bool) → (a && b) ≡ true → (a ≡ true) × (b ≡ true)
and_true true b e = (refl, e)
and_true false true e = (e, refl)
and_true false false e = (e, e)

scalars : (rs : List XReg) → all_scalars rs ≡ true → Scalars rs
scalars [] e = tt
scalars (r ∷ rs) e =
    let t = and_true (ltb r.0 scalar_registers) (all_scalars rs) e in
    (ltb-true r.0 scalar_registers t.0, scalars rs t.1)

pub scalars_of : (k : ℕ) (t : Takes) → allowed k t ≡ true → ScalarsOf t
scalars_of k neither e = tt
scalars_of k (reg_ext_alone rs) e = scalars rs (and_true (eqb k reg_ext) (all_scalars rs) e).1
scalars_of k both e = tt

-- a decoded instruction's are below 32: a field has five bits
low : {n : ℕ} → n < field_limit → n < scalar_registers
low h = omega arith

source_low : (s : Source) → field_of s < source_limit s → ScalarsOf (takes_by s)
source_low (From.V r) h = tt
source_low (From.X r) h = (low h, tt)
source_low (From.I n) h = tt
source_low (From.Long n) h = tt

pub fits_low : (i : Instr) → Fits i → ScalarsOf (takes_of i)
fits_low I.Refused h = tt
fits_low (I.Lui r n) h = (low h.0, tt)
fits_low (I.Auipc r n) h = (low h.0, tt)
fits_low (I.Jal r n) h = (low h.0, tt)
fits_low (I.Jalr r a n) h = (low h.0, (low h.1.0, tt))
fits_low (I.Branch o a b n) h = (low h.0, (low h.1.0, tt))
fits_low (I.Load o r a n) h = (low h.0, (low h.1.0, tt))
fits_low (I.Store o a b n) h = (low h.0, (low h.1.0, tt))
fits_low (I.OpImm o r a n) h = (low h.0, (low h.1.0, tt))
fits_low (I.OpReg o r a b) h = (low h.0, (low h.1.0, (low h.1.1.0, tt)))
fits_low (I.Fence r a n) h = tt
fits_low (I.Csr o r a n) h = (low h.0, (low h.1.0, tt))
fits_low (I.CsrImm o r i n) h = (low h.0, tt)
fits_low (I.Vector o a) h = source_low a.src h.1.1.0
fits_low (I.VMove r s) h = source_low s h.1.0
fits_low (I.VMerge r b s) h = source_low s h.1.1.0
fits_low (I.VMoveXS r b) h = (low h.0, tt)
fits_low (I.VMoveSX r a) h = (low h.1.0, tt)
fits_low (I.Vid t r) h = tt
fits_low (I.VBranch o a b n) h = tt
fits_low I.Join h = tt
fits_low (I.SetRpc r a n) h = (low h.0, (low h.1.0, tt))
fits_low I.EndPrg h = tt
fits_low (I.Barrier n) h = tt
fits_low (I.VLoad s o r a n) h = tt
fits_low (I.VStore s o a b n) h = tt
fits_low (I.RegExt n) h = tt
fits_low (I.RegExtI n) h = tt

-- where the prefix changes nothing but registers, there are those that it names
pub scalars_taken : (p : Prefix) (i : Instr) → pending p ≡ true → prefixed p i ≡ on_fields (digits_of p) i → ScalarsOf (takes_of (on_fields (digits_of p) i))
unfolding prefixed
scalars_taken p i t e = go (allowed p.kind (takes_of (on_fields (digits_of p) i))) refl (rw t at e)
  where
    go : (b : Bool) → allowed p.kind (takes_of (on_fields (digits_of p) i)) ≡ b → cond b (on_fields (digits_of p) i) I.Refused ≡ on_fields (digits_of p) i → ScalarsOf (takes_of (on_fields (digits_of p) i))
    go true a q = scalars_of p.kind (takes_of (on_fields (digits_of p) i)) a
    go false a q = subst (λ (k : Instr). ScalarsOf (takes_of k)) q tt
