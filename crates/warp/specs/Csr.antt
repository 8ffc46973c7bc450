-- The CSRs from 0x800 on.
use Rattle.std.specs.Prelude.{ℕ, ◌-◌, ◌*◌, Bool, true, not, cond, List, [], ◌∷◌, eqb, get_or}
use Rattle.std.specs.Int.Bits.{bit_and, bit_or}
use Rattle.answer.specs.Rows.{between}
use Rattle.isa.specs.declared.CsrOp.{CsrOp}
use Rattle.isa.specs.declared.CsrOp.TheVariants.{Rw, Rs, Rc}
use Rattle.isa.specs.declared.XReg.{XReg}
use Rattle.warp.specs.declared.Fixed.{Fixed}
use Rattle.warp.specs.declared.Warp.{Warp}
use Rattle.warp.specs.Warp.{with_rpc, with_print, write_x, next}

-- TID: the number of the warp's first thread in its group
abbrev pub tid_of : Fixed → ℕ
tid_of f = f.wid * f.numt

-- TID, NUMW, NUMT, KNL, WGID, WID, LDS, PDS, GIDX, GIDY, GIDZ, PRINT, RPC
abbrev pub csrs : Warp → List ℕ
csrs w =
    tid_of w.fixed
    ∷ w.fixed.numw
    ∷ w.fixed.numt
    ∷ w.fixed.knl
    ∷ w.fixed.wgid
    ∷ w.fixed.wid
    ∷ w.fixed.lds
    ∷ w.fixed.pds
    ∷ w.fixed.gidx
    ∷ w.fixed.gidy
    ∷ w.fixed.gidz
    ∷ w.print
    ∷ w.rpc
    ∷ []

abbrev pub is_csr : ℕ → Bool
is_csr n = between 0x800 n 0x80c

-- PRINT and RPC can be written
abbrev pub is_print : ℕ → Bool
is_print n = eqb n 0x80b

abbrev pub is_rpc : ℕ → Bool
is_rpc n = eqb n 0x80c

unfoldable pub csr_at : ℕ → Warp → ℕ
csr_at n w = get_or (csrs w) (n - 0x800) 0

abbrev pub with_csr : ℕ → ℕ → Warp → Warp
with_csr n y w = cond (is_print n) (with_print y w) (with_rpc y w)

-- CSRRS and CSRRC write nothing where rs1 is 0: the register's number, or the field of the immediate forms
abbrev pub writes_of : CsrOp → ℕ → Bool
writes_of Rw rs1 = true
writes_of Rs rs1 = not (eqb rs1 0)
writes_of Rc rs1 = not (eqb rs1 0)

-- the new value: y itself, the old one with y's bits set, the old one with y's bits cleared
abbrev pub csr_new : CsrOp → ℕ → ℕ → ℕ
csr_new Rw old y = y
csr_new Rs old y = bit_or old y
csr_new Rc old y = old - bit_and old y

-- a CSR word: rd gets the old value of CSR n, and the CSR its new one; y is the operand, the word of register rs1 or, in the immediate forms, the field rs1 itself
unfoldable pub csr_done : CsrOp → ℕ → XReg → ℕ → ℕ → Warp → Warp
csr_done op n rd rs1 y w = next (write_x rd (csr_at n w) (cond (writes_of op rs1) (with_csr n (csr_new op (csr_at n w) y) w) w))
