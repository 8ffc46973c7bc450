-- A CSR word, case by case.
use Prim.Native.Nat.{ℕ}
use mathlib.Core.Path.{◌≡◌}
use mathlib.Core.Bool.{true, false}
use Rattle.isa.specs.declared.CsrOp.{CsrOp}
use Rattle.isa.specs.declared.XReg.{XReg}
use Rattle.warp.specs.declared.Warp.{Warp}
use Rattle.warp.specs.Warp.{write_x, next}
use Rattle.warp.specs.Csr.{csr_at, csr_new, with_csr, csr_done, writes_of}

module _ (op : CsrOp) (n : ℕ) (rd : XReg) (rs1 y : ℕ) (w : Warp) where
  pub csr_reads : writes_of op rs1 ≡ false → next (write_x rd (csr_at n w) w) ≡ csr_done op n rd rs1 y w
  unfolding csr_done
  csr_reads t = rw t

  pub csr_writes : writes_of op rs1 ≡ true → next (write_x rd (csr_at n w) (with_csr n (csr_new op (csr_at n w) y) w)) ≡ csr_done op n rd rs1 y w
  unfolding csr_done
  csr_writes t = rw t
