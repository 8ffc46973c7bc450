-- The prefixes REGEXT and REGEXTI: the instruction that the next word's becomes, or that it is refused (6).
use Rattle.std.specs.Prelude.{ℕ, ◌+◌, ◌*◌, ◌/◌, ◌%◌, ◌^◌, List, [], ◌∷◌, Bool, true, false, not, cond, ◌&&◌, eqb, ltb}
use Rattle.isa.specs.declared.XReg.{XReg}
use Rattle.isa.specs.declared.VReg.{VReg}
use Rattle.isa.specs.declared.Source.{Source}
use Rattle.isa.specs.declared.Source.TheVariants as From
use Rattle.isa.specs.declared.Prefix.{Prefix}
use Rattle.isa.specs.declared.Instr.{Instr}
use Rattle.isa.specs.declared.Instr.TheVariants as I
use Rattle.isa.specs.Bounds.{scalar_registers}
use Rattle.isa.specs.Fields.{x, v}

-- ---- a pending prefix: its kind and its 12 bits

abbrev pub reg_ext : ℕ
reg_ext = 1

abbrev pub reg_ext_i : ℕ
reg_ext_i = 2

abbrev pub prefix : ℕ → ℕ → Prefix
prefix k n = record { kind = k; bits = n }

abbrev pub no_prefix : Prefix
no_prefix = prefix 0 0

abbrev pub pending : Prefix → Bool
pending p = not (eqb p.kind 0)

-- ---- what it puts on the fields of an instruction

-- what becomes of a register in the field of rd, rs1 or rs2, scalar or vector, and of a VI form's immediate
pub record OnFields : Type 0 where
  pub xd : XReg → XReg
  pub x1 : XReg → XReg
  pub x2 : XReg → XReg
  pub vd : VReg → VReg
  pub v1 : VReg → VReg
  pub v2 : VReg → VReg
  pub imm : ℕ → Source

-- a register's number is digit·32 + field
abbrev pub x_up : ℕ → XReg → XReg
x_up d r = x (d * 2 ^ 5 + r.0)

abbrev pub v_up : ℕ → VReg → VReg
v_up d r = v (d * 2 ^ 5 + r.0)

abbrev pub by_digits : ℕ → ℕ → ℕ → (ℕ → Source) → OnFields
by_digits d a b f = record { xd = x_up d; x1 = x_up a; x2 = x_up b; vd = v_up d; v1 = v_up a; v2 = v_up b; imm = f }

-- REGEXT: the digits x3 (bits 11 to 9), which no word has a field for, x2 (8 to 6), x1 (5 to 3), xd (2 to 0)
abbrev pub ext_of : ℕ → OnFields
ext_of n = by_digits (n % 2 ^ 3) (n / 2 ^ 3 % 2 ^ 3) (n / 2 ^ 6 % 2 ^ 3) From.I

-- REGEXTI: the immediate's bits 10 to 5 (bits 11 to 6), on top of the word's five; x2 (5 to 3), xd (2 to 0)
abbrev pub ext_iof : ℕ → OnFields
ext_iof n = by_digits (n % 2 ^ 3) 0 (n / 2 ^ 3 % 2 ^ 3) (λ i. From.Long (n / 2 ^ 6 * 2 ^ 5 + i))

abbrev pub digits_of : Prefix → OnFields
digits_of p = cond (eqb p.kind reg_ext) (ext_of p.bits) (ext_iof p.bits)

abbrev pub on_source : OnFields → Source → Source
on_source f (From.V r) = From.V (f.v1 r)
on_source f (From.X r) = From.X (f.x1 r)
on_source f (From.I n) = f.imm n
on_source f (From.Long n) = From.Long n

abbrev pub on_fields : OnFields → Instr → Instr
on_fields f I.Refused = I.Refused
on_fields f (I.Lui r n) = I.Lui (f.xd r) n
on_fields f (I.Auipc r n) = I.Auipc (f.xd r) n
on_fields f (I.Jal r n) = I.Jal (f.xd r) n
on_fields f (I.Jalr r a n) = I.Jalr (f.xd r) (f.x1 a) n
on_fields f (I.Branch o a b n) = I.Branch o (f.x1 a) (f.x2 b) n
on_fields f (I.Load o r a n) = I.Load o (f.xd r) (f.x1 a) n
on_fields f (I.Store o a b n) = I.Store o (f.x1 a) (f.x2 b) n
on_fields f (I.OpImm o r a n) = I.OpImm o (f.xd r) (f.x1 a) n
on_fields f (I.OpReg o r a b) = I.OpReg o (f.xd r) (f.x1 a) (f.x2 b)
on_fields f (I.Fence r a n) = I.Fence r a n
on_fields f (I.Csr o r a n) = I.Csr o (f.xd r) (f.x1 a) n
on_fields f (I.CsrImm o r i n) = I.CsrImm o (f.xd r) i n
on_fields f (I.Vector o a) = I.Vector o (record { vd = f.vd a.vd; vs2 = f.v2 a.vs2; src = on_source f a.src; masked = a.masked })
on_fields f (I.VMove r s) = I.VMove (f.vd r) (on_source f s)
on_fields f (I.VMerge r b s) = I.VMerge (f.vd r) (f.v2 b) (on_source f s)
on_fields f (I.VMoveXS r b) = I.VMoveXS (f.xd r) (f.v2 b)
on_fields f (I.VMoveSX r a) = I.VMoveSX (f.vd r) (f.x1 a)
on_fields f (I.Vid t r) = I.Vid t (f.vd r)
on_fields f (I.VBranch o a b n) = I.VBranch o (f.v1 a) (f.v2 b) n
on_fields f I.Join = I.Join
on_fields f (I.SetRpc r a n) = I.SetRpc (f.xd r) (f.x1 a) n
on_fields f I.EndPrg = I.EndPrg
on_fields f (I.Barrier n) = I.Barrier n
on_fields f (I.VLoad s o r a n) = I.VLoad s o (f.vd r) (f.v1 a) n
on_fields f (I.VStore s o a b n) = I.VStore s o (f.v1 a) (f.v2 b) n
on_fields f (I.RegExt n) = I.RegExt n
on_fields f (I.RegExtI n) = I.RegExtI n

-- ---- which words take it

-- no prefix; REGEXT alone, and these are the word's scalar registers; REGEXTI too, as a VI form
pub data Takes : Type 0 where
  neither : Takes
  reg_ext_alone : List XReg → Takes
  both : Takes

abbrev pub takes_by : Source → Takes
takes_by (From.V r) = reg_ext_alone []
takes_by (From.X r) = reg_ext_alone (r ∷ [])
takes_by (From.I n) = both
takes_by (From.Long n) = both

abbrev pub takes_of : Instr → Takes
takes_of I.Refused = neither
takes_of (I.Lui r n) = reg_ext_alone (r ∷ [])
takes_of (I.Auipc r n) = reg_ext_alone (r ∷ [])
takes_of (I.Jal r n) = reg_ext_alone (r ∷ [])
takes_of (I.Jalr r a n) = reg_ext_alone (r ∷ a ∷ [])
takes_of (I.Branch o a b n) = reg_ext_alone (a ∷ b ∷ [])
takes_of (I.Load o r a n) = reg_ext_alone (r ∷ a ∷ [])
takes_of (I.Store o a b n) = reg_ext_alone (a ∷ b ∷ [])
takes_of (I.OpImm o r a n) = reg_ext_alone (r ∷ a ∷ [])
takes_of (I.OpReg o r a b) = reg_ext_alone (r ∷ a ∷ b ∷ [])
takes_of (I.Fence r a n) = reg_ext_alone []
takes_of (I.Csr o r a n) = reg_ext_alone (r ∷ a ∷ [])
takes_of (I.CsrImm o r i n) = reg_ext_alone (r ∷ [])
takes_of (I.Vector o a) = takes_by a.src
takes_of (I.VMove r s) = takes_by s
takes_of (I.VMerge r b s) = takes_by s
takes_of (I.VMoveXS r b) = reg_ext_alone (r ∷ [])
takes_of (I.VMoveSX r a) = reg_ext_alone (a ∷ [])
takes_of (I.Vid t r) = reg_ext_alone []
takes_of (I.VBranch o a b n) = neither
takes_of I.Join = neither
takes_of (I.SetRpc r a n) = reg_ext_alone (r ∷ a ∷ [])
takes_of I.EndPrg = neither
takes_of (I.Barrier n) = neither
takes_of (I.VLoad s o r a n) = reg_ext_alone []
takes_of (I.VStore s o a b n) = reg_ext_alone []
takes_of (I.RegExt n) = neither
takes_of (I.RegExtI n) = neither

-- there are such scalar registers
abbrev pub all_scalars : List XReg → Bool
all_scalars [] = true
all_scalars (r ∷ rs) = ltb r.0 scalar_registers && all_scalars rs

abbrev pub allowed : ℕ → Takes → Bool
allowed k neither = false
allowed k (reg_ext_alone rs) = eqb k reg_ext && all_scalars rs
allowed k both = true

-- ---- the instruction with the pending prefix on it, or Refused

abbrev pub if_allowed : Prefix → Instr → Instr
if_allowed p i = cond (allowed p.kind (takes_of i)) i I.Refused

unfoldable pub prefixed : Prefix → Instr → Instr
prefixed p i = cond (pending p) (if_allowed p (on_fields (digits_of p) i)) i
