-- The range of each field of an instruction. Every decoded instruction is in these ranges (proofs/Decoded.antt), so that its word can be made again from it (crate encoding). What the code may assume of a field that it reads is in the contracts of src/fields.rt.
use Rattle.std.specs.Prelude.{ℕ, ◌%◌, ◌^◌, ◌<◌, List, [], ◌∷◌, ◌++◌, Bool, true, false, cond, ◌&&◌, ◌||◌, T, eqb, ltb}
use Rattle.answer.specs.Rows.{Row, ◌⇒◌}
use Rattle.word.specs.declared.Op.{Op}
use Rattle.isa.specs.declared.XReg.{XReg}
use Rattle.isa.specs.declared.VReg.{VReg}
use Rattle.isa.specs.declared.Source.{Source}
use Rattle.isa.specs.declared.Source.TheVariants as From
use Rattle.isa.specs.declared.Instr.{Instr}
use Rattle.isa.specs.declared.Instr.TheVariants as I
use Rattle.isa.specs.declared.Space.{Space}
use Rattle.isa.specs.declared.Space.TheVariants.{Plain, Private}
use Rattle.isa.specs.Bounds.{field_limit}
use Rattle.isa.specs.Scalar.{immediates, left_shifts, right_shifts, base, multiplies, alternates}
use Rattle.isa.specs.Vector.{OpForms, has, vector_table, multiply_table}
use Rattle.isa.specs.Number.{number}

-- a number that stays under a bound, or an op that a table has
infix 68 ◌under◌ ◌listed◌
pub data Range : Type 0 where
  ◌under◌ : ℕ → ℕ → Range
  ◌listed◌ : Op → List (Row Op) → Range

abbrev pub is_in : Op → List (Row Op) → Bool
is_in o [] = false
is_in o (r ∷ rs) = eqb (number o) (number r.is) || is_in o rs

abbrev pub xreg : XReg → Range
xreg r = r.0 under field_limit

abbrev pub vreg : VReg → Range
vreg r = r.0 under field_limit

-- a vector word's last operand is in the field of rs1, whatever it is
abbrev pub field_of : Source → ℕ
field_of (From.V r) = r.0
field_of (From.X r) = r.0
field_of (From.I n) = n
field_of (From.Long n) = n

-- a five-bit field; no word alone has an immediate of 11 bits
abbrev pub source_limit : Source → ℕ
source_limit (From.V r) = field_limit
source_limit (From.X r) = field_limit
source_limit (From.I n) = field_limit
source_limit (From.Long n) = 0

abbrev pub even : ℕ → Range
even n = n % 2 under 1

-- a lane access's offset
abbrev pub offset : Space → ℕ → Range
offset Plain n = n under 2 ^ 12
offset Private n = n under 2 ^ 11

abbrev pub shift_ops : List (Row Op)
shift_ops = left_shifts ++ right_shifts

-- what a shift moves by; 0 of the other ops
abbrev pub amount : Op → ℕ → ℕ
amount o n = cond (is_in o shift_ops) n 0

-- the rows that have the form of this last operand
abbrev pub keep : Bool → Row Op → List (Row Op) → List (Row Op)
keep true r rs = r ∷ rs
keep false r rs = rs

abbrev pub with_form : Source → List (Row OpForms) → List (Row Op)
with_form s [] = []
with_form s (r ∷ rs) = keep (has s r.is) (r.code ⇒ r.is.op) (with_form s rs)

abbrev pub vector_ops : Source → List (Row Op)
vector_ops s = with_form s vector_table ++ with_form s multiply_table

abbrev pub ranges_of : Instr → List Range
ranges_of I.Refused = []
ranges_of (I.Lui d n) = xreg d ∷ n under 2 ^ 20 ∷ []
ranges_of (I.Auipc d n) = xreg d ∷ n under 2 ^ 20 ∷ []
ranges_of (I.Jal d n) = xreg d ∷ n under 2 ^ 21 ∷ even n ∷ []
ranges_of (I.Jalr d a n) = xreg d ∷ xreg a ∷ n under 2 ^ 12 ∷ []
ranges_of (I.Branch o a b n) = xreg a ∷ xreg b ∷ n under 2 ^ 13 ∷ even n ∷ []
ranges_of (I.Load o d a n) = xreg d ∷ xreg a ∷ n under 2 ^ 12 ∷ []
ranges_of (I.Store o a b n) = xreg a ∷ xreg b ∷ n under 2 ^ 12 ∷ []
ranges_of (I.OpImm o d a n) = xreg d ∷ xreg a ∷ n under 2 ^ 12 ∷ amount o n under field_limit ∷ o listed (immediates ++ shift_ops) ∷ []
ranges_of (I.OpReg o d a b) = xreg d ∷ xreg a ∷ xreg b ∷ o listed (base ++ multiplies ++ alternates) ∷ []
ranges_of (I.Fence d a n) = d under field_limit ∷ a under field_limit ∷ n under 2 ^ 12 ∷ []
ranges_of (I.Csr o d a n) = xreg d ∷ xreg a ∷ n under 2 ^ 12 ∷ []
ranges_of (I.CsrImm o d a n) = xreg d ∷ a under field_limit ∷ n under 2 ^ 12 ∷ []
ranges_of (I.Vector o a) = vreg a.vd ∷ vreg a.vs2 ∷ field_of a.src under source_limit a.src ∷ o listed vector_ops a.src ∷ []
ranges_of (I.VMove d s) = vreg d ∷ field_of s under source_limit s ∷ []
ranges_of (I.VMerge d b s) = vreg d ∷ vreg b ∷ field_of s under source_limit s ∷ []
ranges_of (I.VMoveXS d b) = xreg d ∷ vreg b ∷ []
ranges_of (I.VMoveSX d a) = vreg d ∷ xreg a ∷ []
ranges_of (I.Vid t d) = vreg d ∷ []
ranges_of (I.VBranch o a b n) = vreg a ∷ vreg b ∷ n under 2 ^ 13 ∷ even n ∷ []
ranges_of I.Join = []
ranges_of (I.SetRpc d a n) = xreg d ∷ xreg a ∷ n under 2 ^ 12 ∷ []
ranges_of I.EndPrg = []
ranges_of (I.Barrier n) = n under field_limit ∷ []
ranges_of (I.VLoad s o d a n) = vreg d ∷ vreg a ∷ offset s n ∷ []
ranges_of (I.VStore s o a b n) = vreg a ∷ vreg b ∷ offset s n ∷ []
ranges_of (I.RegExt n) = n under 2 ^ 12 ∷ []
ranges_of (I.RegExtI n) = n under 2 ^ 12 ∷ []

abbrev pub holds_all : List Range → Bool
holds_all [] = true
holds_all (n under k ∷ rs) = ltb n k && holds_all rs
holds_all (o listed t ∷ rs) = is_in o t && holds_all rs

-- the test; Refused fits
abbrev pub fits_of : Instr → Bool
fits_of i = holds_all (ranges_of i)

-- the facts: of `Lui d n`, (d.0 < field_limit) × ((n < 2 ^ 20) × Unit)
abbrev pub AllHold : List Range → Type 0
AllHold [] = Unit {0}
AllHold (n under k ∷ rs) = (n < k) × AllHold rs
AllHold (o listed t ∷ rs) = T (is_in o t) × AllHold rs

abbrev pub Fits : Instr → Type 0
Fits i = AllHold (ranges_of i)
