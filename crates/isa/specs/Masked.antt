-- Masked vector words, vm = 0: the mask is in v0, and no masked word but a compare may write it.
use Rattle.std.specs.Prelude.{Bool, false, not, ◌&&◌, ◌||◌, List, [], ◌∷◌, eqb}
use Rattle.answer.specs.Rows.{Row}
use Rattle.word.specs.declared.Op.{Op}
use Rattle.isa.specs.declared.VReg.{VReg}
use Rattle.isa.specs.declared.Instr.{Instr}
use Rattle.isa.specs.declared.Instr.TheVariants as I
use Rattle.isa.specs.Fields.{v}
use Rattle.isa.specs.Vector.{OpForms, compares}
use Rattle.isa.specs.Number.{number}

-- the register that has the mask: bit 0 of each lane's word
abbrev pub v0 : VReg
v0 = v 0

abbrev pub is_v0 : VReg → Bool
is_v0 r = eqb r.0 v0.0

-- a table has the op in one of its rows
abbrev pub has_op : Op → List (Row OpForms) → Bool
has_op o [] = false
has_op o (r ∷ rs) = eqb (number o) (number r.is.op) || has_op o rs

abbrev pub is_compare : Op → Bool
is_compare o = has_op o compares

-- a masked word, no compare, whose destination is v0: a step refuses it with 6
abbrev pub over_mask : Instr → Bool
over_mask I.Refused = false
over_mask (I.Lui r n) = false
over_mask (I.Auipc r n) = false
over_mask (I.Jal r n) = false
over_mask (I.Jalr r a n) = false
over_mask (I.Branch o a b n) = false
over_mask (I.Load o r a n) = false
over_mask (I.Store o a b n) = false
over_mask (I.OpImm o r a n) = false
over_mask (I.OpReg o r a b) = false
over_mask (I.Fence r a n) = false
over_mask (I.Csr o r a n) = false
over_mask (I.CsrImm o r i n) = false
over_mask (I.Vector o a) = a.masked && (is_v0 a.vd && not (is_compare o))
over_mask (I.VMove r s) = false
over_mask (I.VMerge r b s) = is_v0 r
over_mask (I.VMoveXS r b) = false
over_mask (I.VMoveSX r a) = false
over_mask (I.Vid t r) = t && is_v0 r
over_mask (I.VBranch o a b n) = false
over_mask I.Join = false
over_mask (I.SetRpc r a n) = false
over_mask I.EndPrg = false
over_mask (I.Barrier n) = false
over_mask (I.VLoad s o r a n) = false
over_mask (I.VStore s o a b n) = false
over_mask (I.RegExt n) = false
over_mask (I.RegExtI n) = false
