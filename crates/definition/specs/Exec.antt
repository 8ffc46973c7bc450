-- What each instruction does where no test refuses it: total, with no number in it, one line an instruction.
use Rattle.std.specs.Prelude.{ℕ, ◌*◌, ◌%◌, ◌^◌, Bool, true, false, cond, ◌||◌, eqb}
use denote.Enum.Declared.{tag_of}
use Rattle.word.specs.Word.{add_of, apply_of, holds_of, extend_of}
use Rattle.word.specs.declared.Op.{Op}
use Rattle.word.specs.declared.Op.TheVariants.{Sll, Srl, Sra}
use Rattle.word.specs.contracts.Op.{the_type}
use Rattle.isa.specs.declared.Instr.{Instr}
use Rattle.isa.specs.declared.Instr.TheVariants as I
use Rattle.isa.specs.declared.Source.{Source}
use Rattle.isa.specs.declared.Source.TheVariants as From
use Rattle.isa.specs.declared.LoadOp.{LoadOp}
use Rattle.isa.specs.declared.XReg.{XReg}
use Rattle.isa.specs.declared.VReg.{VReg}
use Rattle.isa.specs.Prefix.{reg_ext, reg_ext_i}
use Rattle.lanes.specs.declared.Lane.{Lane}
use Rattle.lanes.specs.Lanes.{lane_of, operand_of, op_lane, merge_lane, write_lanes, value_of}
use Rattle.lanes.specs.declared.Operand.{Operand}
use Rattle.lanes.specs.declared.Operand.TheVariants.{Reg, Word}
use Rattle.memory.specs.Memories.{Contents, load_from, store_to}
use Rattle.memory.specs.LaneAccess.{store_lanes}
use Rattle.warp.specs.declared.Warp.{Warp}
use Rattle.warp.specs.Warp.{with_stop, write_x, next, pends, linked, branched}
use Rattle.warp.specs.Splits.{parted, join_of, set_rpc_of}
use Rattle.warp.specs.Csr.{csr_done}
use Rattle.definition.specs.State.{State, state, fixed_of, active, written, x_of, pc_by, even_of, memory_of, scalar_at, lane_at, else_of}

-- the warp becomes u; register r of each lane l below NUMT that `on` picks gets f l, then PC + 4; the memories' bytes become e, then PC + 4
pub data Effect : Type 0 where
  goes : Warp → Effect
  writes : (Lane → Bool) → VReg → (Lane → ℕ) → Effect
  stores : Contents → Effect

abbrev pub effect : Effect → State → State
effect (goes u) m = state u m.vector m.bytes
effect (writes on r f) m = state (next m.warp) (write_lanes (fixed_of m).numt on r f m.vector) m.bytes
effect (stores e) m = state (next m.warp) m.vector e

-- y goes to rd, then PC + 4
abbrev pub puts : XReg → ℕ → State → Effect
puts r y m = goes (next (write_x r y m.warp))

-- to register r, in the active lanes
abbrev pub lanes : VReg → (Lane → ℕ) → State → Effect
lanes r f m = writes (active m) r f

-- vsll, vsrl, vsra
abbrev pub is_shift : Op → Bool
is_shift o = let n : ℕ = tag_of the_type o in eqb n (tag_of the_type Sll) || eqb n (tag_of the_type Srl) || eqb n (tag_of the_type Sra)

-- an operation's immediate i of n bits: a shift's are its low five bits, every other one's is sign-extended
abbrev pub immediate_of : Op → ℕ → ℕ → ℕ
immediate_of o n i = cond (is_shift o) (i % 2 ^ 5) (extend_of n i)

-- a vector word's last operand: a register's lane, or one word for all lanes; of a VI form, what f makes of its 5 bits, behind REGEXTI of its 11
abbrev pub source_of : (ℕ → ℕ → ℕ) → Source → State → Operand
source_of f (From.V r) m = Reg r
source_of f (From.X r) m = Word (x_of r m)
source_of f (From.I i) m = Word (f 5 i)
source_of f (From.Long i) m = Word (f 11 i)

abbrev pub loaded : LoadOp → ℕ → State → ℕ
loaded k a m = load_from k (memory_of m) a

unfoldable pub effect_of : Instr → State → Effect
effect_of I.Refused m = goes m.warp
effect_of (I.Lui r n) m = puts r (n * 2 ^ 12) m
effect_of (I.Auipc r n) m = puts r (add_of m.warp.pc (n * 2 ^ 12)) m
effect_of (I.Jal r n) m = goes (linked r (pc_by 21 n m) m.warp)
effect_of (I.Jalr r a n) m = goes (linked r (even_of (scalar_at a n m)) m.warp)
effect_of (I.Branch c a b n) m = goes (branched (holds_of c (x_of a m) (x_of b m)) (pc_by 13 n m) m.warp)
effect_of (I.Load k r a n) m = puts r (loaded k (scalar_at a n m) m) m
effect_of (I.Store k a b n) m = stores (store_to k (scalar_at a n m) (x_of b m) (memory_of m))
effect_of (I.OpImm o r a n) m = puts r (apply_of o (x_of a m) (extend_of 12 n)) m
effect_of (I.OpReg o r a b) m = puts r (apply_of o (x_of a m) (x_of b m)) m
effect_of (I.Fence r a n) m = goes (next m.warp)
effect_of (I.Csr o r a n) m = goes (csr_done o n r a.0 (x_of a m) m.warp)
effect_of (I.CsrImm o r i n) m = goes (csr_done o n r i i m.warp)
effect_of (I.Vector o a) m = writes (written a.masked m) a.vd (op_lane o m.vector a.vs2 (source_of (immediate_of o) a.src m))
effect_of (I.VMove r s) m = lanes r (operand_of m.vector (source_of extend_of s m)) m
effect_of (I.VMerge r b s) m = lanes r (merge_lane m.vector b (source_of extend_of s m)) m
effect_of (I.VMoveXS r b) m = puts r (value_of (fixed_of m).numt (active m) (lane_of m.vector b)) m
effect_of (I.VMoveSX r a) m = lanes r (λ l. x_of a m) m
effect_of (I.Vid t r) m = writes (written t m) r (λ l. l.0)
effect_of (I.VBranch c a b n) m = goes (parted (else_of c a b m) (pc_by 13 n m) m.warp)
effect_of I.Join m = goes (join_of m.warp)
effect_of (I.SetRpc r a n) m = goes (set_rpc_of r a n m.warp)
effect_of I.EndPrg m = goes (with_stop true false m.warp)
effect_of (I.Barrier n) m = goes (next (with_stop false true m.warp))
effect_of (I.VLoad s k r a n) m = lanes r (λ l. loaded k (lane_at s a n m l) m) m
effect_of (I.VStore s k a b n) m = stores (store_lanes (fixed_of m).numt (active m) k (lane_at s a n m) (lane_of m.vector b) (memory_of m))
effect_of (I.RegExt n) m = goes (pends reg_ext n m.warp)
effect_of (I.RegExtI n) m = goes (pends reg_ext_i n m.warp)
