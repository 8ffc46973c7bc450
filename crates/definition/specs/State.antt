-- What an instruction finds, and what a call leaves; the places that the fields of an instruction name.
use Rattle.std.specs.Prelude.{ℕ, ◌-◌, ◌/◌, ◌%◌, Bool, cond, List, eqb, get_or}
use Rattle.word.specs.Word.{add_of, extend_of}
use Rattle.word.specs.declared.Cond.{Cond}
use Rattle.isa.specs.declared.Instr.{Instr}
use Rattle.isa.specs.declared.Space.{Space}
use Rattle.isa.specs.declared.XReg.{XReg}
use Rattle.isa.specs.declared.VReg.{VReg}
use Rattle.isa.specs.Decode.{decode_of}
use Rattle.isa.specs.Prefix.{no_prefix, prefixed}
use Rattle.lanes.specs.declared.Lane.{Lane}
use Rattle.lanes.specs.Mask.{bit}
use Rattle.lanes.specs.Lanes.{written_lanes, mask_of, wants_of}
use Rattle.memory.specs.Memories.{Contents, Memories, memories}
use Rattle.memory.specs.Address.{plain_of, lane_address}
use Rattle.memory.specs.declared.Private.{Private}
use Rattle.warp.specs.declared.Fixed.{Fixed}
use Rattle.warp.specs.declared.Warp.{Warp}
use Rattle.warp.specs.Warp.{read_x, with_prefix}

-- the warp, the vector file and the bytes of the memories: of a single warp `alone d`, the data memory's bytes d and no local memory
pub record State : Type 0 where
  pub warp : Warp
  pub vector : List ℕ
  pub bytes : Contents

abbrev pub state : Warp → List ℕ → Contents → State
state w v d = record { warp = w; vector = v; bytes = d }

-- the answer's number (0, or that of the refusal), and what is left
pub record Outcome : Type 0 where
  pub code : ℕ
  pub left : State

abbrev pub outcome : ℕ → State → Outcome
outcome c m = record { code = c; left = m }

-- the number n, and the new state where it is 0: a refusal leaves all as it was handed in
abbrev pub unless : ℕ → State → State → Outcome
unless n new old = outcome n (cond (eqb n 0) new old)

-- ---- what a refusal and an effect both look at

abbrev pub fixed_of : State → Fixed
fixed_of m = m.warp.fixed

-- lane l is active
abbrev pub active : State → Lane → Bool
active m = bit m.warp.mask

-- a vector word writes lane l: it is active, and where the word is masked its word in v0 has bit 0 set
abbrev pub written : Bool → State → Lane → Bool
written t m = written_lanes t m.vector m.warp.mask

abbrev pub x_of : XReg → State → ℕ
x_of r m = read_x r m.warp

-- a PC offset of n bits, sign-extended, from the PC
abbrev pub pc_by : ℕ → ℕ → State → ℕ
pc_by n i m = add_of m.warp.pc (extend_of n i)

-- JALR's target: bit 0 cleared
abbrev pub even_of : ℕ → ℕ
even_of p = p - p % 2

-- the memories, at their bases
abbrev pub memories_in : Fixed → Contents → Memories
memories_in f c = memories f.dataBase f.lds c

abbrev pub memory_of : State → Memories
memory_of m = memories_in (fixed_of m) m.bytes

-- the address of a scalar access
abbrev pub scalar_at : XReg → ℕ → State → ℕ
scalar_at a n m = plain_of (x_of a m) n

-- what the private rule takes from the launch
abbrev pub private_in : Fixed → Private
private_in f = record { numt = f.numt; pds = f.pds }

-- the address of lane l's access, plain or private
abbrev pub lane_at : Space → VReg → ℕ → State → Lane → ℕ
lane_at s a n m = lane_address s (private_in (fixed_of m)) m.vector a n

-- the lanes that want VBRANCH's else PC
abbrev pub else_of : Cond → VReg → VReg → State → ℕ
else_of c a b m = mask_of (fixed_of m).numt (wants_of m.vector m.warp.mask c a b)

-- ---- the word at the PC

-- which kernel word the PC lies on
abbrev pub place_of : Warp → ℕ
place_of w = (w.pc - w.fixed.codeBase) / 4

-- its instruction, with the pending prefix on it; Refused where the word isn't in the tables, or doesn't take the prefix
abbrev pub instr_at : List ℕ → State → Instr
instr_at k m = prefixed m.warp.prefix (decode_of (get_or k (place_of m.warp) 0))

-- the state in which it is carried out: the prefix is used up
abbrev pub used_up : State → State
used_up m = state (with_prefix no_prefix m.warp) m.vector m.bytes
