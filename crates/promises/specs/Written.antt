-- What a step that was taken leaves: each byte of the memories, each word of an active lane, and what 'one value' of the active lanes is.
use Rattle.std.specs.Prelude.{ℕ, ◌<◌, ◌≡◌, Bool, true, false, List, length, get_or}
use Rattle.answer.specs.Rows.{first, Iff}
use Rattle.word.specs.Word.{apply_of, extend_of}
use Rattle.word.specs.declared.Op.{Op}
use Rattle.isa.specs.declared.Instr.{Instr}
use Rattle.isa.specs.declared.Instr.TheVariants as I
use Rattle.isa.specs.declared.LoadOp.{LoadOp}
use Rattle.isa.specs.declared.Source.{Source}
use Rattle.isa.specs.declared.Space.{Space}
use Rattle.isa.specs.declared.StoreOp.{StoreOp}
use Rattle.isa.specs.declared.VecArgs.{VecArgs}
use Rattle.isa.specs.declared.XReg.{XReg}
use Rattle.isa.specs.declared.VReg.{VReg}
use Rattle.lanes.specs.declared.Lane.{Lane}
use Rattle.isa.specs.Bounds.{vector_registers}
use Rattle.lanes.specs.Lanes.{lane_of, operand_of, value_of}
use Rattle.memory.specs.Memory.{width_of, Has, byte_at}
use Rattle.memory.specs.Memories.{Region, bytes_at, load_from}
use Rattle.warp.specs.Warp.{read_x}
use Rattle.definition.specs.State.{State, fixed_of, active, x_of, memory_of, scalar_at, lane_at, instr_at}
use Rattle.definition.specs.Refuse.{mixed, step_tests}
use Rattle.definition.specs.Exec.{immediate_of, source_of}
use Rattle.definition.specs.Step.{step_of}
use Rattle.promises.specs.Lanes.{is_active, address_in, Touches}
use Rattle.promises.specs.Masked.{InV0}

-- ---- bytes

-- the instruction leaves the byte `new` where `old` was, at the address a: its store doesn't touch it; or it is the scalar store's; or active lane l's access has the
-- address, and it is the byte of every active lane whose access has
pub data Becomes (m : State) (a old new : ℕ) : Instr → Type 0 where
  stays : {i : Instr} → (Touches m a i → ⊥) → new ≡ old → Becomes m a old new i
  by_scalar : (k : StoreOp) (x y : XReg) (n : ℕ) → Has (width_of k) (scalar_at x n m) a → new ≡ byte_at k (scalar_at x n m) (x_of y m) a → Becomes m a old new (I.Store k x y n)
  by_lanes : (s : Space) (k : StoreOp) (x y : VReg) (n : ℕ) (l : Lane) → is_active m l ≡ true → Has (width_of k) (lane_at s x n m l) a
      → ((h : Lane) → is_active m h ≡ true → Has (width_of k) (lane_at s x n m h) a → new ≡ byte_at k (lane_at s x n m h) (lane_of m.vector y h) a) → Becomes m a old new (I.VStore s k x y n)

-- ---- lanes

-- the instruction gives register r of lane l the word y: a masked operation and a masked vid.v where the lane is in v0, and vmerge one of two words; no other instruction writes a vector register
pub data Gives (m : State) (l : Lane) : Instr → VReg → ℕ → Type 0 where
  operation : (o : Op) (a : VecArgs) → (a.masked ≡ true → InV0 m l) → Gives m l (I.Vector o a) a.vd (apply_of o (lane_of m.vector a.vs2 l) (operand_of m.vector (source_of (immediate_of o) a.src m) l))
  move : (r : VReg) (s : Source) → Gives m l (I.VMove r s) r (operand_of m.vector (source_of extend_of s m) l)
  merge_operand : (r b : VReg) (s : Source) → InV0 m l → Gives m l (I.VMerge r b s) r (operand_of m.vector (source_of extend_of s m) l)
  merge_other : (r b : VReg) (s : Source) → (InV0 m l → ⊥) → Gives m l (I.VMerge r b s) r (lane_of m.vector b l)
  scalar : (r : VReg) (a : XReg) → Gives m l (I.VMoveSX r a) r (x_of a m)
  number : (t : Bool) (r : VReg) → (t ≡ true → InV0 m l) → Gives m l (I.Vid t r) r l.0
  load : (s : Space) (k : LoadOp) (r a : VReg) (n : ℕ) → Gives m l (I.VLoad s k r a n) r (load_from k (memory_of m) (lane_at s a n m l))

-- lane l's words in the vector file v, after the instruction: what it gives, and every other word as before
pub record LaneLeft (m : State) (i : Instr) (l : Lane) (v : List ℕ) : Type 0 where
  pub given : (r : VReg) (y : ℕ) → r.0 < vector_registers → Gives m l i r y → lane_of v r l ≡ y
  pub others : (r : VReg) → ((y : ℕ) → Gives m l i r y → ⊥) → lane_of v r l ≡ lane_of m.vector r l

-- any two active lanes' words are equal
abbrev pub AllEqual : State → (Lane → ℕ) → Type 0
AllEqual m f = (l h : Lane) → is_active m l ≡ true → is_active m h ≡ true → f l ≡ f h

-- ---- promises

-- Each byte of either memory after a taken step.
abbrev pub Written : Type 0
Written =
    (k : List ℕ) (m : State) → (step_of k m).code ≡ 0 → (r : Region) (j : ℕ) → j < length (bytes_at r m.bytes)
    → Becomes m (address_in r j m) (get_or (bytes_at r m.bytes) j 0) (get_or (bytes_at r (step_of k m).left.bytes) j 0) (instr_at k m)

-- Each active lane's words after a taken step. (An inactive lane's are kept: Kept.)
abbrev pub LaneWords : Type 0
LaneWords = (k : List ℕ) (m : State) → (step_of k m).code ≡ 0 → (l : Lane) → is_active m l ≡ true → LaneLeft m (instr_at k m) l (step_of k m).left.vector

-- Row 10: the active lanes' words f differ, or any two of them are equal; and then the value that they share is the word of each.
pub record OneValued (m : State) (f : Lane → ℕ) : Type 0 where
  pub equal : Iff (mixed f m ≡ false) (AllEqual m f)
  pub value : mixed f m ≡ false → (l : Lane) → is_active m l ≡ true → value_of (fixed_of m).numt (active m) f ≡ f l

abbrev pub OneValue : Type 0
OneValue = (m : State) (f : Lane → ℕ) → OneValued m f

-- vmv.x.s of register b: where none of 1 to 5 holds it is taken when, and only when, any two active lanes' words are equal; and then the scalar register has each one's word.
pub record Shares (k : List ℕ) (m : State) (r : XReg) (b : VReg) : Type 0 where
  pub taken : first (step_tests k m) ≡ 0 → Iff ((step_of k m).code ≡ 0) (AllEqual m (lane_of m.vector b))
  pub value : (step_of k m).code ≡ 0 → (r.0 ≡ 0 → ⊥) → r.0 < length m.warp.x → (l : Lane) → is_active m l ≡ true → read_x r (step_of k m).left.warp ≡ lane_of m.vector b l

abbrev pub MoveShares : Type 0
MoveShares = (k : List ℕ) (m : State) (r : XReg) (b : VReg) → instr_at k m ≡ I.VMoveXS r b → Shares k m r b
