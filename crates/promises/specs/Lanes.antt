-- A step works for its active lanes alone: an inactive lane keeps its registers, writes no byte and influences nothing.
use Rattle.std.specs.Prelude.{ℕ, ◌+◌, ◌<◌, ◌≡◌, Bool, true, false, not, ◌&&◌, List, eqb, ltb, length, get_or}
use Rattle.isa.specs.declared.Instr.{Instr}
use Rattle.isa.specs.declared.Instr.TheVariants as I
use Rattle.isa.specs.declared.Space.{Space}
use Rattle.isa.specs.declared.StoreOp.{StoreOp}
use Rattle.isa.specs.declared.XReg.{XReg}
use Rattle.isa.specs.declared.VReg.{VReg}
use Rattle.lanes.specs.declared.Lane.{Lane}
use Rattle.lanes.specs.Lanes.{lanes_max, lane_of}
use Rattle.memory.specs.Memory.{width_of, Has}
use Rattle.memory.specs.Memories.{Region, bytes_at, memory_at}
use Rattle.warp.specs.WellFormed.{well_formed_of}
use Rattle.definition.specs.State.{State, state, Outcome, fixed_of, active, memory_of, scalar_at, lane_at, instr_at}
use Rattle.definition.specs.Step.{step_of}

-- ---- what is spoken of

-- lane l is one of the NUMT lanes and in the active mask
abbrev pub is_active : State → Lane → Bool
is_active m l = ltb l.0 (fixed_of m).numt && active m l

-- the vector files v and u have the same word in every register of lane l
abbrev pub SameLane : Lane → List ℕ → List ℕ → Type 0
SameLane l v u = (r : VReg) → lane_of v r l ≡ lane_of u r l

-- they are of one length, and the same in every lane that `on` picks
abbrev pub Agree : (Lane → Bool) → List ℕ → List ℕ → Type 0
Agree on v u = (length v ≡ length u) × ((l : Lane) → l.0 < lanes_max → on l ≡ true → SameLane l v u)

-- every lane but h
abbrev pub all_but : Lane → Lane → Bool
all_but h l = not (eqb l.0 h.0)

-- m with another vector file
abbrev pub with_file : List ℕ → State → State
with_file u m = state m.warp u m.bytes

-- two outcomes: one answer, one warp, the memories' bytes the same, and vector files that agree in the lanes that `on` picks
pub record Alike (on : Lane → Bool) (o p : Outcome) : Type 0 where
  pub code : o.code ≡ p.code
  pub warp : o.left.warp ≡ p.left.warp
  pub bytes : o.left.bytes ≡ p.left.bytes
  pub vector : Agree on o.left.vector p.left.vector

-- the address of byte j of the memory r
abbrev pub address_in : Region → ℕ → State → ℕ
address_in r j m = (memory_at r (memory_of m)).base + j

-- the instruction's store has the address a: a scalar store's one access, or an active lane's. No other instruction stores
pub data Touches (m : State) (a : ℕ) : Instr → Type 0 where
  scalar : (k : StoreOp) (x y : XReg) (n : ℕ) → Has (width_of k) (scalar_at x n m) a → Touches m a (I.Store k x y n)
  lane : (s : Space) (k : StoreOp) (x y : VReg) (n : ℕ) (l : Lane) → is_active m l ≡ true → Has (width_of k) (lane_at s x n m l) a → Touches m a (I.VStore s k x y n)

-- ---- the promises: for every kernel k and state m, whatever the step answers

-- in a well-formed warp the active lanes are those of the mask
abbrev pub ActiveMask : Type 0
ActiveMask = (m : State) → well_formed_of m.warp ≡ true → (l : Lane) → is_active m l ≡ active m l

-- an inactive lane keeps all its vector registers
abbrev pub Kept : Type 0
Kept = (k : List ℕ) (m : State) (l : Lane) → l.0 < lanes_max → is_active m l ≡ false → SameLane l (step_of k m).left.vector m.vector

-- no byte is written for it: every byte of either memory outside the active lanes' accesses and a scalar store's stays
abbrev pub Unwritten : Type 0
Unwritten =
    (k : List ℕ) (m : State) →
    (r : Region) → (length (bytes_at r (step_of k m).left.bytes) ≡ length (bytes_at r m.bytes)) ×
    ((j : ℕ) → j < length (bytes_at r m.bytes) → (Touches m (address_in r j m) (instr_at k m) → ⊥) → get_or (bytes_at r (step_of k m).left.bytes) j 0 ≡ get_or (bytes_at r m.bytes) j 0)

-- what the step does depends on the active lanes alone
abbrev pub Unseen : Type 0
Unseen = (k : List ℕ) (m : State) (u : List ℕ) → Agree (is_active m) m.vector u → Alike (is_active m) (step_of k m) (step_of k (with_file u m))

-- if an inactive lane's vector registers had held anything else, the step would give the same answer, the same warp, the same memories and the same registers of every other lane
abbrev pub Unfelt : Type 0
Unfelt = (k : List ℕ) (m : State) (u : List ℕ) (h : Lane) → is_active m h ≡ false → Agree (all_but h) m.vector u → Alike (all_but h) (step_of k m) (step_of k (with_file u m))

-- a lane's vector registers after a step depend on that lane's before, the scalar state and the memories alone: the other lanes decide no more than the answer's number
abbrev pub LaneAlone : Type 0
LaneAlone =
    (k : List ℕ) (m : State) (u : List ℕ) → length m.vector ≡ length u → (step_of k m).code ≡ (step_of k (with_file u m)).code →
    (l : Lane) → l.0 < lanes_max → SameLane l m.vector u → SameLane l (step_of k m).left.vector (step_of k (with_file u m)).left.vector
