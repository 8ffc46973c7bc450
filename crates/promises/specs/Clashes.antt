-- Stores by lanes: refused with 15 where two active lanes store different values to one byte; so the order of the lanes makes no difference.
use Rattle.std.specs.Prelude.{ℕ, ◌≡◌, true, List, [], ◌∷◌, ◌++◌, ◌⊎◌}
use Rattle.answer.specs.Rows.{first, Iff}
use Rattle.isa.specs.declared.Instr.{Instr}
use Rattle.isa.specs.declared.Instr.TheVariants as I
use Rattle.isa.specs.declared.Space.{Space}
use Rattle.isa.specs.declared.StoreOp.{StoreOp}
use Rattle.isa.specs.declared.VReg.{VReg}
use Rattle.lanes.specs.declared.Lane.{Lane}
use Rattle.lanes.specs.Lanes.{lane_of}
use Rattle.memory.specs.Memory.{width_of, Has, byte_at}
use Rattle.memory.specs.Memories.{Contents, Memories, memories, store_to}
use Rattle.definition.specs.State.{State, memory_of, lane_at, instr_at}
use Rattle.definition.specs.Refuse.{access_tests, step_tests}
use Rattle.definition.specs.Step.{step_of}
use Rattle.promises.specs.Lanes.{is_active}

-- ---- 15, when and only when

-- at every address that two active lanes' accesses have, both store the same byte
abbrev pub Agreeing : State → Space → StoreOp → VReg → VReg → ℕ → Type 0
Agreeing m s o x y n =
    (l h : Lane) (a : ℕ) → is_active m l ≡ true → is_active m h ≡ true → Has (width_of o) (lane_at s x n m l) a → Has (width_of o) (lane_at s x n m h) a
    → byte_at o (lane_at s x n m l) (lane_of m.vector y l) a ≡ byte_at o (lane_at s x n m h) (lane_of m.vector y h) a

-- a store by lanes where none of 1 to 5, 14 and 9 holds: it is taken when, and only when, the active lanes' stores agree, and else refused with 15
pub record Clashed (k : List ℕ) (m : State) (s : Space) (o : StoreOp) (x y : VReg) (n : ℕ) : Type 0 where
  pub taken : Iff ((step_of k m).code ≡ 0) (Agreeing m s o x y n)
  pub refused : Iff ((step_of k m).code ≡ 15) (Agreeing m s o x y n → ⊥)

abbrev pub Clashes : Type 0
Clashes =
    (k : List ℕ) (m : State) (s : Space) (o : StoreOp) (x y : VReg) (n : ℕ) → instr_at k m ≡ I.VStore s o x y n →
    first (step_tests k m ++ access_tests s (width_of o) x n m) ≡ 0 → Clashed k m s o x y n

-- 15 comes after these
abbrev pub ClashesLast : Type 0
ClashesLast =
    (k : List ℕ) (m : State) (s : Space) (o : StoreOp) (x y : VReg) (n : ℕ) → instr_at k m ≡ I.VStore s o x y n →
    (first (step_tests k m ++ access_tests s (width_of o) x n m) ≡ 0 → ⊥) → (step_of k m).code ≡ first (step_tests k m ++ access_tests s (width_of o) x n m)

-- a store by lanes
pub data ByLanes : Instr → Type 0 where
  stores : (s : Space) (o : StoreOp) (x y : VReg) (n : ℕ) → ByLanes (I.VStore s o x y n)

-- No other instruction clashes: no scalar store, no load.
abbrev pub OnlyLanesClash : Type 0
OnlyLanesClash = (k : List ℕ) (m : State) → (step_of k m).code ≡ 15 → ByLanes (instr_at k m)

-- ---- any order

-- lane l is one of the list
abbrev pub In : Lane → List Lane → Type 0
In l [] = ⊥
In l (h ∷ ls) = (l ≡ h) ⊎ In l ls

-- the bytes after the stores of a list of lanes, one after another
abbrev pub in_order : List Lane → StoreOp → (Lane → ℕ) → (Lane → ℕ) → Memories → Contents
in_order [] o at xs m = m.bytes
in_order (l ∷ ls) o at xs m = in_order ls o at xs (memories m.dataBase m.lds (store_to o (at l) (xs l) m))

-- A taken store leaves what the active lanes' stores make in whatever order: of every list that has the active lanes, and no others.
abbrev pub AnyOrder : Type 0
AnyOrder =
    (k : List ℕ) (m : State) (s : Space) (o : StoreOp) (x y : VReg) (n : ℕ) → instr_at k m ≡ I.VStore s o x y n → (step_of k m).code ≡ 0 →
    (ls : List Lane) → ((l : Lane) → Iff (In l ls) (is_active m l ≡ true)) → (step_of k m).left.bytes ≡ in_order ls o (lane_at s x n m) (lane_of m.vector y) (memory_of m)
