-- Masked vector words: which lanes they leave alone, and when they are refused.
use Rattle.std.specs.Prelude.{ℕ, ◌%◌, ◌<◌, ◌≡◌, Bool, true, List}
use Rattle.answer.specs.Rows.{first, Iff}
use Rattle.word.specs.declared.Op.{Op}
use Rattle.word.specs.declared.Op.TheVariants as O
use Rattle.isa.specs.declared.Instr.{Instr}
use Rattle.isa.specs.declared.Instr.TheVariants as I
use Rattle.isa.specs.declared.Source.{Source}
use Rattle.isa.specs.declared.VecArgs.{VecArgs}
use Rattle.isa.specs.declared.VReg.{VReg}
use Rattle.isa.specs.Masked.{v0}
use Rattle.lanes.specs.declared.Lane.{Lane}
use Rattle.lanes.specs.Lanes.{lanes_max, lane_of}
use Rattle.definition.specs.State.{State, instr_at}
use Rattle.definition.specs.Refuse.{step_tests}
use Rattle.definition.specs.Step.{step_of}
use Rattle.promises.specs.Lanes.{SameLane}

-- ---- a lane that is not written

-- lane l's word in v0 has bit 0 set
abbrev pub InV0 : State → Lane → Type 0
InV0 m l = lane_of m.vector v0 l % 2 ≡ 1

-- a masked operation, or a masked vid.v
pub data MaskedWord : Instr → Type 0 where
  operation : (o : Op) (a : VecArgs) → a.masked ≡ true → MaskedWord (I.Vector o a)
  number : (r : VReg) → MaskedWord (I.Vid true r)

-- A lane that such a word doesn't write, active or not, keeps all its vector registers, the destination too.
abbrev pub MaskedOffKept : Type 0
MaskedOffKept = (k : List ℕ) (m : State) → MaskedWord (instr_at k m) → (l : Lane) → l.0 < lanes_max → (InV0 m l → ⊥) → SameLane l (step_of k m).left.vector m.vector

-- ---- 6, when and only when

-- an operation, vid.v, masked or not, or vmerge
pub data Maskable : Instr → Type 0 where
  operation : (o : Op) (a : VecArgs) → Maskable (I.Vector o a)
  merge : (r b : VReg) (s : Source) → Maskable (I.VMerge r b s)
  number : (t : Bool) (r : VReg) → Maskable (I.Vid t r)

-- the ops that give 1 or 0
pub data Compares : Op → Type 0 where
  vmseq : Compares O.Seq
  vmsne : Compares O.Sne
  vmsltu : Compares O.Sltu
  vmslt : Compares O.Slt
  vmsleu : Compares O.Sleu
  vmsle : Compares O.Sle
  vmsgtu : Compares O.Sgtu
  vmsgt : Compares O.Sgt

-- it would write its own mask: it is masked, it is no compare, and its destination is v0
pub data WritesMask : Instr → Type 0 where
  operation : (o : Op) (a : VecArgs) → a.masked ≡ true → (Compares o → ⊥) → a.vd ≡ v0 → WritesMask (I.Vector o a)
  merge : (r b : VReg) (s : Source) → r ≡ v0 → WritesMask (I.VMerge r b s)
  number : (r : VReg) → r ≡ v0 → WritesMask (I.Vid true r)

-- Where none of 1 to 5 holds, such a word is taken when, and only when, it would not write its own mask, whatever lanes are in v0, and else it is refused with 6.
pub record MaskTested (k : List ℕ) (m : State) : Type 0 where
  pub taken : Iff ((step_of k m).code ≡ 0) (WritesMask (instr_at k m) → ⊥)
  pub refused : Iff ((step_of k m).code ≡ 6) (WritesMask (instr_at k m))

abbrev pub MaskTests : Type 0
MaskTests = (k : List ℕ) (m : State) → Maskable (instr_at k m) → first (step_tests k m) ≡ 0 → MaskTested k m
