-- Private memory is each lane's own: below place 1,024, accesses of two different lanes of one warp have no byte in common.
use Rattle.std.specs.Prelude.{ℕ, ◌≤◌, ◌<◌, ◌≡◌, true, List}
use Rattle.isa.specs.declared.Instr.{Instr}
use Rattle.isa.specs.declared.Instr.TheVariants as I
use Rattle.isa.specs.declared.LoadOp.{LoadOp}
use Rattle.isa.specs.declared.Space.TheVariants.{Private}
use Rattle.isa.specs.declared.StoreOp.{StoreOp}
use Rattle.isa.specs.declared.VReg.{VReg}
use Rattle.lanes.specs.declared.Lane.{Lane}
use Rattle.lanes.specs.Lanes.{lanes_max, lane_of}
use Rattle.memory.specs.Memory.{size_of, width_of, Has}
use Rattle.memory.specs.Address.{own_place, in_word_at}
use Rattle.definition.specs.State.{State, fixed_of, lane_at, instr_at}
use Rattle.definition.specs.Step.{step_of}
use Rattle.promises.specs.Lanes.{is_active}

-- lane l's private access by the instruction, n bytes at the place u of its own memory, has the byte at the address a: `Reaches m l a instruction n u`
pub data Reaches (m : State) (l : Lane) (a : ℕ) : Instr → ℕ → ℕ → Type 0 where
  loads : (k : LoadOp) (r x : VReg) (off : ℕ) → Has (size_of k) (lane_at Private x off m l) a → Reaches m l a (I.VLoad Private k r x off) (size_of k) (own_place (lane_of m.vector x l) off)
  stores : (k : StoreOp) (x y : VReg) (off : ℕ) → Has (width_of k) (lane_at Private x off m l) a → Reaches m l a (I.VStore Private k x y off) (width_of k) (own_place (lane_of m.vector x l) off)

-- the places of a lane's own memory, as many as the board gives a thread
abbrev pub own_bytes : ℕ
own_bytes = 1024

-- ---- the promises: m and o are states of one warp, at one step or at two

-- Accesses that pass 14, whatever their sizes and places below 1,024, whether 9 refuses them or not.
abbrev pub LanesApart : Type 0
LanesApart =
    (m o : State) → fixed_of m ≡ fixed_of o → (fixed_of m).numt ≤ lanes_max →
    (l h : Lane) → l.0 < (fixed_of m).numt → h.0 < (fixed_of m).numt → (l ≡ h → ⊥) →
    (i j : Instr) (a n u n' u' : ℕ) → Reaches m l a i n u → Reaches o h a j n' u' → in_word_at n u ≡ true → in_word_at n' u' ≡ true → u < own_bytes → u' < own_bytes → ⊥

-- So at steps that were taken, of active lanes: these pass 14.
abbrev pub StepsApart : Type 0
StepsApart =
    (k k' : List ℕ) (m o : State) → fixed_of m ≡ fixed_of o → (step_of k m).code ≡ 0 → (step_of k' o).code ≡ 0 →
    (l h : Lane) → is_active m l ≡ true → is_active o h ≡ true → (l ≡ h → ⊥) →
    (a n u n' u' : ℕ) → Reaches m l a (instr_at k m) n u → Reaches o h a (instr_at k' o) n' u' → u < own_bytes → u' < own_bytes → ⊥
