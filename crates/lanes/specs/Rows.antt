-- What contracts say of lanes: operands, and rows, which are the words of the lanes below n in a local array.
use Rattle.std.specs.Prelude.{Bool, true, ◌≡◌, List, ℕ, ◌+◌, ◌^◌, ◌<◌, length, get_or}
use Rattle.word.specs.Word.{apply_of, holds_of}
use Rattle.word.specs.declared.Op.{Op}
use Rattle.word.specs.declared.Cond.{Cond}
use Rattle.lanes.specs.declared.Lane.{Lane}
use Rattle.lanes.specs.Mask.{lane}
use Rattle.lanes.specs.declared.Operand.{Operand}
use Rattle.lanes.specs.declared.Operand.TheVariants.{Reg, Word}
use Rattle.isa.specs.Bounds.{vector_registers}
use Rattle.lanes.specs.Lanes.{lanes_max, step_if}

-- an operand that is a register is one of the file's
abbrev pub OperandOk : Operand → Type 0
OperandOk (Reg r) = r.0 < vector_registers
OperandOk (Word x) = Unit {0}

-- the word of lane l in the row a
abbrev pub at : List ℕ → Lane → ℕ
at a l = get_or a l.0 0

-- a row that has in each lane below n the word that f gives
abbrev pub RowOf : ℕ → (Lane → ℕ) → List ℕ → Type 0
RowOf n f a = (length a ≡ lanes_max) × ((k : Lane) → k.0 < n → at a k ≡ f k)

-- the same in each lane that `on` picks
abbrev pub RowOn : (Lane → Bool) → ℕ → (Lane → ℕ) → List ℕ → Type 0
RowOn on n f a = (length a ≡ lanes_max) × ((k : Lane) → k.0 < n → on k ≡ true → at a k ≡ f k)

-- what the operation gives in lane l of two rows, and whether the compare holds there
abbrev pub map_lane : Op → List ℕ → List ℕ → Lane → ℕ
map_lane op a b l = apply_of op (at a l) (at b l)

abbrev pub holds_lane : Cond → List ℕ → List ℕ → Lane → Bool
holds_lane c a b l = holds_of c (at a l) (at b l)

-- a mask of lanes below l, with lane l where t holds
abbrev pub mask_step : Bool → Lane → ℕ → ℕ
mask_step t l m = step_if t (λ (k : ℕ). k + 2 ^ l.0) m

-- what a closure returns for the number of a lane below n is what f gives there, or whether p holds of that lane
abbrev pub Gives : (ℕ → ℕ → Type 0) → ℕ → (Lane → ℕ) → Type 0
Gives post n f = (l x : ℕ) → l < n → post l x → x ≡ f (lane l)

abbrev pub Picks : (ℕ → Bool → Type 0) → ℕ → (Lane → Bool) → Type 0
Picks post n p = (l : ℕ) (t : Bool) → l < n → post l t → t ≡ p (lane l)
