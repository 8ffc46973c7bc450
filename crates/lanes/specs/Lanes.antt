-- The vector file and what is done in it lane by lane, each over n lanes.
use Rattle.std.specs.Prelude.{Bool, true, false, cond, ◌&&◌, List, ℕ, zero, suc, ◌+◌, ◌*◌, ◌%◌, ◌^◌, eqb, get_or, set}
use Rattle.word.specs.Word.{apply_of, holds_of}
use Rattle.word.specs.declared.Op.{Op}
use Rattle.word.specs.declared.Cond.{Cond}
use Rattle.isa.specs.declared.VReg.{VReg}
use Rattle.isa.specs.Bounds.{vector_registers}
use Rattle.isa.specs.Masked.{v0}
use Rattle.lanes.specs.Mask.{lane, bit}
use Rattle.lanes.specs.declared.Lane.{Lane}
use Rattle.lanes.specs.declared.Operand.{Operand}
use Rattle.lanes.specs.declared.Operand.TheVariants.{Reg, Word}

-- the most lanes of a warp, and the words of a vector file
abbrev pub lanes_max : ℕ
lanes_max = 32

abbrev pub file_words : ℕ
file_words = vector_registers * lanes_max

-- where the file has register r's lane l
abbrev pub slot_of : VReg → Lane → ℕ
slot_of r l = r.0 * lanes_max + l.0

-- the word of register r in lane l of the file v
abbrev pub lane_of : List ℕ → VReg → Lane → ℕ
lane_of v r l = get_or v (slot_of r l) 0

-- a last operand's word in lane l: a register's, or one word for all lanes
abbrev pub operand_of : List ℕ → Operand → Lane → ℕ
operand_of v (Reg r) l = lane_of v r l
operand_of v (Word x) l = x

-- what the operation gives in lane l
abbrev pub op_lane : Op → List ℕ → VReg → Operand → Lane → ℕ
op_lane op v a b l = apply_of op (lane_of v a l) (operand_of v b l)

-- bit 0 is set; it is in lane l's word of v0
abbrev pub is_odd : ℕ → Bool
is_odd x = eqb (x % 2) 1

abbrev pub in_v0 : List ℕ → Lane → Bool
in_v0 v l = is_odd (lane_of v v0 l)

-- the lanes of the mask m that a word writes: all; of a masked word those whose word in v0 has bit 0 set
abbrev pub written_lanes : Bool → List ℕ → ℕ → Lane → Bool
written_lanes false v m l = bit m l
written_lanes true v m l = bit m l && in_v0 v l

-- vmerge: the operand's word where v0's has bit 0 set, else register a's
abbrev pub merge_lane : List ℕ → VReg → Operand → Lane → ℕ
merge_lane v a b l = cond (in_v0 v l) (operand_of v b l) (lane_of v a l)

abbrev pub step_if : {A : Type 0} → Bool → (A → A) → A → A
step_if true g x = g x
step_if false g x = x

-- the step of each lane below n that `on` picks, in lane order
unfoldable pub each_lane : {A : Type 0} → ℕ → (Lane → Bool) → (Lane → A → A) → A → A
each_lane zero on step x = x
each_lane (suc n) on step x = step_if (on (lane n)) (step (lane n)) (each_lane n on step x)

-- the file v with register d's word set to f l in each lane l that `on` picks
abbrev pub write_lanes : ℕ → (Lane → Bool) → VReg → (Lane → ℕ) → List ℕ → List ℕ
write_lanes n on d f v = each_lane n on (λ l w. set w (slot_of d l) (f l)) v

-- the mask of the lanes that `on` picks
abbrev pub mask_of : ℕ → (Lane → Bool) → ℕ
mask_of n on = each_lane n on (λ l m. m + 2 ^ l.0) 0

-- p holds of every number below n, and in every lane below n
unfoldable pub all_below : ℕ → (ℕ → Bool) → Bool
all_below zero p = true
all_below (suc n) p = all_below n p && p n

abbrev pub all_lanes : ℕ → (Lane → Bool) → Bool
all_lanes n p = all_below n (λ i. p (lane i))

-- a test that is asked of a lane only where it is on
abbrev pub ok_if : Bool → Bool → Bool
ok_if true b = b
ok_if false b = true

-- VBRANCH: lane l is in the mask m, and the compare of its words in a and b holds
abbrev pub wants_of : List ℕ → ℕ → Cond → VReg → VReg → Lane → Bool
wants_of v m c a b l = bit m l && holds_of c (lane_of v a l) (lane_of v b l)

-- vmv.x.s: the word of the last lane that `on` picks (0 if there is none), and whether all that it picks hold that word
abbrev pub value_of : ℕ → (Lane → Bool) → (Lane → ℕ) → ℕ
value_of n on f = each_lane n on (λ l x. f l) 0

abbrev pub uniform_of : ℕ → (Lane → Bool) → (Lane → ℕ) → Bool
uniform_of n on f = all_lanes n (λ l. ok_if (on l) (eqb (f l) (value_of n on f)))
