-- The code sign-extends a vector operation's immediate whatever the operation: of a shift that gives the same, since it looks at the low five bits only.
use Prim.Native.Nat.{ℕ, ◌+◌, ◌-◌, ◌%◌, ◌^◌}
use mathlib.Core.Path.{◌≡◌, refl, fun_ext}
use mathlib.Core.Bool.{Bool, true, false, cond}
use mathlib.Core.List.{List}
use native.Mathlib.Omega.{arith}
use lib.Dec.{ltb}
use Rattle.word.specs.Word.{apply_of, extend_of}
use Rattle.word.specs.declared.Op.{Op}
use Rattle.word.specs.declared.Op.TheVariants.{Add, Sub, Rsub, Sll, Srl, Sra, Slt, Sltu, And, Or, Xor, Mul, Mulh, Mulhsu, Mulhu, Div, Divu, Rem, Remu, Min, Minu, Max, Maxu, Seq, Sne, Sle, Sleu, Sgt, Sgtu}
use Rattle.isa.specs.declared.Source.{Source}
use Rattle.isa.specs.declared.Source.TheVariants as From
use Rattle.isa.specs.declared.VReg.{VReg}
use Rattle.lanes.specs.declared.Lane.{Lane}
use Rattle.lanes.specs.Lanes.{lane_of, op_lane}
use Rattle.definition.specs.State.{State}
use Rattle.definition.specs.Exec.{immediate_of, source_of}

-- sign extension of n bits, five or more of them, leaves the low five as they are
abbrev LowFive : ℕ → ℕ → Type 0
LowFive n i = extend_of n i % 32 ≡ i % 2 ^ 5 % 32

low_five : (i : ℕ) → LowFive 5 i
low_five i = go (ltb i (2 ^ 4))
  where
    go : (t : Bool) → cond t i (i + 2 ^ 32 - 2 ^ 5) % 32 ≡ i % 2 ^ 5 % 32
    go true = omega arith
    go false = omega arith

low_eleven : (i : ℕ) → LowFive 11 i
low_eleven i = go (ltb i (2 ^ 10))
  where
    go : (t : Bool) → cond t i (i + 2 ^ 32 - 2 ^ 11) % 32 ≡ i % 2 ^ 5 % 32
    go true = omega arith
    go false = omega arith

pub shift_immediate : (n i : ℕ) → LowFive n i → (o : Op) (a : ℕ) → apply_of o a (extend_of n i) ≡ apply_of o a (immediate_of o n i)
shift_immediate n i l Add a = refl
shift_immediate n i l Sub a = refl
shift_immediate n i l Rsub a = refl
shift_immediate n i l Sll a = rw l
shift_immediate n i l Srl a = rw l
shift_immediate n i l Sra a = rw l
shift_immediate n i l Slt a = refl
shift_immediate n i l Sltu a = refl
shift_immediate n i l And a = refl
shift_immediate n i l Or a = refl
shift_immediate n i l Xor a = refl
shift_immediate n i l Mul a = refl
shift_immediate n i l Mulh a = refl
shift_immediate n i l Mulhsu a = refl
shift_immediate n i l Mulhu a = refl
shift_immediate n i l Div a = refl
shift_immediate n i l Divu a = refl
shift_immediate n i l Rem a = refl
shift_immediate n i l Remu a = refl
shift_immediate n i l Min a = refl
shift_immediate n i l Minu a = refl
shift_immediate n i l Max a = refl
shift_immediate n i l Maxu a = refl
shift_immediate n i l Seq a = refl
shift_immediate n i l Sne a = refl
shift_immediate n i l Sle a = refl
shift_immediate n i l Sleu a = refl
shift_immediate n i l Sgt a = refl
shift_immediate n i l Sgtu a = refl

pub shift_operand : (o : Op) (v : List ℕ) (a : VReg) (s : Source) (m : State) → op_lane o v a (source_of extend_of s m) ≡ op_lane o v a (source_of (immediate_of o) s m)
shift_operand o v a (From.V r) m = refl
shift_operand o v a (From.X r) m = refl
shift_operand o v a (From.I i) m = fun_ext (λ (l : Lane). shift_immediate 5 i (low_five i) o (lane_of v a l))
shift_operand o v a (From.Long i) m = fun_ext (λ (l : Lane). shift_immediate 11 i (low_eleven i) o (lane_of v a l))
