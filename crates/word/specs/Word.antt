-- The 32-bit word operations, over whole numbers. A word is a number below 2 ^ 32. Signed values are the language's own readings of a word.
use Rattle.std.specs.Prelude.{ℕ, ◌+◌, ◌-◌, ◌*◌, ◌/◌, ◌%◌, ◌^◌, Bool, cond, not, ℤ, pos, negsuc, ◌*ℤ◌, ◌==◌, bit_and, bit_or, bit_xor, int_div, int_lt, int_rem, nat_le, nat_lt}
use Rattle.std.specs.Int.Signed.{shr_z}
use Rattle.std.specs.Int.{w32}
use Rattle.std.proofs.Common.{to_z}
use Rattle.word.specs.declared.Op.{Op}
use Rattle.word.specs.declared.Op.TheVariants.{Add, Sub, Rsub, Sll, Srl, Sra, Slt, Sltu, And, Or, Xor, Mul, Mulh, Mulhsu, Mulhu, Div, Divu, Rem, Remu, Min, Minu, Max, Maxu, Seq, Sne, Sle, Sleu, Sgt, Sgtu}
use Rattle.word.specs.declared.Cond.{Cond}
use Rattle.word.specs.declared.Cond.TheVariants.{Eq, Ne, Lt, Ge, Ltu, Geu}

-- a test as a word: 1 where it holds, else 0
abbrev pub flag_of : Bool → ℕ
flag_of b = cond b 1 0

-- a word's signed value: from 2 ^ 31 on, the word less 2 ^ 32
abbrev pub signed : ℕ → ℤ
signed a = to_z w32 a

-- the word of a signed value, wrapped; `negsuc n` is -(n + 1)
abbrev pub as_word : ℤ → ℕ
as_word (pos n) = n % 2 ^ 32
as_word (negsuc n) = 2 ^ 32 - 1 - n % 2 ^ 32

abbrev pub less_of : ℕ → ℕ → Bool
less_of a b = int_lt (signed a) (signed b)

abbrev pub add_of : ℕ → ℕ → ℕ
add_of a b = (a + b) % 2 ^ 32

abbrev pub sub_of : ℕ → ℕ → ℕ
sub_of a b = (a + (2 ^ 32 - b)) % 2 ^ 32

-- shifts use the low five bits
abbrev pub sll_of : ℕ → ℕ → ℕ
sll_of a b = a * 2 ^ (b % 32) % 2 ^ 32

abbrev pub srl_of : ℕ → ℕ → ℕ
srl_of a b = a / 2 ^ (b % 32)

abbrev pub sra_of : ℕ → ℕ → ℕ
sra_of a b = as_word (shr_z (signed a) (2 ^ (b % 32)))

abbrev pub mul_of : ℕ → ℕ → ℕ
mul_of a b = a * b % 2 ^ 32

abbrev pub mulh_of : ℕ → ℕ → ℕ
mulh_of a b = as_word (shr_z (signed a *ℤ signed b) (2 ^ 32))

abbrev pub mulhsu_of : ℕ → ℕ → ℕ
mulhsu_of a b = as_word (shr_z (signed a *ℤ pos b) (2 ^ 32))

abbrev pub mulhu_of : ℕ → ℕ → ℕ
mulhu_of a b = a * b / 2 ^ 32

-- by zero: -1. -2^31 by -1 is no case of its own: the quotient 2^31 has the word of -2^31
abbrev pub div_of : ℕ → ℕ → ℕ
div_of a b = cond (b == 0) (2 ^ 32 - 1) (as_word (int_div (signed a) (signed b)))

abbrev pub divu_of : ℕ → ℕ → ℕ
divu_of a b = cond (b == 0) (2 ^ 32 - 1) (a / b)

-- by zero: the dividend
abbrev pub rem_of : ℕ → ℕ → ℕ
rem_of a b = cond (b == 0) a (as_word (int_rem (signed a) (signed b)))

abbrev pub remu_of : ℕ → ℕ → ℕ
remu_of a b = cond (b == 0) a (a % b)

-- a is the word of rs1 or vs2, b that of the other operand
abbrev pub apply_of : Op → ℕ → ℕ → ℕ
apply_of Add a b = add_of a b
apply_of Sub a b = sub_of a b
apply_of Rsub a b = sub_of b a
apply_of Sll a b = sll_of a b
apply_of Srl a b = srl_of a b
apply_of Sra a b = sra_of a b
apply_of Slt a b = flag_of (less_of a b)
apply_of Sltu a b = flag_of (nat_lt a b)
apply_of And a b = bit_and a b
apply_of Or a b = bit_or a b
apply_of Xor a b = bit_xor a b
apply_of Mul a b = mul_of a b
apply_of Mulh a b = mulh_of a b
apply_of Mulhsu a b = mulhsu_of a b
apply_of Mulhu a b = mulhu_of a b
apply_of Div a b = div_of a b
apply_of Divu a b = divu_of a b
apply_of Rem a b = rem_of a b
apply_of Remu a b = remu_of a b
apply_of Min a b = cond (less_of a b) a b
apply_of Minu a b = cond (nat_lt a b) a b
apply_of Max a b = cond (less_of a b) b a
apply_of Maxu a b = cond (nat_lt a b) b a
apply_of Seq a b = flag_of (a == b)
apply_of Sne a b = flag_of (not (a == b))
apply_of Sle a b = flag_of (not (less_of b a))
apply_of Sleu a b = flag_of (nat_le a b)
apply_of Sgt a b = flag_of (less_of b a)
apply_of Sgtu a b = flag_of (nat_lt b a)

abbrev pub holds_of : Cond → ℕ → ℕ → Bool
holds_of Eq a b = a == b
holds_of Ne a b = not (a == b)
holds_of Lt a b = less_of a b
holds_of Ge a b = not (less_of a b)
holds_of Ltu a b = nat_lt a b
holds_of Geu a b = nat_le b a

-- the word of an n-bit field whose highest bit is its sign: from half of 2 ^ n on, the field less 2 ^ n, wrapped
abbrev pub extend_of : ℕ → ℕ → ℕ
extend_of n x = cond (nat_lt x (2 ^ (n - 1))) x (x + 2 ^ 32 - 2 ^ n)
