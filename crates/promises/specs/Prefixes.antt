-- The prefixes REGEXT and REGEXTI.
use Rattle.std.specs.Prelude.{ℕ, ◌-◌, ◌/◌, ◌%◌, ◌^◌, ◌<◌, ◌≤◌, ◌≡◌, Bool, true, List}
use Rattle.answer.specs.Rows.{first}
use Rattle.word.specs.declared.Op.{Op}
use Rattle.isa.specs.declared.Instr.{Instr}
use Rattle.isa.specs.declared.Instr.TheVariants as I
use Rattle.isa.specs.declared.Source.TheVariants as From
use Rattle.isa.specs.declared.VReg.{VReg}
use Rattle.isa.specs.Prefix.{reg_ext, reg_ext_i, prefix, no_prefix, takes_of, allowed}
use Rattle.warp.specs.Warp.{pends}
use Rattle.warp.specs.WellFormed.{well_formed_of}
use Rattle.definition.specs.State.{State, state, Outcome, instr_at, used_up}
use Rattle.definition.specs.Refuse.{step_tests}
use Rattle.definition.specs.Step.{step_of}

-- the instruction is a prefix of kind j with the bits n
pub data IsPrefix : Instr → ℕ → ℕ → Type 0 where
  ext : (n : ℕ) → IsPrefix (I.RegExt n) reg_ext n
  ext_i : (n : ℕ) → IsPrefix (I.RegExtI n) reg_ext_i n

-- A prefix is taken where none of 1 to 5 holds, and changes nothing but the PC and the pending prefix.
pub record PrefixDone (k : List ℕ) (m : State) (j n : ℕ) : Type 0 where
  pub code : (step_of k m).code ≡ first (step_tests k m)
  pub left : (step_of k m).code ≡ 0 → (step_of k m).left ≡ state (pends j n m.warp) m.vector m.bytes

abbrev pub PrefixOnly : Type 0
PrefixOnly = (k : List ℕ) (m : State) (j n : ℕ) → IsPrefix (instr_at k m) j n → PrefixDone k m j n

-- A word that is taken uses the pending prefix up: after it the prefix that the word itself is, is pending, or none. (A refused word leaves it: StepKeeps.)
pub record PendingAfter (k : List ℕ) (m : State) : Type 0 where
  pub own : (j n : ℕ) → IsPrefix (instr_at k m) j n → (step_of k m).left.warp.prefix ≡ prefix j n
  pub other : ((j n : ℕ) → IsPrefix (instr_at k m) j n → ⊥) → (step_of k m).left.warp.prefix ≡ no_prefix

abbrev pub UsedUp : Type 0
UsedUp = (k : List ℕ) (m : State) → (step_of k m).code ≡ 0 → PendingAfter k m

-- the outcome o is that of the word alone, p: the same number, and where it is 0 the same state
pub record AsAlone (o p : Outcome) : Type 0 where
  pub code : o.code ≡ p.code
  pub left : o.code ≡ 0 → o.left ≡ p.left

-- With all digits 0 (x3, which is on no field, may be any) REGEXT changes nothing of a word that takes it.
abbrev pub ZeroDigits : Type 0
ZeroDigits =
    (k : List ℕ) (m : State) (n : ℕ) → well_formed_of m.warp ≡ true → m.warp.prefix ≡ prefix reg_ext n
    → n % 2 ^ 3 ≡ 0 → n / 2 ^ 3 % 2 ^ 3 ≡ 0 → n / 2 ^ 6 % 2 ^ 3 ≡ 0 → allowed reg_ext (takes_of (instr_at k (used_up m))) ≡ true → AsAlone (step_of k m) (step_of k (used_up m))

-- six bits that repeat bit 4 of the five bits i
pub data Repeats (top i : ℕ) : Type 0 where
  clear : i < 2 ^ 4 → top ≡ 0 → Repeats top i
  set : 2 ^ 4 ≤ i → i < 2 ^ 5 → top ≡ 2 ^ 6 - 1 → Repeats top i

-- a VI form whose bit 4 they repeat
pub data RepeatsIn (top : ℕ) : Instr → Type 0 where
  operation : (o : Op) (d b : VReg) (i : ℕ) (t : Bool) → Repeats top i → RepeatsIn top (I.Vector o (record { vd = d; vs2 = b; src = From.I i; masked = t }))
  move : (d : VReg) (i : ℕ) → Repeats top i → RepeatsIn top (I.VMove d (From.I i))
  merge : (d b : VReg) (i : ℕ) → Repeats top i → RepeatsIn top (I.VMerge d b (From.I i))

-- Nor does a REGEXTI whose digits are 0 and whose immediate bits repeat the word's bit 4 change anything of a VI form.
abbrev pub ZeroDigitsI : Type 0
ZeroDigitsI =
    (k : List ℕ) (m : State) (n : ℕ) → well_formed_of m.warp ≡ true → m.warp.prefix ≡ prefix reg_ext_i n → n % 2 ^ 3 ≡ 0 → n / 2 ^ 3 % 2 ^ 3 ≡ 0
    → RepeatsIn (n / 2 ^ 6) (instr_at k (used_up m)) → AsAlone (step_of k m) (step_of k (used_up m))
