-- An answer is told by its number and what it leaves.
use Prim.Native.Nat.{ℕ}
use native.Mathlib.Omega.{arith}
use mathlib.Core.Path.{◌≡◌, refl, sym, ◌∙◌, ap}
use mathlib.Core.Bool.{true, false, true≢false}
use mathlib.Core.List.{[], ◌∷◌}
use lib.ListN.{get_or}
use Rattle.std.specs.Prelude.{Result, Ok, Err, is_err}
use Rattle.std.specs.Result.{result_unwrap_or}
use Rattle.answer.specs.declared.Refusal.{Refusal}
use Rattle.answer.specs.declared.Refusal.TheVariants.{Size, Malformed, Ended, Waiting, OffKernel, Unknown, BadCsr, BadTarget, Outside, Differing, SplitOpen, NotWaiting, BadCard, Crossing, Clashing, BadSheet, NoSteps}
use Rattle.answer.specs.Answer.{refusal_of, number_of}

-- the refusal of each number
numbered : ℕ → Refusal
numbered n =
    get_or
    (Size ∷ Size ∷ Malformed ∷ Ended ∷ Waiting ∷ OffKernel ∷ Unknown ∷ BadCsr ∷ BadTarget ∷ Outside ∷ Differing ∷ SplitOpen ∷ NotWaiting ∷ BadCard ∷ Crossing ∷ Clashing ∷ BadSheet ∷ NoSteps ∷ [])
    n Size

back : (r : Refusal) → numbered (refusal_of r) ≡ r
unfolding numbered
back Size = refl
back Malformed = refl
back Ended = refl
back Waiting = refl
back OffKernel = refl
back Unknown = refl
back BadCsr = refl
back BadTarget = refl
back Outside = refl
back Differing = refl
back SplitOpen = refl
back NotWaiting = refl
back BadCard = refl
back Crossing = refl
back Clashing = refl
back BadSheet = refl
back NoSteps = refl

-- two refusals with one number are one refusal
pub refusal_one : (r s : Refusal) → refusal_of r ≡ refusal_of s → r ≡ s
refusal_one r s e = sym (back r) ∙ ap numbered e ∙ back s

-- no refusal has the number 0
pub some_number : (r : Refusal) → refusal_of r ≡ 0 → ⊥
some_number Size e = omega arith
some_number Malformed e = omega arith
some_number Ended e = omega arith
some_number Waiting e = omega arith
some_number OffKernel e = omega arith
some_number Unknown e = omega arith
some_number BadCsr e = omega arith
some_number BadTarget e = omega arith
some_number Outside e = omega arith
some_number Differing e = omega arith
some_number SplitOpen e = omega arith
some_number NotWaiting e = omega arith
some_number BadCard e = omega arith
some_number Crossing e = omega arith
some_number Clashing e = omega arith
some_number BadSheet e = omega arith
some_number NoSteps e = omega arith

pub done_zero : {A : Type 0} (r : Result A Refusal) → is_err r ≡ false → number_of r ≡ 0
done_zero (Ok x) e = refl
done_zero (Err w) e = absurd (true≢false e)

pub refused_some : {A : Type 0} (r : Result A Refusal) → is_err r ≡ true → number_of r ≡ 0 → ⊥
refused_some (Ok x) e n = true≢false (sym e)
refused_some (Err w) e n = some_number w n

pub number_one : {A : Type 0} (d : A) (r s : Result A Refusal) → number_of r ≡ number_of s → result_unwrap_or r d ≡ result_unwrap_or s d → r ≡ s
number_one d (Ok x) (Ok y) e f = ap Ok f
number_one d (Ok x) (Err s) e f = absurd (some_number s (sym e))
number_one d (Err r) (Ok y) e f = absurd (some_number r e)
number_one d (Err r) (Err s) e f = ap Err (refusal_one r s e)
