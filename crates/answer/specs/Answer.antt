-- The number of each refusal and of each answer.
use Rattle.std.specs.Prelude.{ℕ, Result, Ok, Err}
use Rattle.answer.specs.declared.Refusal.{Refusal}
use Rattle.answer.specs.declared.Refusal.TheVariants.{Size, Malformed, Ended, Waiting, OffKernel, Unknown, BadCsr, BadTarget, Outside, Differing, SplitOpen, NotWaiting, BadCard, Crossing, Clashing, BadSheet, NoSteps}

abbrev pub refusal_of : Refusal → ℕ
refusal_of Size = 1
refusal_of Malformed = 2
refusal_of Ended = 3
refusal_of Waiting = 4
refusal_of OffKernel = 5
refusal_of Unknown = 6
refusal_of BadCsr = 7
refusal_of BadTarget = 8
refusal_of Outside = 9
refusal_of Differing = 10
refusal_of SplitOpen = 11
refusal_of NotWaiting = 12
refusal_of BadCard = 13
refusal_of Crossing = 14
refusal_of Clashing = 15
refusal_of BadSheet = 16
refusal_of NoSteps = 17

-- the largest that a step or a run answers
abbrev pub last_step_number : ℕ
last_step_number = 15

-- of an answer, whatever it leaves: 0 where it is done
abbrev pub number_of : {A : Type 0} → Result A Refusal → ℕ
number_of (Ok x) = 0
number_of (Err r) = refusal_of r
