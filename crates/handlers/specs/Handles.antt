-- What a function on a running warp's lent words does: g, h, x and s are the warp's words (layout/specs/Words.antt), v is the vector file and c the bytes of the memories.
use Rattle.std.specs.Prelude.{ℕ, ◌≡◌, true, List, length}
use Rattle.isa.specs.declared.XReg.{XReg}
use Rattle.memory.specs.Memories.{Contents}
use Rattle.warp.specs.declared.Warp.{Warp}
use Rattle.warp.specs.Warp.{write_x, next}
use Rattle.layout.specs.Words.{moving_count, flat_count, warp_of, sound_of}
use Rattle.definition.specs.State.{State, state, Outcome, outcome}

-- the lent lists, and the state that they stand for
pub record Lists : Type 0 where
  pub fixed : List ℕ
  pub moving : List ℕ
  pub scalars : List ℕ
  pub splits : List ℕ
  pub vector : List ℕ
  pub bytes : Contents

abbrev pub lists : List ℕ → List ℕ → List ℕ → List ℕ → List ℕ → Contents → Lists
lists g h x s v c = record { fixed = g; moving = h; scalars = x; splits = s; vector = v; bytes = c }

abbrev pub lent_warp : Lists → Warp
lent_warp a = warp_of a.fixed a.moving a.scalars a.splits

abbrev pub lent_state : Lists → State
lent_state a = state (lent_warp a) a.vector a.bytes

-- from the lists a to the lists b the state goes as f says, with the answer c; the words stay those of a warp
pub record Handles (f : State → Outcome) (c : ℕ) (a b : Lists) : Type 0 where
  pub long : length b.moving ≡ moving_count
  pub room : length b.splits ≡ flat_count
  pub sound : sound_of a.moving a.splits ≡ true → sound_of b.moving b.splits ≡ true
  pub goes : outcome c (lent_state b) ≡ f (lent_state a)

-- y goes to the scalar register r, and the PC to PC + 4
abbrev pub puts_in : XReg → ℕ → Warp → Warp
puts_in r y w = next (write_x r y w)
