-- What a step asks of the lent words.
use Rattle.std.specs.Prelude.{ℕ, ◌+◌, ◌-◌, ◌*◌, ◌/◌, ◌^◌, ◌<◌, ◌≤◌, ◌≡◌, true, List, length}
use Rattle.lanes.specs.Lanes.{file_words}
use Rattle.memory.specs.Memories.{MemoriesOk}
use Rattle.layout.specs.Words.{fixed_in}
use Rattle.layout.specs.Lent.{Lent}
use Rattle.definition.specs.State.{memories_in}
use Rattle.definition.specs.Refuse.{runs_ok_of}
use Rattle.isa.specs.declared.Instr.TheVariants.{Refused}
use Rattle.isa.specs.declared.Prefix.{Prefix}
use Rattle.isa.specs.Decode.{decode_of}
use Rattle.isa.specs.Kinds.{instr_of}
use Rattle.isa.specs.Prefix.{prefixed}
use Rattle.isa.specs.Wide.{wide_of}
use Rattle.handlers.specs.Handles.{Lists}

-- a well-formed warp's words, with a file and memories of the right sizes
pub record Ready (a : Lists) : Type 0 where
  pub lent : Lent a.fixed a.moving a.scalars a.splits
  pub file : length a.vector ≡ file_words
  pub memories_ok : MemoriesOk (memories_in (fixed_in a.fixed) a.bytes)

-- the words of a warp that a run goes on with: the sizes of the lent runs are right, and the warp is well formed
pub record Started (k : List ℕ) (a : Lists) : Type 0 where
  pub lent : Lent a.fixed a.moving a.scalars a.splits
  pub sizes : runs_ok_of (fixed_in a.fixed) k a.vector a.bytes ≡ true

-- the PC lies on the kernel word r, or before all of them, and then r is after the last
pub record Lies (pc base r : ℕ) : Type 0 where
  pub on : base ≤ pc → r ≡ (pc - base) / 4
  pub before : (n : ℕ) → base + 4 * n ≤ 2 ^ 32 → pc < base → n ≤ r

-- the prefix p put on the word w: c is 0, and z is the number from which the word's instruction is read with the prefix on it, whatever its kind, or 6
pub record Widens (p : Prefix) (w c z : ℕ) : Type 0 where
  pub taken : c ≡ 0 → (k : ℕ) → instr_of k w ≡ decode_of w → wide_of k z ≡ prefixed p (decode_of w)
  pub number : (c ≡ 0 → ⊥) → c ≡ 6
  pub refused : (c ≡ 0 → ⊥) → prefixed p (decode_of w) ≡ Refused
