-- A single warp has one memory: with no byte of local memory, its accesses and its refusal 1 are those of the data memory alone.
use Rattle.std.specs.Prelude.{ℕ, ◌+◌, ◌*◌, ◌^◌, ◌≤◌, ◌≡◌, true, List, [], ◌∷◌, eqb, leb, length}
use Rattle.answer.specs.Rows.{every, between}
use Rattle.isa.specs.declared.LoadOp.{LoadOp}
use Rattle.isa.specs.declared.StoreOp.{StoreOp}
use Rattle.lanes.specs.Lanes.{file_words}
use Rattle.memory.specs.Memory.{Memory, memory, memory_ok_of, size_of, width_of, inside_of, load_of, store_of}
use Rattle.memory.specs.Memories.{alone, inside_one, load_from, store_to}
use Rattle.warp.specs.declared.Warp.{Warp}
use Rattle.definition.specs.State.{State, state, memory_of}
use Rattle.definition.specs.Refuse.{kernel_limit, runs_ok_of}
use Rattle.definition.specs.Step.{step_of}

-- the data memory of the warp w, with the bytes d
abbrev pub data_of : Warp → List ℕ → Memory
data_of w d = memory w.fixed.dataBase d

-- the state of a single warp
abbrev pub single : Warp → List ℕ → List ℕ → State
single w v d = state w v (alone d)

pub record InData (w : Warp) (v d : List ℕ) : Type 0 where
  -- an access of a byte or more lies inside exactly where it lies wholly in the data memory
  pub inside : (n a : ℕ) → 1 ≤ n → inside_one (memory_of (single w v d)) n a ≡ inside_of (data_of w d) n a
  -- there a load finds what it finds in the data memory, and a store leaves what it leaves there
  pub load : (k : LoadOp) (a : ℕ) → inside_of (data_of w d) (size_of k) a ≡ true → load_from k (memory_of (single w v d)) a ≡ load_of k (data_of w d) a
  pub store : (k : StoreOp) (a x : ℕ) → inside_of (data_of w d) (width_of k) a ≡ true → store_to k a x (memory_of (single w v d)) ≡ alone (store_of k a x (data_of w d))
  -- a step leaves no byte of local memory either
  pub stays : (k : List ℕ) → (step_of k (single w v d)).left.bytes ≡ alone (step_of k (single w v d)).left.bytes.data_bytes
  -- refusal 1 tests kernel, code, vector file and data memory; LDS is a word
  pub runs : w.fixed.lds ≤ 2 ^ 32 → (k : List ℕ)
      → runs_ok_of w.fixed k v (alone d)
      ≡ every (between 1 (length k) kernel_limit ∷ leb (w.fixed.codeBase + 4 * length k) (2 ^ 32) ∷ eqb (length v) file_words ∷ memory_ok_of (data_of w d) ∷ [])

-- ---- the promise

abbrev pub OneSpace : Type 0
OneSpace = (w : Warp) (v d : List ℕ) → InData w v d
