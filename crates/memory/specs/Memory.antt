-- A memory: bytes lent at a base address, and one access to it.
use Rattle.std.specs.Prelude.{Bool, ◌&&◌, List, ℕ, ◌+◌, ◌-◌, ◌^◌, ◌≤◌, ◌<◌, leb, ltb, length, get_or}
use Rattle.std.proofs.lemmas.List.Edits.{sets}
use Rattle.word.specs.Word.{extend_of}
use Rattle.isa.specs.declared.LoadOp.{LoadOp}
use Rattle.isa.specs.declared.LoadOp.TheVariants.{B, H, W, Bu, Hu}
use Rattle.isa.specs.declared.StoreOp.{StoreOp}
use Rattle.isa.specs.declared.StoreOp.TheVariants as store
use Rattle.memory.specs.Bytes.{le_at, le_bytes}

pub record Memory : Type 0 where
  pub base : ℕ
  pub bytes : List ℕ

abbrev pub memory : ℕ → List ℕ → Memory
memory b d = record { base = b; bytes = d }

-- the first address past its bytes
abbrev pub end_of : Memory → ℕ
end_of m = m.base + length m.bytes

-- the most bytes that may be lent
abbrev pub data_limit : ℕ
data_limit = 65536

-- a memory that may be lent: the test, and the facts
abbrev pub memory_ok_of : Memory → Bool
memory_ok_of m = leb (length m.bytes) data_limit && leb (end_of m) (2 ^ 32)

abbrev pub MemoryOk : Memory → Type 0
MemoryOk m = (length m.bytes ≤ data_limit) × (end_of m ≤ 2 ^ 32)

-- how many bytes a load reads
abbrev pub size_of : LoadOp → ℕ
size_of B = 1
size_of H = 2
size_of W = 4
size_of Bu = 1
size_of Hu = 2

-- how many bytes a store writes
abbrev pub width_of : StoreOp → ℕ
width_of store.B = 1
width_of store.H = 2
width_of store.W = 4

-- the access rule: n bytes at the address a lie wholly in the memory (whole numbers: no access wraps round the end)
abbrev pub inside_of : Memory → ℕ → ℕ → Bool
inside_of m n a = leb m.base a && leb (a + n) (end_of m)

-- an access of n bytes at the address b has the address a: the test, and the facts
abbrev pub has_of : ℕ → ℕ → ℕ → Bool
has_of n b a = leb b a && ltb a (b + n)

abbrev pub Has : ℕ → ℕ → ℕ → Type 0
Has n b a = (b ≤ a) × (a < b + n)

-- the index of the byte at the address a
abbrev pub index_in : Memory → ℕ → ℕ
index_in m a = a - m.base

-- the word of the bytes read: B and H extend the sign, BU and HU do not
abbrev pub widen_of : LoadOp → ℕ → ℕ
widen_of B x = extend_of 8 x
widen_of H x = extend_of 16 x
widen_of W x = x
widen_of Bu x = x
widen_of Hu x = x

-- what a load finds at the address a
abbrev pub load_of : LoadOp → Memory → ℕ → ℕ
load_of k m a = widen_of k (le_at (size_of k) m.bytes (index_in m a))

-- the bytes after a store of x at the address a
abbrev pub store_of : StoreOp → ℕ → ℕ → Memory → List ℕ
store_of k a x m = sets m.bytes (index_in m a) (le_bytes (width_of k) x)

-- the byte at the address a of the word x, which is stored at the address b
abbrev pub byte_at : StoreOp → ℕ → ℕ → ℕ → ℕ
byte_at k b x a = get_or (le_bytes (width_of k) x) (a - b) 0
