-- The memories that a warp reaches: the data memory and, in a group, the local memory. A single warp has a local memory of no bytes: no access lies in it.
use Rattle.std.specs.Prelude.{Bool, not, cond, ◌&&◌, ◌||◌, List, [], ℕ, ltb}
use Rattle.isa.specs.declared.LoadOp.{LoadOp}
use Rattle.isa.specs.declared.StoreOp.{StoreOp}
use Rattle.memory.specs.Memory.{Memory, memory, end_of, memory_ok_of, MemoryOk, size_of, width_of, inside_of, load_of, store_of}

-- which of the two
pub data Region : Type 0 where
  Data : Region
  Local : Region

-- the lent bytes of both
pub record Contents : Type 0 where
  pub data_bytes : List ℕ
  pub local_bytes : List ℕ

abbrev pub contents : List ℕ → List ℕ → Contents
contents d l = record { data_bytes = d; local_bytes = l }

-- a single warp's
abbrev pub alone : List ℕ → Contents
alone d = contents d []

abbrev pub bytes_at : Region → Contents → List ℕ
bytes_at Data c = c.data_bytes
bytes_at Local c = c.local_bytes

-- those of one become e
abbrev pub with_bytes : Region → List ℕ → Contents → Contents
with_bytes Data e c = contents e c.local_bytes
with_bytes Local e c = contents c.data_bytes e

-- both memories: the bytes c, at the data base and at LDS
pub record Memories : Type 0 where
  pub dataBase : ℕ
  pub lds : ℕ
  pub bytes : Contents

abbrev pub memories : ℕ → ℕ → Contents → Memories
memories b near c = record { dataBase = b; lds = near; bytes = c }

abbrev pub memory_at : Region → Memories → Memory
memory_at Data m = memory m.dataBase m.bytes.data_bytes
memory_at Local m = memory m.lds m.bytes.local_bytes

-- both have bytes, and an address is in both
abbrev pub overlap_of : Memory → Memory → Bool
overlap_of m n = (ltb m.base (end_of m) && ltb n.base (end_of n)) && (ltb m.base (end_of n) && ltb n.base (end_of m))

-- memories that may be lent: the test, and the facts of each
abbrev pub memories_ok_of : Memories → Bool
memories_ok_of m = memory_ok_of (memory_at Data m) && (memory_ok_of (memory_at Local m) && not (overlap_of (memory_at Data m) (memory_at Local m)))

abbrev pub MemoriesOk : Memories → Type 0
MemoriesOk m = MemoryOk (memory_at Data m) × MemoryOk (memory_at Local m)

-- the access rule: n bytes at the address a lie wholly in one of the memories
abbrev pub inside_one : Memories → ℕ → ℕ → Bool
inside_one m n a = inside_of (memory_at Data m) n a || inside_of (memory_at Local m) n a

-- in which
abbrev pub region_of : Memories → ℕ → ℕ → Region
region_of m n a = cond (inside_of (memory_at Data m) n a) Data Local

-- what a load finds at the address a
unfoldable pub load_from : LoadOp → Memories → ℕ → ℕ
load_from k m a = load_of k (memory_at (region_of m (size_of k) a) m) a

-- the bytes after a store of x at the address a
unfoldable pub store_to : StoreOp → ℕ → ℕ → Memories → Contents
store_to k a x m = let r : Region = region_of m (width_of k) a in with_bytes r (store_of k a x (memory_at r m)) m.bytes
