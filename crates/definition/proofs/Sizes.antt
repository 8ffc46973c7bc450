-- What the test of the lent runs' sizes says, part by part.
use Prim.Native.Nat.{ℕ, ◌+◌, ◌*◌, ◌^◌, ◌≤◌}
use mathlib.Core.Path.{◌≡◌}
use mathlib.Core.Bool.{true, false}
use mathlib.Core.List.{List, [], ◌∷◌}
use lib.Dec.{eqb, leb}
use lib.ListN.{length}
use borrow.Author.Tests.{eqb-true, leb-true}
use Rattle.answer.specs.Rows.{between}
use Rattle.answer.proofs.Rows.{every_at}
use Rattle.lanes.specs.Lanes.{file_words}
use Rattle.memory.specs.Memory.{MemoryOk}
use Rattle.memory.specs.Memories.{Region, Data, Local, Contents, bytes_at, memory_at, overlap_of, memories_ok_of}
use Rattle.memory.proofs.Access.{memories_ok, memories_apart}
use Rattle.warp.specs.declared.Fixed.{Fixed}
use Rattle.definition.specs.State.{memories_in}
use Rattle.definition.specs.Refuse.{kernel_limit, runs_ok_of}

module _ (f : Fixed) (k v : List ℕ) (c : Contents) where
  pub record Sizes : Type 0 where
    pub file_is : length v ≡ file_words
    pub data_ok : MemoryOk (memory_at Data (memories_in f c))
    pub local_ok : MemoryOk (memory_at Local (memories_in f c))
    pub apart : overlap_of (memory_at Data (memories_in f c)) (memory_at Local (memories_in f c)) ≡ false
    pub code_ok : f.codeBase + 4 * length k ≤ 2 ^ 32

  pub sizes : runs_ok_of f k v c ≡ true → Sizes
  unfolding runs_ok_of
  sizes e =
      let p = every_at (between 1 (length k) kernel_limit ∷ leb (f.codeBase + 4 * length k) (2 ^ 32) ∷ eqb (length v) file_words ∷ memories_ok_of (memories_in f c) ∷ []) e in
      let q = memories_ok (memories_in f c) (p 3) in
      record { file_is = eqb-true _ _ (p 2); data_ok = q.0; local_ok = q.1; apart = memories_apart (memories_in f c) (p 3); code_ok = leb-true _ _ (p 1) }

  -- the lengths alone decide
  pub sizes_kept : (u : List ℕ) (e : Contents) → length u ≡ length v → ((r : Region) → length (bytes_at r e) ≡ length (bytes_at r c)) → runs_ok_of f k u e ≡ runs_ok_of f k v c
  unfolding runs_ok_of
  sizes_kept u e p q = rw (p, q Data, q Local)
