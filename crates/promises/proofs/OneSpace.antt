-- A single warp has one memory.
use Prim.Native.Nat.{ℕ, ◌+◌, ◌^◌, ◌≤◌}
use mathlib.Core.Path.{◌≡◌, refl, ap}
use mathlib.Core.Bool.{Bool, true, false, ◌&&◌, ◌||◌}
use mathlib.Core.List.{List, [], ◌∷◌}
use native.Mathlib.Omega.{arith}
use lib.Dec.{leb, ltb}
use lib.ListN.{length}
use borrow.Author.Tests.{leb-true, le-leb, lt-leb, le-ltb}
use Rattle.memory.specs.Memory.{Memory, memory, end_of, memory_ok_of, inside_of}
use Rattle.memory.specs.Memories.{Local, contents, alone, overlap_of, memories_ok_of}
use Rattle.memory.proofs.Laws.{load_data, store_data}
use Rattle.warp.specs.declared.Fixed.{Fixed}
use Rattle.definition.specs.State.{memories_in, memory_of}
use Rattle.definition.specs.Refuse.{runs_ok_of}
use Rattle.definition.specs.Step.{step_of}
use Rattle.definition.proofs.Used.{step_within}
use Rattle.promises.specs.OneSpace.{data_of, single, OneSpace}

-- ---- a memory of no bytes

-- no access of a byte or more lies in it
none_inside : (b n a : ℕ) → 1 ≤ n → inside_of (memory b []) n a ≡ false
none_inside b n a h = by (leb b a) refl
  where
    by : (t : Bool) → leb b a ≡ t → (t && leb (a + n) (end_of (memory b []))) ≡ false
    by true e = lt-leb (a + n) (end_of (memory b [])) (omega (arith, leb-true b a e))
    by false e = refl

first_only : (s t : Bool) → t ≡ false → (s || t) ≡ s
first_only true t e = refl
first_only false t e = e

-- it overlaps none
none_overlaps : (m : Memory) (b : ℕ) → overlap_of m (memory b []) ≡ false
none_overlaps m b = rw (le-ltb b (end_of (memory b [])) (omega arith)) (by (ltb m.base (end_of m)) (ltb m.base (end_of (memory b [])) && ltb b (end_of m)))
  where
    by : (s t : Bool) → ((s && false) && t) ≡ false
    by true t = refl
    by false t = refl

no_bytes : (l : List ℕ) → length l ≡ 0 → l ≡ []
no_bytes [] e = refl
no_bytes (b ∷ l) e = absurd (omega arith)

-- the memories may be lent where the data memory may
sizes_of : (f : Fixed) (d : List ℕ) → f.lds ≤ 2 ^ 32 → memories_ok_of (memories_in f (alone d)) ≡ memory_ok_of (memory f.dataBase d)
sizes_of f d h = rw (le-leb (end_of (memory f.lds [])) (2 ^ 32) (omega arith), none_overlaps (memory f.dataBase d) f.lds) (by (memory_ok_of (memory f.dataBase d)))
  where
    by : (s : Bool) → (s && true) ≡ s
    by true = refl
    by false = refl

-- ---- the promise

pub one_space : OneSpace
unfolding runs_ok_of
one_space w v d =
    record {
      inside = λ n a h. first_only (inside_of (data_of w d) n a) _ (none_inside w.fixed.lds n a h);
      load = λ k a e. load_data (memory_of (single w v d)) a k e;
      store = λ k a x e. store_data (memory_of (single w v d)) a k x e;
      stays = λ k. ap (contents (step_of k (single w v d)).left.bytes.data_bytes) (no_bytes _ ((step_within k (single w v d)).size Local));
      runs = λ h k. rw (sizes_of w.fixed d h);
    }
