-- Laws of a kernel file's words, and the files' tests by cases.
use mathlib.Core.Path.{◌≡◌, refl}
use mathlib.Core.Bool.{Bool, true, false, not}
use mathlib.Core.List.{List, [], ◌∷◌}
use Prim.Native.Nat.{ℕ, ◌+◌, ◌*◌, ◌%◌, ◌≤◌, ◌<◌}
use native.Mathlib.Numerals.{add-one}
use native.Mathlib.Omega.{arith}
use lib.Dec.{eqb, leb}
use borrow.Author.Tests.{eqb-false, ne_eqb, leb-true}
use lib.ListN.{length, take, set}
use lib.Seq.{take-suc-set}
use Rattle.answer.specs.Rows.{◌⇒◌, first, every}
use Rattle.answer.proofs.Rows.{every_at}
use Rattle.memory.specs.Bytes.{le_at}
use Rattle.card.specs.Card.{Reading, reading, read_card_of}
use Rattle.launch_files.specs.LaunchFiles.{first_words, kernel_bytes, data_bytes, files_ok_of, read_files_of}

-- ---- the kernel file's words

pub words_more : (k ws : List ℕ) (i : ℕ) → i < length ws → take i ws ≡ first_words i k → take (i + 1) (set ws i (le_at 4 k (4 * i))) ≡ first_words (i + 1) k
words_more k ws i h e = rw (add-one, take-suc-set ws i _ h, e)

-- ---- the files

module _ (c k d : List ℕ) (r : Reading) (e : r ≡ read_card_of c) where
  pub card_refused : (r.number ≡ 0 → ⊥) → r ≡ read_files_of c k d
  unfolding read_files_of
  card_refused h = rw (← e, ne_eqb r.number 0 h)

  module _ (h : r.number ≡ 0) where
    pub sizes_refused : files_ok_of k d ≡ false → reading 1 r.launch ≡ read_files_of c k d
    unfolding read_files_of
    sizes_refused f = rw (← e, h, f)

    pub sizes_taken : files_ok_of k d ≡ true → r ≡ read_files_of c k d
    unfolding read_files_of
    sizes_taken f = rw (← e, h, f)

-- a kernel file that is not refused is within its limit
pub kernel_fits : (c k d : List ℕ) (r : Reading) → r ≡ read_files_of c k d → r.number ≡ 0 → length k ≤ kernel_bytes
unfolding read_files_of files_ok_of
kernel_fits c k d r e h =
    let n = (read_card_of c).number in
    let sizes : List Bool = eqb (length k % 4) 0 ∷ leb (length k) kernel_bytes ∷ leb (length d) data_bytes ∷ [] in
    leb-true _ _ (every_at sizes (second n (eqb n 0) (every sizes) refl (rw e at h)) 1)
  where
    second : (n : ℕ) (z t : Bool) → eqb n 0 ≡ z → first (n ⇒ not z ∷ 1 ⇒ not t ∷ []) ≡ 0 → t ≡ true
    second n z true p q = refl
    second n true false p q = absurd (omega arith)
    second n false false p q = absurd (eqb-false n 0 p q)
