-- The three files of a launch: the kernel file's words, the files' limits, and what testing them answers.
use Rattle.std.specs.Prelude.{ℕ, zero, suc, ◌*◌, ◌/◌, ◌%◌, Bool, not, List, [], ◌∷◌, ◌++◌, eqb, leb, length}
use Rattle.answer.specs.Rows.{◌⇒◌, first, every}
use Rattle.memory.specs.Bytes.{le_at}
use Rattle.card.specs.Card.{Reading, reading, read_card_of}

-- the first n little-endian words of a kernel file
abbrev pub first_words : ℕ → List ℕ → List ℕ
first_words zero k = []
first_words (suc n) k = first_words n k ++ (le_at 4 k (4 * n) ∷ [])

unfoldable pub kernel_words_of : List ℕ → List ℕ
kernel_words_of k = first_words (length k / 4) k

-- the programs' own limits, whatever the machine's are: the bytes of a kernel file, and of a data file
abbrev pub kernel_bytes : ℕ
kernel_bytes = 65536

abbrev pub data_bytes : ℕ
data_bytes = 65536

-- a kernel file of whole words, and both within the limits
unfoldable pub files_ok_of : List ℕ → List ℕ → Bool
files_ok_of k d = every (eqb (length k % 4) 0 ∷ leb (length k) kernel_bytes ∷ leb (length d) data_bytes ∷ [])

-- the files c, k and d: the card first, then the files' sizes; and the card's launch
unfoldable pub read_files_of : List ℕ → List ℕ → List ℕ → Reading
read_files_of c k d =
    let r = read_card_of c in
    reading (first (r.number ⇒ not (eqb r.number 0) ∷ 1 ⇒ not (files_ok_of k d) ∷ [])) r.launch
