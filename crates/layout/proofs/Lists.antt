-- Lists by their elements and by their parts.
use Prim.Native.Nat.{ℕ, zero, suc, ◌+◌, ◌≤◌}
use mathlib.Core.Path.{◌≡◌, refl, ◌∙◌, ap}
use mathlib.Core.List.{List, [], ◌∷◌, append-nil}
use native.Mathlib.Omega.{arith}
use lib.ListN.{get_or, length, drop_of_length-le}
use lib.Seq.{sets, sets-eq}
use Rattle.layout.specs.Words.{split_size, moving_count}

-- ---- a list by its elements

-- the n elements of h from i on
unfoldable pub cells : ℕ → ℕ → List ℕ → List ℕ
cells zero i h = []
cells (suc n) i h = get_or h i 0 ∷ cells n (suc i) h

shifted : (n i a : ℕ) (h : List ℕ) → cells n (suc i) (a ∷ h) ≡ cells n i h
unfolding cells
shifted zero i a h = refl
shifted (suc n) i a h = rw (shifted n (suc i) a h)

whole : (h : List ℕ) → h ≡ cells (length h) 0 h
unfolding cells
whole [] = refl
whole (a ∷ h) = rw (shifted (length h) 0 a h) (ap (λ (l : List ℕ). a ∷ l) (whole h))

pub cells_are : (n : ℕ) (h : List ℕ) → length h ≡ n → h ≡ cells n 0 h
cells_are n h z = whole h ∙ ap (λ (k : ℕ). cells k 0 h) z

-- the moving words written out, so that set and get_or compute on them
pub moving_cells : (h : List ℕ) → length h ≡ moving_count → h ≡ get_or h 0 0 ∷ get_or h 1 0 ∷ get_or h 2 0 ∷ get_or h 3 0 ∷ get_or h 4 0 ∷ get_or h 5 0 ∷ get_or h 6 0 ∷ get_or h 7 0 ∷ get_or h 8 0 ∷ []
unfolding cells
moving_cells h z = cells_are moving_count h z

-- to show P of words that have a first split record, it is enough to show it where that record is written out
pub record_first : (P : List ℕ → Type 0) → ((a b c d e : ℕ) (s : List ℕ) → P (a ∷ b ∷ c ∷ d ∷ e ∷ s)) → (s : List ℕ) → split_size ≤ length s → P s
record_first P f [] h = absurd (omega arith)
record_first P f (a ∷ []) h = absurd (omega arith)
record_first P f (a ∷ b ∷ []) h = absurd (omega arith)
record_first P f (a ∷ b ∷ c ∷ []) h = absurd (omega arith)
record_first P f (a ∷ b ∷ c ∷ d ∷ []) h = absurd (omega arith)
record_first P f (a ∷ b ∷ c ∷ d ∷ e ∷ s) h = f a b c d e s

-- ---- a list overwritten

pub sets_over : {A : Type 0} (l vs : List A) → length l ≡ length vs → sets l 0 vs ≡ vs
sets_over l vs e =
    let n : 0 + length vs ≡ length l = omega arith in
    let o : length l ≤ 0 + length vs = omega arith in
    sets-eq vs l 0 (omega arith) ∙ rw (drop_of_length-le l o) (append-nil vs)
