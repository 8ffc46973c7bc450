-- Lines of 13 bytes, one after another; a run's own lines.
use Prim.Native.Nat.{ℕ, zero, suc, ◌+◌, ◌*◌, ◌≤◌}
use mathlib.Core.Path.{◌≡◌, refl, sym, ap, ap₂, ◌∙◌}
use mathlib.Core.Bool.{Bool, true, false, cond}
use mathlib.Core.List.{List, [], ◌∷◌, ◌++◌, flatten, append_assoc}
use native.Mathlib.Omega.{arith}
use lib.Dec.{eqb}
use lib.ListN.{length, get_or, take, drop, length-append}
use lib.Seq.{take_at, drop-append_seam}
use borrow.Author.Tests.{eq-eqb, ne_eqb}
use Rattle.big_endian.specs.Layout.{bytes_of}
use Rattle.big_endian.proofs.LayoutLaws.{layout_length}
use Rattle.definition.specs.State.{State, place_of}
use Rattle.definition.specs.Step.{step_of}
use Rattle.sheet_lines.specs.Sheet.{line_size, line_values, line_bytes, lines_of, lines_at}

-- each has 13 bytes
abbrev pub Lines : List (List ℕ) → Type 0
Lines [] = record {}
Lines (a ∷ ls) = (length a ≡ line_size) × Lines ls

pub flatten_length : (ls : List (List ℕ)) → Lines ls → length (flatten ls) ≡ line_size * length ls
unfolding flatten
flatten_length [] h = refl
flatten_length (a ∷ ls) h = length-append a (flatten ls) ∙ omega (arith, h.0, flatten_length ls h.1)

pub flatten_append : (a b : List (List ℕ)) → flatten (a ++ b) ≡ flatten a ++ flatten b
unfolding flatten
flatten_append [] b = refl
flatten_append (x ∷ a) b = ap (λ (r : List ℕ). x ++ r) (flatten_append a b) ∙ sym (append_assoc x (flatten a) (flatten b))

-- lines read back from where they stand
pub lines_back : (ls : List (List ℕ)) → Lines ls → (p q : List ℕ) → lines_at (length ls) (p ++ (flatten ls ++ q)) (length p) ≡ ls
unfolding flatten lines_at
lines_back [] h p q = refl
lines_back (a ∷ ls) h p q =
    let e : p ++ ((a ++ flatten ls) ++ q) ≡ p ++ (a ++ (flatten ls ++ q)) = ap (λ (r : List ℕ). p ++ r) (append_assoc a (flatten ls) q) in
    let f : p ++ (a ++ (flatten ls ++ q)) ≡ (p ++ a) ++ (flatten ls ++ q) = sym (append_assoc p a (flatten ls ++ q)) in
    let n : length p + line_size ≡ length (p ++ a) = sym (length-append p a ∙ ap (λ (k : ℕ). length p + k) h.0) in
    ap₂ (λ (x : List ℕ) (xs : List (List ℕ)). x ∷ xs)
    (ap (λ (s : List ℕ). take line_size (drop (length p) s)) e ∙ ap (take line_size) (drop-append_seam p (a ++ (flatten ls ++ q))) ∙ take_at a (flatten ls ++ q) line_size h.0)
    (ap₂ (λ (s : List ℕ) (i : ℕ). lines_at (length ls) s i) (e ∙ f) n ∙ lines_back ls h.1 (p ++ a) q)

-- ---- a run's own lines

pub line_length : (k : List ℕ) (m n : State) → length (line_bytes k m n) ≡ line_size
unfolding line_bytes
line_length k m n = layout_length (line_values _ _ _ _)

-- with the word that was read
pub line_is : (k : List ℕ) (m n : State) (w : ℕ) → w ≡ get_or k (place_of m.warp) 0 → bytes_of (line_values m.warp.pc w n.warp.mask n.warp.depth) ≡ line_bytes k m n
unfolding line_bytes
line_is k m n w e = rw e

module _ (k : List ℕ) (n : ℕ) (m : State) where
  pub lines_taken : (step_of k m).code ≡ 0 → lines_of k (suc n) m ≡ line_bytes k m (step_of k m).left ∷ lines_of k n (step_of k m).left
  unfolding lines_of
  lines_taken z = rw (eq-eqb _ _ z)

  pub lines_refused : ((step_of k m).code ≡ 0 → ⊥) → lines_of k (suc n) m ≡ []
  unfolding lines_of
  lines_refused z = rw (ne_eqb _ _ z)

pub own_lines : (k : List ℕ) (n : ℕ) (m : State) → Lines (lines_of k n m)
unfolding lines_of
own_lines k zero m = record {}
own_lines k (suc n) m = go (eqb (step_of k m).code 0) (own_lines k n (step_of k m).left)
  where
    go : (t : Bool) → Lines (lines_of k n (step_of k m).left) → Lines (cond t (line_bytes k m (step_of k m).left ∷ lines_of k n (step_of k m).left) [])
    go true h = (line_length k m (step_of k m).left, h)
    go false h = record {}

pub lines_few : (k : List ℕ) (n : ℕ) (m : State) → length (lines_of k n m) ≤ n
unfolding lines_of
lines_few k zero m = omega arith
lines_few k (suc n) m = go (eqb (step_of k m).code 0) (lines_few k n (step_of k m).left)
  where
    go : (t : Bool) → length (lines_of k n (step_of k m).left) ≤ n → length (cond t (line_bytes k m (step_of k m).left ∷ lines_of k n (step_of k m).left) []) ≤ suc n
    go true h = omega arith
    go false h = omega arith
