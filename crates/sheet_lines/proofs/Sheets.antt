-- Whole sheets: their size, a sheet put into a target, and its lines read back.
use Prim.Native.Nat.{ℕ, ◌+◌, ◌-◌, ◌≤◌}
use mathlib.Core.Path.{◌≡◌, sym, ap, ap₂, ◌∙◌}
use mathlib.Core.Bool.{true}
use mathlib.Core.List.{List, [], ◌∷◌, ◌++◌, flatten, append_assoc}
use native.Mathlib.Omega.{arith}
use lib.Dec.{eqb, leb}
use lib.ListN.{length, take, drop, length-append}
use lib.Seq.{sets, sets-eq, drop_at, length-take-le}
use borrow.Author.Tests.{leb-true}
use Rattle.answer.proofs.Rows.{every_at}
use Rattle.big_endian.specs.BigEndian.{be_bytes}
use Rattle.big_endian.proofs.BigEndianLaws.{length_be}
use Rattle.sheet_lines.specs.Sheet.{head_size, sheet_version, step_limit, length_of, sheet_size, head_of, sheet_of, steps_in, length_in, version_in, sheet_ok_of, lines_at}
use Rattle.sheet_lines.proofs.Lines.{Lines, flatten_length, lines_back}

pub head_length : (n : ℕ) → length (head_of n) ≡ head_size
unfolding head_of
head_length n = length-append (be_bytes 4 (length_of n)) (be_bytes 1 sheet_version) ∙ ap₂ ◌+◌ (length_be 4 (length_of n)) (length_be 1 sheet_version)

pub sheet_length : (ls : List (List ℕ)) → Lines ls → length (sheet_of ls) ≡ sheet_size (length ls)
unfolding sheet_of
sheet_length ls h = length-append (head_of (length ls)) (flatten ls) ∙ ap₂ ◌+◌ (head_length (length ls)) (flatten_length ls h)

-- ---- in a target t

module _ (t : List ℕ) (ls : List (List ℕ)) (h : Lines ls) (fits : sheet_size (length ls) ≤ length t) where
  abbrev body : List ℕ
  body = flatten ls

  abbrev past : List ℕ
  past = drop (head_size + length body) t

  enough : head_size + length body ≤ length t
  enough = omega (arith, flatten_length ls h)

  front : length (take head_size t) ≡ head_size
  front = length-take-le head_size t (omega arith)

  body_put : sets t head_size body ≡ take head_size t ++ (body ++ past)
  body_put = sets-eq body t head_size enough ∙ append_assoc (take head_size t) body past

  -- the lines stand where they were put
  pub lines_put : lines_at (length ls) (sets t head_size body) head_size ≡ ls
  lines_put = ap₂ (lines_at (length ls)) body_put (sym front) ∙ lines_back ls h (take head_size t) past

  -- the head put before the lines makes the sheet
  pub sheet_put : sets (sets t head_size body) 0 (head_of (length ls)) ≡ sets t 0 (sheet_of ls)
  unfolding sheet_of
  sheet_put =
      let n : ℕ = length ls in
      let e = head_length n in
      let f = length-append (head_of n) body in
      let i : head_size + length body ≡ 0 + length (head_of n ++ body) = omega arith in
      ap (λ (x : List ℕ). sets x 0 (head_of n)) body_put
      ∙ sets-eq (head_of n) (take head_size t ++ (body ++ past)) 0 (simp length-append (omega (arith, front)))
      ∙ ap (λ (x : List ℕ). head_of n ++ x) (drop_at (take head_size t) (body ++ past) (0 + length (head_of n)) (front ∙ omega arith))
      ∙ sym (append_assoc (head_of n) body past)
      ∙ ap (λ (j : ℕ). head_of n ++ body ++ drop j t) i
      ∙ sym (sets-eq (head_of n ++ body) t 0 (omega (arith, enough)))

-- ---- a well-formed sheet

pub sheet_head : (s : List ℕ) → sheet_ok_of s ≡ true → head_size ≤ length s
unfolding sheet_ok_of
sheet_head s e =
    leb-true _ _
    (every_at (leb head_size (length s) ∷ eqb (version_in s) sheet_version ∷ eqb (length_in s) (length s - 4) ∷ eqb (length_in s) (length_of (steps_in s)) ∷ leb (steps_in s) step_limit ∷ []) e 0)
