-- A well-formed sheet is the sheet of its own lines, and the sheet of lines has just these lines.
use Prim.Native.Nat.{ℕ, zero, suc, ◌+◌, ◌*◌, ◌-◌, ◌^◌, ◌≤◌, ◌<◌}
use mathlib.Core.Path.{◌≡◌, refl, sym, ap, ap₂, ◌∙◌}
use mathlib.Core.Bool.{Bool, true}
use mathlib.Core.List.{List, [], ◌∷◌, ◌++◌, flatten, append_assoc, append-nil}
use native.Mathlib.Omega.{arith}
use lib.Dec.{eqb, leb}
use lib.ListN.{length, take, drop, take-append-drop}
use lib.Seq.{drop-drop, drop-length}
use borrow.Author.Tests.{eqb-true, leb-true, eq-eqb, le-leb}
use Rattle.answer.proofs.Rows.{every_at}
use Rattle.big_endian.specs.BigEndian.{be_at, be_bytes}
use Rattle.big_endian.proofs.BigEndianLaws.{length_be, bytes_at_lem, at_bytes}
use Rattle.sheet_lines.specs.Sheet.{head_size, sheet_version, line_size, step_limit, length_of, sheet_size, head_of, sheet_of, steps_in, length_in, version_in, sheet_ok_of, lines_at, lines_in}
use Rattle.sheet_lines.proofs.Lines.{Lines, lines_back}
use Rattle.sheet_lines.proofs.Sheets.{head_length, sheet_length}
use Rattle.sheet_promises.specs.Sheets.{AllBytes}

-- ---- what a well-formed sheet says

pub record SheetSays (s : List ℕ) : Type 0 where
  pub version : version_in s ≡ sheet_version
  pub size : length_in s ≡ length_of (steps_in s)
  pub total : length s ≡ sheet_size (steps_in s)
  pub few : steps_in s ≤ step_limit

pub sheet_says : (s : List ℕ) → sheet_ok_of s ≡ true → SheetSays s
unfolding sheet_ok_of
sheet_says s e =
    let ts : List Bool = leb head_size (length s) ∷ eqb (version_in s) sheet_version ∷ eqb (length_in s) (length s - 4) ∷ eqb (length_in s) (length_of (steps_in s)) ∷ leb (steps_in s) step_limit ∷ [] in
    let h = leb-true head_size (length s) (every_at ts e 0) in
    let p : length_in s ≡ length s - 4 = eqb-true _ _ (every_at ts e 2) in
    let q : length_in s ≡ length_of (steps_in s) = eqb-true _ _ (every_at ts e 3) in
    record { version = eqb-true _ _ (every_at ts e 1); size = q; total = omega arith; few = leb-true _ _ (every_at ts e 4) }

-- ---- from the bytes to the lines and back

pub lines_long : (n : ℕ) (s : List ℕ) (i : ℕ) → length (lines_at n s i) ≡ n
unfolding lines_at
lines_long zero s i = refl
lines_long (suc n) s i = ap suc (lines_long n s (i + line_size))

flatten_lines : (n : ℕ) (s : List ℕ) (i : ℕ) → i + line_size * n ≡ length s → flatten (lines_at n s i) ≡ drop i s
unfolding lines_at flatten
flatten_lines zero s i e = let q : i ≡ length s = omega arith in sym (ap (λ (j : ℕ). drop j s) q ∙ drop-length s)
flatten_lines (suc n) s i e =
    ap (λ (r : List ℕ). take line_size (drop i s) ++ r) (flatten_lines n s (i + line_size) (omega arith) ∙ sym (drop-drop line_size i s))
    ∙ take-append-drop line_size (drop i s)

pub sheet_back : (s : List ℕ) → AllBytes s → sheet_ok_of s ≡ true → sheet_of (lines_in s) ≡ s
unfolding sheet_of head_of
sheet_back s h ok =
    let f = sheet_says s ok in
    let n : ℕ = steps_in s in
    ap₂ (λ (a b : List ℕ). a ++ be_bytes 1 sheet_version ++ b) (ap (λ (i : ℕ). be_bytes 4 (length_of i)) (lines_long n s head_size)) (flatten_lines n s head_size (sym f.total))
    ∙ append_assoc (be_bytes 4 (length_of n)) (be_bytes 1 sheet_version) (drop head_size s)
    ∙ ap₂ (λ (a b : ℕ). be_bytes 4 a ++ (be_bytes 1 b ++ drop head_size s)) (sym f.size) (sym f.version)
    ∙ ap (λ (r : List ℕ). be_bytes 4 (length_in s) ++ r) (bytes_at_lem s h 1 4 (omega (arith, f.total)))
    ∙ bytes_at_lem s h 4 0 (omega (arith, f.total))

-- ---- from lines to their sheet and back

module _ (ls : List (List ℕ)) (h : Lines ls) (few : length ls ≤ step_limit) where
  abbrev sheet : List ℕ
  sheet = sheet_of ls

  abbrev size : List ℕ
  size = be_bytes 4 (length_of (length ls))

  total : length sheet ≡ sheet_size (length ls)
  total = sheet_length ls h

  steps : steps_in sheet ≡ length ls
  steps = omega (arith, total)

  parts : sheet ≡ size ++ (be_bytes 1 sheet_version ++ flatten ls)
  unfolding sheet_of head_of
  parts = append_assoc size (be_bytes 1 sheet_version) (flatten ls)

  small : length_of (length ls) < 256 ^ 4
  small = omega arith

  length_is : length_in sheet ≡ length_of (length ls)
  length_is = ap (λ (s : List ℕ). be_at 4 s 0) parts ∙ at_bytes 4 (length_of (length ls)) [] (be_bytes 1 sheet_version ++ flatten ls) small

  version_is : version_in sheet ≡ sheet_version
  version_is = ap₂ (λ (s : List ℕ) (i : ℕ). be_at 1 s i) parts (sym (length_be 4 (length_of (length ls)))) ∙ at_bytes 1 sheet_version size (flatten ls) (omega arith)

  pub sheet_formed : sheet_ok_of sheet ≡ true
  unfolding sheet_ok_of
  sheet_formed =
      rw (
        le-leb head_size (length sheet) (omega (arith, total)),
        eq-eqb (version_in sheet) sheet_version version_is,
        eq-eqb (length_in sheet) (length sheet - 4) (length_is ∙ omega (arith, total)),
        eq-eqb (length_in sheet) (length_of (steps_in sheet)) (length_is ∙ ap length_of (sym steps)),
        le-leb (steps_in sheet) step_limit (omega (arith, steps)),
      )

  pub sheet_lines : lines_in sheet ≡ ls
  unfolding sheet_of
  sheet_lines =
      ap (λ (n : ℕ). lines_at n sheet head_size) steps
      ∙ ap₂ (λ (s : List ℕ) (i : ℕ). lines_at (length ls) s i) (ap (λ (r : List ℕ). head_of (length ls) ++ r) (sym (append-nil (flatten ls)))) (sym (head_length (length ls)))
      ∙ lines_back ls h (head_of (length ls)) []
