-- A sheet's bytes as code puts and tests them.
use Prim.Native.Nat.{ℕ, ◌+◌, ◌-◌, ◌%◌, ◌<◌, ◌≤◌}
use mathlib.Core.Path.{◌≡◌}
use mathlib.Core.Bool.{false, ◌&&◌, and-true, and-false}
use mathlib.Core.List.{List}
use native.Mathlib.Omega.{arith}
use native.Mathlib.Nat.{div-one, mod-mod}
use lib.Dec.{eqb}
use lib.ListN.{length}
use lib.Seq.{sets}
use borrow.Author.Tests.{le-leb, lt-leb}
use Rattle.text.proofs.Laws.{sets_append}
use Rattle.big_endian.specs.BigEndian.{be_bytes}
use Rattle.big_endian.specs.Layout.{bytes_of}
use Rattle.big_endian.proofs.BigEndianLaws.{length_be}
use Rattle.big_endian.proofs.LayoutLaws.{puts_sets}
use Rattle.sheet_lines.specs.Sheet.{head_size, sheet_version, step_limit, length_of, line_values, head_of, steps_in, length_in, version_in, sheet_ok_of}

-- ---- putting

byte_low : (s : ℕ) → be_bytes 1 (s % 256) ≡ be_bytes 1 s
unfolding be_bytes
byte_low s = rw (div-one, div-one, mod-mod)

pub line_put : (t : List ℕ) (i pc w m s : ℕ)
    → sets (sets (sets (sets t i (be_bytes 4 pc)) (i + 4) (be_bytes 4 w)) (i + 8) (be_bytes 4 m)) (i + 12) (be_bytes 1 (s % 256)) ≡ sets t i (bytes_of (line_values pc w m s))
line_put t i pc w m s =
    let e : i + 8 ≡ i + 4 + 4 = omega arith in
    let f : i + 12 ≡ i + 4 + 4 + 4 = omega arith in
    rw (e, f, byte_low s) (puts_sets (line_values pc w m s) i t)

pub head_put : (t : List ℕ) (n : ℕ) → sets (sets t 0 (be_bytes 4 (length_of n))) 4 (be_bytes 1 sheet_version) ≡ sets t 0 (head_of n)
unfolding head_of
head_put t n = rw (length_be 4 (length_of n)) at (sets_append (be_bytes 4 (length_of n)) t 0 (be_bytes 1 sheet_version))

-- ---- testing

module _ (s : List ℕ) where
  pub sheet_short : length s < head_size → false ≡ sheet_ok_of s
  unfolding sheet_ok_of
  sheet_short h = simp (lt-leb head_size (length s) h)

  pub sheet_many : step_limit < steps_in s → false ≡ sheet_ok_of s
  unfolding sheet_ok_of
  sheet_many h = simp (lt-leb (steps_in s) step_limit h, and-false)

  -- x is the version that was read, y the length
  pub sheet_tests : (x y : ℕ) → x ≡ version_in s → y ≡ length_in s → head_size ≤ length s → steps_in s ≤ step_limit
      → (eqb x sheet_version && (eqb y (length s - 4) && eqb y (length_of (steps_in s)))) ≡ sheet_ok_of s
  unfolding sheet_ok_of
  sheet_tests x y p q h f = rw (p, q) (simp (le-leb head_size (length s) h, le-leb (steps_in s) step_limit f, and-true))
