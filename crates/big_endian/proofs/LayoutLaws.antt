-- A layout, once over its widths: writing what is read, and reading what is written.
use Prim.Native.Nat.{ℕ, ◌+◌, ◌^◌, ◌<◌}
use mathlib.Core.Path.{◌≡◌, refl, sym, ap, ap₂, ◌∙◌}
use mathlib.Core.List.{List, [], ◌∷◌, ◌++◌, append_assoc, append-nil}
use native.Mathlib.Omega.{arith}
use lib.ListN.{length, drop, length-append, drop_of_length-le}
use lib.Seq.{sets, sets-eq}
use Rattle.text.proofs.Laws.{sets_append}
use Rattle.big_endian.specs.BigEndian.{be_at, be_bytes}
use Rattle.big_endian.proofs.BigEndianLaws.{Bytes, length_be, bytes_at_lem, at_bytes}
use Rattle.big_endian.specs.Layout.{Values, end, ◌▹◌, total_of, values_at, bytes_of}
use Rattle.big_endian.specs.Puts.{puts_all}

-- P holds of each width and its value
abbrev pub Each : (ℕ → ℕ → Type 0) → {ws : List ℕ} → Values ws → Type 0
Each P end = record {}
Each P (◌▹◌ {w} x xs) = P w x × Each P xs

-- each value fits its bytes
abbrev pub InPlace : {ws : List ℕ} → Values ws → Type 0
InPlace xs = Each (λ w x. x < 256 ^ w) xs

pub layout_length : {ws : List ℕ} (xs : Values ws) → length (bytes_of xs) ≡ total_of ws
layout_length end = refl
layout_length (◌▹◌ {w} x xs) = length-append (be_bytes w x) (bytes_of xs) ∙ ap₂ ◌+◌ (length_be w x) (layout_length xs)

-- writing what is read
pub bytes_values : (d : List ℕ) → Bytes d → (ws : List ℕ) (i : ℕ) → i + total_of ws ≡ length d → bytes_of (values_at ws d i) ≡ drop i d
bytes_values d h [] i e = sym (drop_of_length-le d {i = i} (omega arith))
bytes_values d h (w ∷ ws) i e =
    ap (λ (r : List ℕ). be_bytes w (be_at w d i) ++ r) (bytes_values d h ws (i + w) (omega arith)) ∙ bytes_at_lem d h w i (omega arith)

-- reading what is written
pub values_bytes : {ws : List ℕ} (xs : Values ws) → InPlace xs → (p : List ℕ) → values_at ws (p ++ bytes_of xs) (length p) ≡ xs
values_bytes end f p = refl
values_bytes (◌▹◌ {w} {ws} x xs) f p =
    ap₂ (λ (y : ℕ) (ys : Values ws). ◌▹◌ {w = w} y ys) (at_bytes w x p (bytes_of xs) f.0)
    (ap₂ (λ (d : List ℕ) (i : ℕ). values_at ws d i) (sym (append_assoc p (be_bytes w x) (bytes_of xs))) (sym (length-append p (be_bytes w x) ∙ ap (λ (k : ℕ). length p + k) (length_be w x)))
    ∙ values_bytes xs f.1 (p ++ be_bytes w x))

-- ---- the values put into a target one after another

pub puts_sets : {ws : List ℕ} (xs : Values ws) (i : ℕ) (t : List ℕ) → puts_all xs i t ≡ sets t i (bytes_of xs)
puts_sets end i t = refl
puts_sets (◌▹◌ {w} x xs) i t =
    puts_sets xs (i + w) (sets t i (be_bytes w x))
    ∙ ap (λ (k : ℕ). sets (sets t i (be_bytes w x)) (i + k) (bytes_of xs)) (sym (length_be w x))
    ∙ sets_append (be_bytes w x) t i (bytes_of xs)

-- a target of just their size then holds their bytes
pub puts_all_lem : {ws : List ℕ} (xs : Values ws) (t : List ℕ) → length t ≡ total_of ws → puts_all xs 0 t ≡ bytes_of xs
puts_all_lem {ws} xs t e =
    puts_sets xs 0 t ∙ sets-eq (bytes_of xs) t 0 (let z = layout_length xs in omega arith)
    ∙ ap (λ (r : List ℕ). bytes_of xs ++ r) (drop_of_length-le t {i = 0 + length (bytes_of xs)} (let z = layout_length xs in omega arith)) ∙ append-nil (bytes_of xs)
