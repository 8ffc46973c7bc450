-- Laws of text put into a buffer, and of digits.
use mathlib.Core.Path.{◌≡◌, refl, ap, sym, ◌∙◌}
use mathlib.Core.Bool.{Bool, true, false, cond}
use mathlib.Core.List.{List, [], ◌∷◌, ◌++◌, append_assoc}
use Prim.Native.Nat.{ℕ, zero, suc, ◌+◌, ◌-◌, ◌/◌, ◌%◌, ◌^◌, ◌≤◌, ◌<◌}
use native.Mathlib.Nat.{add-zero, add-suc, suc-add, pow-suc, mod-eq_of_lt, div-lt_iff_lt-mul}
use native.Mathlib.Numerals.{sub-one}
use native.Mathlib.Omega.{arith}
use lib.Dec.{ltb}
use borrow.Author.Tests.{lt-ltb, le-ltb}
use lib.ListN.{length, take, set, replicate, length-append, length-replicate}
use lib.Seq.{sets, sets-eq, drop-drop}
use borrow.Rule.Slice.PartMut.{put_mid}
use Rattle.text.specs.Puts.{Puts}
use Rattle.text.specs.Text.{digit_of, hex_digits, decimal_digits, hex_of, decimal_of, right_of}

-- ---- one text after another

pub sets_append : (xs t : List ℕ) (i : ℕ) (ys : List ℕ) → sets (sets t i xs) (i + length xs) ys ≡ sets t i (xs ++ ys)
sets_append [] t i ys = ap (λ (k : ℕ). sets t k ys) (add-zero i)
sets_append (x ∷ xs) t i ys =
    ap (λ (k : ℕ). sets (sets (set t i x) (suc i) xs) k ys) (add-suc i (length xs) ∙ sym (suc-add i (length xs))) ∙ sets_append xs (set t i x) (suc i) ys

pub puts_none : (o : List ℕ) (i : ℕ) → Puts o i [] o i
puts_none o i = record { text = refl; end = sym (add-zero i) }

pub puts_then : {o p q a b : List ℕ} {i j k : ℕ} → Puts o i a p j → Puts p j b q k → Puts o i (a ++ b) q k
puts_then {o} {p} {q} {a} {b} {i} {j} {k} s t =
    record {
      text = t.text ∙ rw (s.text, s.end) (sets_append a o i b);
      end = simp length-append (omega arith);
    }

pub puts_as : {o p a b : List ℕ} {i j : ℕ} → b ≡ a → Puts o i a p j → Puts o i b p j
puts_as e s = rw e s

-- a write to the part of o from i on, k long, that leaves w there
pub put_part : (o p w : List ℕ) (i k : ℕ) → p ≡ w → k ≡ length w → i + k ≤ length o → put_mid i k o p ≡ sets o i w
put_part o p w i k e f h =
    rw (e, f) (ap (λ (r : List ℕ). take i o ++ (w ++ r)) (drop-drop (length w) i o)
    ∙ sym (append_assoc (take i o) w _) ∙ sym (sets-eq w o i (omega arith)))

-- ---- hexadecimal

pub hex_length : (k n : ℕ) → length (hex_digits k n) ≡ k
hex_length zero n = refl
hex_length (suc k) n = length-append (hex_digits k (n / 16)) _ ∙ omega (arith, hex_length k (n / 16))

pub hex_size : (n : ℕ) → length (hex_of n) ≡ 8
unfolding hex_of
hex_size n = hex_length 8 n

pub hex_more : (k n : ℕ) → (k ≡ 0 → ⊥) → hex_digits k n ≡ hex_digits (k - 1) (n / 16) ++ (digit_of (n % 16) ∷ [])
hex_more zero n h = absurd (h refl)
hex_more (suc k) n h = rw sub-one

-- ---- decimal

-- one place more changes nothing where the places suffice
places_more : (k n : ℕ) → n < 10 ^ suc k → decimal_digits (suc k) n ≡ decimal_digits k n
places_more zero n h = rw (lt-ltb n 10 h)
places_more (suc k) n h = rw (places_more k (n / 10) ((div-lt_iff_lt-mul (omega arith)).1 (rw pow-suc at h)))

pub decimal_few : (n : ℕ) → n < 10 → decimal_of n ≡ digit_of n ∷ []
unfolding decimal_of
decimal_few n h = rw (mod-eq_of_lt h, lt-ltb n 10 h)

pub decimal_more : (n : ℕ) → 10 ≤ n → n < 2 ^ 64 → decimal_of n ≡ decimal_of (n / 10) ++ (digit_of (n % 10) ∷ [])
unfolding decimal_of
decimal_more n h f = rw (le-ltb n 10 h) (ap (λ (ds : List ℕ). ds ++ (digit_of (n % 10) ∷ [])) (sym (places_more 18 (n / 10) (omega arith))))

cond_length : (t : Bool) (ds : List ℕ) → length (cond t [] ds) ≤ length ds
cond_length true ds = omega arith
cond_length false ds = omega arith

decimal_length : (k n : ℕ) → length (decimal_digits k n) ≤ k + 1
decimal_length zero n = omega arith
decimal_length (suc k) n = simp length-append (omega (arith, cond_length (ltb n 10) (decimal_digits k (n / 10)), decimal_length k (n / 10)))

pub decimal_size : (n : ℕ) → length (decimal_of n) ≤ 20
unfolding decimal_of
decimal_size n = decimal_length 19 n

-- ---- blanks in front

pub right_few : (w n : ℕ) → n < 10 → right_of w n ≡ replicate (w - 1) 32 ++ (digit_of n ∷ [])
unfolding right_of
right_few w n h = rw (decimal_few n h)

pub right_more : (w n : ℕ) → 10 ≤ n → n < 2 ^ 64 → right_of w n ≡ right_of (w - 1) (n / 10) ++ (digit_of (n % 10) ∷ [])
unfolding right_of
right_more w n h f =
    let last : List ℕ = digit_of (n % 10) ∷ [] in
    let e : w - length (decimal_of (n / 10) ++ last) ≡ w - 1 - length (decimal_of (n / 10)) = simp length-append (omega arith) in
    rw (decimal_more n h f, e) (sym (append_assoc (replicate (w - 1 - length (decimal_of (n / 10))) 32) (decimal_of (n / 10)) last))

pub right_size : (w n : ℕ) → w ≤ 20 → length (right_of w n) ≤ 20
unfolding right_of
right_size w n h = simp (length-append, length-replicate) (omega (arith, decimal_size n))
