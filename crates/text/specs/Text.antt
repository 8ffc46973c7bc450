-- Numbers and lines as ASCII bytes.
use Rattle.std.specs.Prelude.{ℕ, zero, suc, ◌+◌, ◌-◌, ◌/◌, ◌%◌, cond, List, [], ◌∷◌, ◌++◌, ltb, length, replicate}

-- `0` to `9`, then `a` to `f`
abbrev pub digit_of : ℕ → ℕ
digit_of x = cond (ltb x 10) (48 + x) (87 + x)

-- the last k hexadecimal digits of n
abbrev pub hex_digits : ℕ → ℕ → List ℕ
hex_digits zero n = []
hex_digits (suc k) n = hex_digits k (n / 16) ++ (digit_of (n % 16) ∷ [])

-- n in decimal: its last digit, after at most k others, and none in front that is not needed
abbrev pub decimal_digits : ℕ → ℕ → List ℕ
decimal_digits zero n = digit_of (n % 10) ∷ []
decimal_digits (suc k) n = cond (ltb n 10) [] (decimal_digits k (n / 10)) ++ (digit_of (n % 10) ∷ [])

-- a 32-bit word in 8 hexadecimal digits; a number below 2^64 in decimal
unfoldable pub hex_of : ℕ → List ℕ
hex_of n = hex_digits 8 n

unfoldable pub decimal_of : ℕ → List ℕ
decimal_of n = decimal_digits 19 n

-- n in decimal with blanks in front, w places wide where its digits are no more
unfoldable pub right_of : ℕ → ℕ → List ℕ
right_of w n = replicate (w - length (decimal_of n)) 32 ++ decimal_of n

-- a name with the blank after it, a value, a line feed
abbrev pub line_of : List ℕ → List ℕ → List ℕ
line_of name value = name ++ value ++ (10 ∷ [])
