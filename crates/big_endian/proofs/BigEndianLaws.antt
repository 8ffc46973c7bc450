-- Big-endian bytes, once over the width: reading what is written, and writing what is read.
use Prim.Native.Nat.{ℕ, zero, suc, ◌+◌, ◌*◌, ◌/◌, ◌%◌, ◌^◌, ◌≤◌, ◌<◌}
use mathlib.Core.Path.{◌≡◌, refl, sym, ap, ap₂, ◌∙◌}
use mathlib.Core.List.{List, [], ◌∷◌, ◌++◌, append_assoc}
use native.Mathlib.Omega.{arith}
use native.Mathlib.Nat.{add-zero, add-suc, suc-add, mul_assoc, mul_comm, pow-suc, mul-le-mul_right, mul-add-div_right, mul-add-mod_self_right, div-eq_of_lt, mod-eq_of_lt, mod-lt, div-lt_iff_lt-mul, div-add-mod', div-one}
use lib.ListN.{length, drop, get_or, length-append}
use lib.Seq.{drop-cons, get_or-append_seam}
use Rattle.std.specs.Int.{bytes_high_first}
use Rattle.big_endian.specs.BigEndian.{be_at, be_bytes}

-- the bytes of d are below 256
abbrev pub Bytes : List ℕ → Type 0
Bytes d = (i : ℕ) → get_or d i 0 < 256

-- the language's own bytes of a number, and the low n of them
pub be_bytes_is : (n x : ℕ) → bytes_high_first n x ≡ be_bytes n x
unfolding be_bytes
be_bytes_is zero x = refl
be_bytes_is (suc zero) x = ap (λ (y : ℕ). y % 256 ∷ []) (sym (div-one x))
be_bytes_is (suc (suc n)) x = ap (λ (t : List ℕ). x / 256 ^ suc n % 256 ∷ t) (be_bytes_is (suc n) x)

pub length_be : (n x : ℕ) → length (be_bytes n x) ≡ n
unfolding be_bytes
length_be zero x = refl
length_be (suc n) x = ap suc (length_be n x)

pow_pos : (n : ℕ) → 0 < 256 ^ n
pow_pos zero = omega arith
pow_pos (suc n) = rw pow-suc (let h = pow_pos n in omega arith)

-- b above n bytes, as 256 b above one byte less
shift : (n b y : ℕ) → b * 256 ^ suc n + y ≡ b * 256 * 256 ^ n + y
shift n b y = ap (λ (z : ℕ). z + y) (ap (λ (z : ℕ). b * z) (pow-suc 256 n ∙ mul_comm (256 ^ n) 256) ∙ sym (mul_assoc b 256 (256 ^ n)))

-- what lies above the n low bytes doesn't show in them
be_low : (n b y : ℕ) → be_bytes n (b * 256 ^ n + y) ≡ be_bytes n y
unfolding be_bytes
be_low zero b y = refl
be_low (suc n) b y =
    ap₂ (λ (h : ℕ) (t : List ℕ). h ∷ t)
    (ap (λ (z : ℕ). z / 256 ^ n % 256) (shift n b y)
    ∙ ap (λ (z : ℕ). z % 256) (mul-add-div_right (pow_pos n) (b * 256) y)
    ∙ mul-add-mod_self_right b 256 (y / 256 ^ n))
    (ap (be_bytes n) (shift n b y) ∙ be_low n (b * 256) y)

-- the byte above n bytes
be_high : (n b y : ℕ) → b < 256 → y < 256 ^ n → (b * 256 ^ n + y) / 256 ^ n % 256 ≡ b
be_high n b y hb hy =
    ap (λ (z : ℕ). z % 256) (mul-add-div_right (pow_pos n) b y ∙ ap (λ (z : ℕ). b + z) (div-eq_of_lt hy) ∙ add-zero b) ∙ mod-eq_of_lt hb

pub at_below : (d : List ℕ) → Bytes d → (n i : ℕ) → be_at n d i < 256 ^ n
at_below d h zero i = omega arith
at_below d h (suc n) i =
    rw pow-suc
    (let a = at_below d h n (suc i) in
    let b = mul-le-mul_right {m = get_or d i 0} {n = 255} (256 ^ n) (let z = h i in omega arith) in
    omega arith)

-- writing what is read
pub bytes_at_lem : (d : List ℕ) → Bytes d → (n i : ℕ) → i + n ≤ length d → be_bytes n (be_at n d i) ++ drop (i + n) d ≡ drop i d
unfolding be_bytes
bytes_at_lem d h zero i l = ap (λ (k : ℕ). drop k d) (add-zero i)
bytes_at_lem d h (suc n) i l =
    let e : i + suc n ≡ suc i + n = add-suc i n ∙ sym (suc-add i n) in
    ap₂ (λ (b : ℕ) (t : List ℕ). b ∷ t) (be_high n (get_or d i 0) (be_at n d (suc i)) (h i) (at_below d h n (suc i)))
    (ap₂ (λ (t : List ℕ) (k : ℕ). t ++ drop k d) (be_low n (get_or d i 0) (be_at n d (suc i))) e ∙ bytes_at_lem d h n (suc i) (omega arith))
    ∙ sym (drop-cons d i 0 (omega arith))

-- reading what is written
pub at_bytes : (n x : ℕ) (p q : List ℕ) → x < 256 ^ n → be_at n (p ++ (be_bytes n x ++ q)) (length p) ≡ x
unfolding be_bytes
at_bytes zero x p q h = omega arith
at_bytes (suc n) x p q h =
    let top : x / 256 ^ n % 256 ≡ x / 256 ^ n = mod-eq_of_lt ((div-lt_iff_lt-mul (pow_pos n)).1 (rw (mul_comm, ← pow-suc) h)) in
    let low : be_bytes n x ≡ be_bytes n (x % 256 ^ n) = ap (be_bytes n) (sym (div-add-mod' x (256 ^ n))) ∙ be_low n (x / 256 ^ n) (x % 256 ^ n) in
    let b : ℕ = x / 256 ^ n % 256 in
    ap₂ (λ (u v : ℕ). u * 256 ^ n + v) (get_or-append_seam p b (be_bytes n x ++ q) 0 ∙ top)
    (ap₂ (λ (l : List ℕ) (k : ℕ). be_at n l k) (sym (append_assoc p (b ∷ []) (be_bytes n x ++ q)) ∙ ap (λ (t : List ℕ). p ++ (b ∷ []) ++ (t ++ q)) low) (sym (length_snoc p b))
    ∙ at_bytes n (x % 256 ^ n) (p ++ (b ∷ [])) q (mod-lt x (pow_pos n)))
    ∙ div-add-mod' x (256 ^ n)
  where
    length_snoc : (p : List ℕ) (b : ℕ) → length (p ++ (b ∷ [])) ≡ suc (length p)
    length_snoc p b = simp length-append (omega arith)
