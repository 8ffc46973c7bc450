-- The split records as words.
use Prim.Native.Nat.{ℕ, zero, suc, ◌+◌, ◌-◌, ◌*◌, ◌<◌, ◌≤◌}
use mathlib.Core.Path.{◌≡◌, refl, sym, ◌∙◌, ap}
use mathlib.Core.Bool.{Bool, true, false, ◌&&◌}
use mathlib.Core.Logic.{⊎_elim}
use mathlib.Core.List.{List, [], ◌∷◌}
use native.Mathlib.Omega.{arith}
use native.Mathlib.Nat.{eq-or-lt_of_le}
use native.Mathlib.Numerals.{add-one, sub-one}
use lib.ListN.{get_or, set, drop, length, length-set, drop_of_length-le}
use lib.Seq.{sets, get_or-drop, drop-drop, drop-cons}
use borrow.Author.Tests.{leb-true}
use Rattle.answer.proofs.Rows.{both}
use Rattle.warp.specs.declared.Split.{Split}
use Rattle.warp.specs.Warp.{split_count, zero_split}
use Rattle.word.specs.Word.{flag_of}
use Rattle.layout.specs.Words.{split_size, flat_count, is_set, is_flag, phase_at, split_at, splits_of, splits_in, phases_ok_of, splits_words}
use Rattle.layout.specs.Lent.{put_split}
use Rattle.layout.proofs.Lists.{record_first}

-- ---- flags

pub flag_bit : (b : Bool) → is_set (flag_of b) ≡ b
flag_bit true = refl
flag_bit false = refl

pub flag_is : (b : Bool) → is_flag (flag_of b) ≡ true
flag_is true = refl
flag_is false = refl

pub flag_word : (n : ℕ) → is_flag n ≡ true → flag_of (is_set n) ≡ n
flag_word zero h = refl
flag_word (suc zero) h = refl
flag_word (suc (suc n)) h = absurd (omega (arith, leb-true (suc (suc n)) 1 h))

-- ---- places

up : (k : ℕ) → suc k * split_size ≡ suc (suc (suc (suc (suc (k * split_size)))))
up k = omega arith

-- word i of split suc k, in the words after the first split
after : (s : List ℕ) (k i : ℕ) → get_or (drop split_size s) (k * split_size + i) 0 ≡ get_or s (suc k * split_size + i) 0
after s k i = let e : split_size + (k * split_size + i) ≡ suc k * split_size + i = omega arith in get_or-drop split_size s (k * split_size + i) 0 ∙ ap (λ (n : ℕ). get_or s n 0) e

split_after : (s : List ℕ) (k : ℕ) → split_at (drop split_size s) k ≡ split_at s (suc k)
split_after s k =
    let o : (n : ℕ) → n + 0 ≡ n = λ n. omega arith in
    let z : get_or (drop split_size s) (k * split_size) 0 ≡ get_or s (suc k * split_size) 0 = rw (← o (k * split_size), ← o (suc k * split_size)) (after s k 0) in
    rw (z, after s k 1, after s k 2, after s k 3, after s k 4)

-- ---- the splits that words stand for

pub splits_length : (n : ℕ) (s : List ℕ) → length (splits_of n s) ≡ n
unfolding splits_of
splits_length zero s = refl
splits_length (suc n) s = ap suc (splits_length n (drop split_size s))

splits_at : (n : ℕ) (s : List ℕ) (j : ℕ) → j < n → get_or (splits_of n s) j zero_split ≡ split_at s j
unfolding splits_of
splits_at zero s j h = absurd (omega arith)
splits_at (suc n) s zero h = refl
splits_at (suc n) s (suc j) h = splits_at n (drop split_size s) j (omega arith) ∙ split_after s j

pub splits_get : (s : List ℕ) (j : ℕ) → j < split_count → get_or (splits_in s) j zero_split ≡ split_at s j
splits_get s j h = splits_at split_count s j h

put_at_lem : (n k : ℕ) (q : Split) (s : List ℕ) → k < n → n * split_size ≤ length s → splits_of n (put_split s k q) ≡ set (splits_of n s) k q
unfolding splits_of
put_at_lem zero k q s h l = absurd (omega arith)
put_at_lem (suc n) zero q s h l = record_first (λ (s : List ℕ). splits_of (suc n) (put_split s 0 q) ≡ set (splits_of (suc n) s) 0 q) (λ a b c d e s. rw (flag_bit q.phaseTwo)) s (omega arith)
put_at_lem (suc n) (suc k) q s h l =
    record_first (λ (s : List ℕ). suc n * split_size ≤ length s → splits_of (suc n) (put_split s (suc k) q) ≡ set (splits_of (suc n) s) (suc k) q)
    (λ a b c d e s l. rw (up k, put_at_lem n k q s (omega arith) (omega arith))) s (omega arith) l

pub splits_set : (s : List ℕ) (k : ℕ) (q : Split) → k < split_count → length s ≡ flat_count → splits_in (put_split s k q) ≡ set (splits_in s) k q
splits_set s k q h l = put_at_lem split_count k q s h (omega arith)

-- ---- the words of splits

pub words_length : (q : List Split) → length (splits_words q) ≡ length q * split_size
unfolding splits_words
words_length [] = refl
words_length (a ∷ q) = omega (arith, words_length q)

-- splits stand for themselves
words_splits : (q : List Split) → splits_of (length q) (splits_words q) ≡ q
unfolding splits_words splits_of
words_splits [] = refl
words_splits (a ∷ q) = rw (flag_bit a.phaseTwo, words_splits q)

pub splits_back : (q : List Split) → length q ≡ split_count → splits_in (splits_words q) ≡ q
splits_back q l = rw (← l) (words_splits q)

-- ---- phases

pub phases_step : (k : ℕ) (s : List ℕ) → 0 < k → phases_ok_of k s ≡ (is_flag (phase_at s (k - 1)) && phases_ok_of (k - 1) s)
unfolding phases_ok_of
phases_step zero s h = absurd (omega arith)
phases_step (suc k) s h = simp (sub-one (suc k))

pub phases_each : (n : ℕ) (s : List ℕ) → phases_ok_of n s ≡ true → (k : ℕ) → k < n → is_flag (phase_at s k) ≡ true
unfolding phases_ok_of
phases_each zero s p k h = absurd (omega arith)
phases_each (suc n) s p k h =
    let b = both (is_flag (phase_at s n)) (phases_ok_of n s) p in
    let m : k ≤ n = omega arith in
    ⊎_elim (λ (e : k ≡ n). rw e b.0) (λ (l : k < n). phases_each n s b.1 k l) (eq-or-lt_of_le m)

pub phases_all : (n : ℕ) (s : List ℕ) → ((k : ℕ) → k < n → is_flag (phase_at s k) ≡ true) → phases_ok_of n s ≡ true
unfolding phases_ok_of
phases_all zero s f = refl
phases_all (suc n) s f = rw (f n (omega arith)) (phases_all n s (λ k h. f k (omega arith)))

phase_words : (q : List Split) (k : ℕ) → k < length q → is_flag (phase_at (splits_words q) k) ≡ true
unfolding splits_words
phase_words [] k h = absurd (omega arith)
phase_words (a ∷ q) zero h = flag_is a.phaseTwo
phase_words (a ∷ q) (suc k) h =
    let e : suc k * split_size + 4 ≡ suc (suc (suc (suc (suc (k * split_size + 4))))) = omega arith in
    rw e (phase_words q k (omega arith))

-- a split's phase is 0 or 1
pub words_phases : (q : List Split) → length q ≡ split_count → phases_ok_of split_count (splits_words q) ≡ true
words_phases q l = phases_all split_count (splits_words q) (λ k h. phase_words q k (omega arith))

splits_words_lem : (n : ℕ) (s : List ℕ) → length s ≡ n * split_size → ((k : ℕ) → k < n → is_flag (phase_at s k) ≡ true) → splits_words (splits_of n s) ≡ s
unfolding splits_words splits_of
splits_words_lem zero [] l f = refl
splits_words_lem zero (a ∷ s) l f = absurd (omega arith)
splits_words_lem (suc n) s l f =
    record_first
    (λ (s : List ℕ). length s ≡ suc n * split_size → ((k : ℕ) → k < suc n → is_flag (phase_at s k) ≡ true) → splits_words (splits_of (suc n) s) ≡ s)
    (λ a b c d e s l f.
    let g : (k : ℕ) → k < n → is_flag (phase_at s k) ≡ true = λ k h.
    let j : suc k * split_size + 4 ≡ suc (suc (suc (suc (suc (k * split_size + 4))))) = omega arith in
    rw j at (f (suc k) (omega arith)) in
    rw (flag_word e (f 0 (omega arith))) (ap (λ (t : List ℕ). a ∷ b ∷ c ∷ d ∷ e ∷ t) (splits_words_lem n s (omega arith) g)))
    s (omega arith) l f

-- words whose phases are 0 or 1 are the words of their splits
pub flat_back : (s : List ℕ) → length s ≡ flat_count → phases_ok_of split_count s ≡ true → splits_words (splits_in s) ≡ s
flat_back s l p = splits_words_lem split_count s l (phases_each split_count s p)

put_words : (q : List Split) (k : ℕ) (a : Split) → k < length q → put_split (splits_words q) k a ≡ splits_words (set q k a)
unfolding splits_words
put_words [] k a h = absurd (omega arith)
put_words (b ∷ q) zero a h = refl
put_words (b ∷ q) (suc k) a h = rw (up k, put_words q k a (omega arith))

-- a split that is put has such a phase
pub phases_put : (s : List ℕ) (k : ℕ) (a : Split) → k < split_count → length s ≡ flat_count → phases_ok_of split_count s ≡ true → phases_ok_of split_count (put_split s k a) ≡ true
phases_put s k a h l p =
    let q : List Split = splits_in s in
    let n : length q ≡ split_count = splits_length split_count s in
    let e : put_split s k a ≡ splits_words (set q k a) = ap (λ (t : List ℕ). put_split t k a) (sym (flat_back s l p)) ∙ put_words q k a (omega arith) in
    rw e (words_phases (set q k a) (length-set q k a ∙ n))

-- a split put word by word
pub put_by_one : (s : List ℕ) (k : ℕ) (q : Split)
    → set (set (set (set (set s (k * split_size) q.rpc) (k * split_size + 1) q.full) (k * split_size + 2) q.elseMask) (k * split_size + 3) q.elsePc) (k * split_size + 4) (flag_of q.phaseTwo)
    ≡ put_split s k q
put_by_one s k q =
    let p1 : k * split_size + 1 ≡ suc (k * split_size) = omega arith in
    let p2 : k * split_size + 2 ≡ suc (suc (k * split_size)) = omega arith in
    let p3 : k * split_size + 3 ≡ suc (suc (suc (k * split_size))) = omega arith in
    let p4 : k * split_size + 4 ≡ suc (suc (suc (suc (k * split_size)))) = omega arith in
    rw (p1, p2, p3, p4)

-- ---- a turn of the loops to the words and back, and their ends

pub flat_turn : (s s' : List ℕ) (q : List Split) (k : ℕ) (a : Split) → k < length q → a ≡ get_or q k zero_split → s' ≡ put_split s k a
    → sets s' ((k + 1) * split_size) (splits_words (drop (k + 1) q)) ≡ sets s (k * split_size) (splits_words (drop k q))
unfolding splits_words
flat_turn s s' q k a h ea es = rw (es, ea, add-one k, up k, drop-cons q k zero_split h)

pub flat_end : (s : List ℕ) (q : List Split) (k : ℕ) → length q ≤ k → sets s (k * split_size) (splits_words (drop k q)) ≡ s
unfolding splits_words
flat_end s q k h = rw (drop_of_length-le q h)

pub unflat_turn : (q : List Split) (s : List ℕ) (k : ℕ) (a : Split) → k < split_count → a ≡ split_at s k
    → sets (set q k a) (k + 1) (splits_of (split_count - (k + 1)) (drop ((k + 1) * split_size) s)) ≡ sets q k (splits_of (split_count - k) (drop (k * split_size) s))
unfolding splits_of
unflat_turn q s k a h e =
    let n : split_count - k ≡ suc (split_count - (k + 1)) = omega arith in
    let m : (k + 1) * split_size ≡ k * split_size + split_size = omega arith in
    let o : k * split_size + 0 ≡ k * split_size = omega arith in
    rw (n, e, get_or-drop (k * split_size) s 0 0, o, get_or-drop (k * split_size) s 1 0, get_or-drop (k * split_size) s 2 0, get_or-drop (k * split_size) s 3 0, get_or-drop (k * split_size) s 4 0, drop-drop split_size (k * split_size) s, ← m, add-one k)

pub unflat_end : (q : List Split) (s : List ℕ) (k : ℕ) → split_count ≤ k → sets q k (splits_of (split_count - k) (drop (k * split_size) s)) ≡ q
unfolding splits_of
unflat_end q s k h = let z : split_count - k ≡ 0 = omega arith in rw z
