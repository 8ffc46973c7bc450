-- Laws of what stands at a code, by what a `match` on the code tells.
use Prim.Native.Nat.{ℕ, zero, suc, ◌+◌, ◌<◌, ◌≤◌}
use mathlib.Core.Path.{◌≡◌, refl, ap, ◌∙◌}
use mathlib.Core.List.{List, [], ◌∷◌, ◌++◌}
use mathlib.Core.Bool.{Bool, true, false, cond, not}
use native.Mathlib.Nat.{zero-add}
use native.Mathlib.Omega.{arith}
use lib.Dec.{T, eqb}
use borrow.Author.Tests.{ne_eqb}
use Rattle.answer.specs.Rows.{Row}
use Rattle.answer.proofs.Matches.{NoneOf, each, in_range}
use Rattle.isa.specs.declared.Instr.{Instr}
use Rattle.isa.specs.Fields.{Fields}
use Rattle.isa.specs.Table.{seek, pick_row, Words, word_at, as_words, fixed}
use Rattle.isa.proofs.Laws.{NoneFrom, past}

-- both sides of the choice are the same
either : {A : Type 0} (b : Bool) {a : A} → a ≡ cond b a a
either true = refl
either false = refl

pub both_ways : {A : Type 0} (b : Bool) {a m n : A} → a ≡ m → a ≡ n → a ≡ cond b m n
both_ways true p q = p
both_ways false p q = q

-- the last row of a table is also what stands where there is none
pub at_last :
    {A : Type 0} (k : ℕ) (t : List (Row A)) (r : Row A) → NoneFrom (Unit {0}) k t → r.is ≡ pick_row r.is k (t ++ (r ∷ []))
at_last k t r h = either (eqb k r.code) ∙ past (λ a. a) r.is k t (r ∷ []) h

-- fields that must all be 0: the code tests their sum once
pub fixed_two : (a b : ℕ) (i : Instr) → fixed (a + b) 0 i ≡ fixed a 0 (fixed b 0 i)
fixed_two zero b i = ap (λ (n : ℕ). fixed n 0 i) (zero-add b)
fixed_two (suc a) b i = rw (ne_eqb (suc a + b) 0 (λ e. omega arith), ne_eqb (suc a) 0 (λ e. omega arith))

pub fixed_three : (a b c : ℕ) (i : Instr) → fixed (a + b + c) 0 i ≡ fixed a 0 (fixed b 0 (fixed c 0 i))
fixed_three a b c i = fixed_two (a + b) c i ∙ fixed_two a b (fixed c 0 i)

pub fixed_four : (a b c d : ℕ) (i : Instr) → fixed (a + b + c + d) 0 i ≡ fixed a 0 (fixed b 0 (fixed c 0 (fixed d 0 i)))
fixed_four a b c d i = fixed_two (a + b + c) d i ∙ fixed_three a b c (fixed d 0 i)

abbrev pub is_at : {A : Type 0} → ℕ → List (Row A) → Bool
is_at k t = seek (λ a. true) false k t

module _ {A : Type 0} (make : A → Fields → Instr) (c : Fields) (k : ℕ) (u : Words) where
  listed_row :
      (b rest : Bool) (a m : A) (n : Instr) → T (cond b true rest) → (T rest → make m c ≡ n)
      → make (cond b a m) c ≡ cond b (make a c) n
  listed_row true rest a m n t e = refl
  listed_row false rest a m n t e = e t

  listed : (z : A) (t : List (Row A)) → T (is_at k t) → make (pick_row z k t) c ≡ word_at c k (as_words make t ++ u)
  listed z [] q = absurd q
  listed z (r ∷ rs) q = listed_row (eqb k r.code) (is_at k rs) r.is (pick_row z k rs) _ q (listed z rs)

  unlisted_row : (b rest : Bool) (i m n : Instr) → T (not (cond b true rest)) → (T (not rest) → m ≡ n) → m ≡ cond b i n
  unlisted_row true rest i m n t e = absurd t
  unlisted_row false rest i m n t e = e t

  unlisted : (t : List (Row A)) → T (not (is_at k t)) → word_at c k u ≡ word_at c k (as_words make t ++ u)
  unlisted [] q = refl
  unlisted (r ∷ rs) q = unlisted_row (eqb k r.code) (is_at k rs) (make r.is c) _ _ q (unlisted rs)

  -- every code of the range is the table's, or none is
  module _ (t : List (Row A)) (xs : List ℕ) (lo n : ℕ) (a : lo ≤ k) (b : k < lo + n) (h : NoneOf (Unit {0}) k xs) where
    pub range_in : (z : A) → T (each (λ k. is_at k t) xs lo n) → make (pick_row z k t) c ≡ word_at c k (as_words make t ++ u)
    range_in z q = listed z t (in_range (λ k. is_at k t) xs lo n k q a b h)

    pub range_out : T (each (λ k. not (is_at k t)) xs lo n) → word_at c k u ≡ word_at c k (as_words make t ++ u)
    range_out q = unlisted t (in_range (λ k. not (is_at k t)) xs lo n k q a b h)
