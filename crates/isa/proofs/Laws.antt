-- Laws of tables.
use Prim.Native.Nat.{ℕ}
use mathlib.Core.Path.{◌≡◌, refl, sym, subst}
use mathlib.Core.List.{List, [], ◌∷◌, ◌++◌}
use mathlib.Core.Bool.{Bool, true, false, cond, ◌&&◌}
use lib.Dec.{T, eqb}
use borrow.Author.Tests.{eqb-true, ne_eqb}
use Rattle.answer.specs.Rows.{Row}
use Rattle.isa.specs.declared.Instr.{Instr}
use Rattle.isa.specs.declared.Instr.TheVariants as I
use Rattle.isa.specs.Fields.{Fields}
use Rattle.isa.specs.Table.{seek, on, as_words, fixed}

pub both_true : (a b : Bool) → T (a && b) → T a × T b
both_true true b t = (tt, t)
both_true false b t = absurd t

-- P holds of what f makes of each row whose code is k
abbrev pub Rows : {A B : Type 0} → (B → Type 0) → (A → B) → ℕ → List (Row A) → Type 0
Rows P f k [] = Unit {0}
Rows P f k (r ∷ rs) = (k ≡ r.code → P (f r.is)) × Rows P f k rs

stop :
    {A B : Type 0} (P : B → Type 0) (f : A → B) (k : ℕ) (r : Row A) (rest : B) (b : Bool)
    → eqb k r.code ≡ b → (k ≡ r.code → P (f r.is)) → P rest → P (cond b (f r.is) rest)
stop P f k r rest true e h₁ h₂ = h₁ (eqb-true k r.code e)
stop P f k r rest false e h₁ h₂ = h₂

-- P holds of what is found at k, where it holds of the rows with that code and of the other answer
pub found :
    {A B : Type 0} (P : B → Type 0) (f : A → B) (other : B) (k : ℕ) (t : List (Row A)) → P other → Rows P f k t → P (seek f other k t)
found P f other k [] z h = z
found P f other k (r ∷ rs) z h = stop P f k r (seek f other k rs) (eqb k r.code) refl h.0 (found P f other k rs z h.1)

pub rows_append :
    {A B : Type 0} (P : B → Type 0) (f : A → B) (k : ℕ) (t u : List (Row A)) → Rows P f k t → Rows P f k u → Rows P f k (t ++ u)
rows_append P f k [] u h g = g
rows_append P f k (r ∷ rs) u h g = (h.0, rows_append P f k rs u h.1 g)

-- the test p holds of every row's content and code
abbrev pub every_row : {A : Type 0} → (A → ℕ → Bool) → List (Row A) → Bool
every_row p [] = true
every_row p (r ∷ rs) = p r.is r.code && every_row p rs

-- where every row passes the test p, and P holds of the word that such a row makes, P holds of each row's word
pub rows_tested :
    {A : Type 0} (P : Instr → Type 0) (make : A → Fields → Instr) (p : A → ℕ → Bool) (c : Fields) (k : ℕ) (t : List (Row A))
    → T (every_row p t) → ((a : A) → T (p a k) → P (make a c)) → Rows P (on c) k (as_words make t)
rows_tested P make p c k [] q h = tt
rows_tested P make p c k (r ∷ rs) q h =
    let s = both_true (p r.is r.code) (every_row p rs) q in
    ((λ e. h r.is (subst (λ (n : ℕ). T (p r.is n)) (sym e) s.0)), rows_tested P make p c k rs s.1 h)

-- P holds of one of two instructions by a test, where it holds of each where it is taken
pub either_at : (P : Instr → Type 0) (b : Bool) (i j : Instr) → (b ≡ true → P i) → (b ≡ false → P j) → P (cond b i j)
either_at P true i j h₁ h₂ = h₁ refl
either_at P false i j h₁ h₂ = h₂ refl

pub fixed_at_lem : (P : Instr → Type 0) (n k : ℕ) (i : Instr) → P I.Refused → (n ≡ k → P i) → P (fixed n k i)
fixed_at_lem P n k i z h = either_at P (eqb n k) i I.Refused (λ e. h (eqb-true n k e)) (λ e. z)

-- k is none of the table's codes, in the form in which a `match` on k hands it to its last arm
abbrev pub NoneFrom : {A : Type 0} → Type 0 → ℕ → List (Row A) → Type 0
NoneFrom acc k [] = acc
NoneFrom acc k (r ∷ rs) = NoneFrom (acc × (k ≡ r.code → ⊥)) k rs

start : {A : Type 0} (acc : Type 0) (k : ℕ) (t : List (Row A)) → NoneFrom acc k t → acc
start acc k [] h = h
start acc k (r ∷ rs) h = (start (acc × (k ≡ r.code → ⊥)) k rs h).0

past_from :
    {A B : Type 0} (acc : Type 0) (f : A → B) (other : B) (k : ℕ) (t u : List (Row A)) → NoneFrom acc k t
    → seek f other k (t ++ u) ≡ seek f other k u
past_from acc f other k [] u h = refl
past_from acc f other k (r ∷ rs) u h =
    rw (ne_eqb k r.code (start (acc × (k ≡ r.code → ⊥)) k rs h).1) (past_from (acc × (k ≡ r.code → ⊥)) f other k rs u h)

-- where k is none of t's codes, the rows u after t decide
pub past :
    {A B : Type 0} (f : A → B) (other : B) (k : ℕ) (t u : List (Row A)) → NoneFrom (Unit {0}) k t
    → seek f other k u ≡ seek f other k (t ++ u)
past f other k t u h = sym (past_from (Unit {0}) f other k t u h)
