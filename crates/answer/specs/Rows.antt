-- Tables of rows: a code and what it stands for, as a refusal's number and its test, or an instruction's code and its operation.
use Rattle.std.specs.Prelude.{ℕ, Bool, true, false, ◌&&◌, ◌||◌, cond, List, [], ◌∷◌, eqb, leb}

pub record Row (A : Type 0) : Type 0 where
  pub code : ℕ
  pub is : A

infixr 68 ◌⇒◌
abbrev pub ◌⇒◌ : {A : Type 0} → ℕ → A → Row A
k ⇒ a = record { code = k; is = a }

-- the number of the first test that holds; 0 where none does
abbrev pub first : List (Row Bool) → ℕ
first [] = 0
first (t ∷ ts) = cond t.is t.code (first ts)

-- every test of a list holds
abbrev pub every : List Bool → Bool
every [] = true
every (t ∷ ts) = t && every ts

abbrev pub between : ℕ → ℕ → ℕ → Bool
between low n high = leb low n && leb n high

-- n is one of the numbers of a list
abbrev pub one_of : List ℕ → ℕ → Bool
one_of [] n = false
one_of (a ∷ rest) n = eqb n a || one_of rest n

-- when, and only when
abbrev pub Iff : Type 0 → Type 0 → Type 0
Iff A B = (A → B) × (B → A)
