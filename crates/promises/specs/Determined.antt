-- Two results that a contract allows are equal. A public call's contract is one equation: what is seen of the result r (the number, the count, the state, the lent
-- runs afterwards), put together by `view`, is the definition's f at what was handed in.
use Rattle.std.specs.Prelude.{◌≡◌}

-- the contract
abbrev pub Allows : {A R S : Type 0} → (R → S) → (A → S) → A → R → Type 0
Allows view f a r = view r ≡ f a

-- the view shows all of a result
abbrev pub ShowsAll : {R S : Type 0} → (R → S) → Type 0
ShowsAll {R = R} view = (r t : R) → view r ≡ view t → r ≡ t

-- ---- promises, of a call with this view and this definition

-- What is seen of two allowed results is equal.
abbrev pub Determined : {A R S : Type 0} → (R → S) → (A → S) → Type 0
Determined {A = A} {R = R} view f = (a : A) (r t : R) → Allows view f a r → Allows view f a t → view r ≡ view t

-- Two allowed results are equal: where the view shows all.
abbrev pub DeterminedWhole : {A R S : Type 0} → (R → S) → (A → S) → Type 0
DeterminedWhole {A = A} {R = R} view f = (a : A) (r t : R) → Allows view f a r → Allows view f a t → r ≡ t
