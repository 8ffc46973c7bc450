-- Laws of rows and of lists of tests.
use Prim.Native.Nat.{ℕ, zero, suc}
use mathlib.Core.Path.{◌≡◌, refl, sym, ap, ◌∙◌}
use mathlib.Core.Bool.{Bool, true, false, not, ◌&&◌, ◌||◌, cond, true≢false}
use mathlib.Core.List.{List, [], ◌∷◌, ◌++◌, map}
use lib.Dec.{eqb}
use lib.ListN.{get_or}
use borrow.Author.Tests.{eqb-true, eqb-false, ne_eqb, not-true}
use Rattle.answer.specs.Rows.{Row, ◌⇒◌, first, every, one_of, Iff}

-- ---- lists of tests

pub both : (a b : Bool) → (a && b) ≡ true → (a ≡ true) × (b ≡ true)
both true b e = (refl, e)
both false b e = let z : false ≡ true = e in (z, cc)

-- each of the tests that all hold
pub every_at : (ts : List Bool) → every ts ≡ true → (i : ℕ) → get_or ts i true ≡ true
every_at [] e i = refl
every_at (t ∷ ts) e zero = (both t (every ts) e).0
every_at (t ∷ ts) e (suc i) = every_at ts (both t (every ts) e).1 i

-- ---- lists of rows

-- no row holds; no row has the number n; every row's number passes the test p
abbrev pub silent : List (Row Bool) → Bool
silent [] = true
silent (r ∷ rs) = not r.is && silent rs

abbrev pub without : ℕ → List (Row Bool) → Bool
without n [] = true
without n (r ∷ rs) = not (eqb r.code n) && without n rs

abbrev pub numbered : (ℕ → Bool) → List (Row Bool) → Bool
numbered p [] = true
numbered p (r ∷ rs) = p r.code && numbered p rs

pub first_silent : (rs us : List (Row Bool)) → silent rs ≡ true → first (rs ++ us) ≡ first us
first_silent [] us e = refl
first_silent (r ∷ rs) us e = go r.is e (λ h. first_silent rs us h)
  where
    go : (t : Bool) → (not t && silent rs) ≡ true → (silent rs ≡ true → first (rs ++ us) ≡ first us) → cond t r.code (first (rs ++ us)) ≡ first us
    go true h k = absurd (true≢false (sym h))
    go false h k = k h

-- a list that answers answers so with more rows behind it
pub first_kept : (rs us : List (Row Bool)) → (first rs ≡ 0 → ⊥) → first (rs ++ us) ≡ first rs
first_kept [] us n = absurd (n refl)
first_kept (r ∷ rs) us n = go r.is n (λ h. first_kept rs us h)
  where
    go : (t : Bool) → (cond t r.code (first rs) ≡ 0 → ⊥) → ((first rs ≡ 0 → ⊥) → first (rs ++ us) ≡ first rs) → cond t r.code (first (rs ++ us)) ≡ cond t r.code (first rs)
    go true h k = refl
    go false h k = k h

-- where a number is not 0, a list with no row 0 that answers 0 is silent
pub zero_silent : (rs : List (Row Bool)) → without 0 rs ≡ true → first rs ≡ 0 → silent rs ≡ true
zero_silent [] n e = refl
zero_silent (r ∷ rs) n e =
    let p = both (not (eqb r.code 0)) (without 0 rs) n in
    go r.is (eqb-false _ _ (not-true _ p.0)) (λ z. zero_silent rs p.1 z) e
  where
    go : (t : Bool) → (r.code ≡ 0 → ⊥) → (first rs ≡ 0 → silent rs ≡ true) → cond t r.code (first rs) ≡ 0 → (not t && silent rs) ≡ true
    go true q k z = absurd (q z)
    go false q k z = k z

-- a number that no row has is not answered
pub not_answered : (n : ℕ) (rs : List (Row Bool)) → (n ≡ 0 → ⊥) → without n rs ≡ true → first rs ≡ n → ⊥
not_answered n [] z w e = z (sym e)
not_answered n (r ∷ rs) z w e =
    let p = both (not (eqb r.code n)) (without n rs) w in
    go r.is (eqb-false _ _ (not-true _ p.0)) (λ y. not_answered n rs z p.1 y) e
  where
    go : (t : Bool) → (r.code ≡ n → ⊥) → (first rs ≡ n → ⊥) → cond t r.code (first rs) ≡ n → ⊥
    go true q k y = q y
    go false q k y = k y

silent_at : (rs us : List (Row Bool)) (n : ℕ) (t : Bool) → silent (rs ++ (n ⇒ not t ∷ us)) ≡ true → t ≡ true
silent_at [] us n true e = refl
silent_at [] us n false e = absurd (true≢false (sym e))
silent_at (r ∷ rs) us n t e = silent_at rs us n t (both (not r.is) (silent (rs ++ (n ⇒ not t ∷ us))) e).1

-- where a table answers 0, what row n asks for is so
pub passed : (rs us : List (Row Bool)) (n : ℕ) (t : Bool) → without 0 (rs ++ (n ⇒ not t ∷ us)) ≡ true → first (rs ++ (n ⇒ not t ∷ us)) ≡ 0 → t ≡ true
passed rs us n t z h = silent_at rs us n t (zero_silent (rs ++ (n ⇒ not t ∷ us)) z h)

-- Row n answers when, and only when, no row before it holds and its own test does.
pub row_answers : (rs us : List (Row Bool)) (n : ℕ) (t : Bool) → (n ≡ 0 → ⊥) → without n rs ≡ true → without n us ≡ true
    → Iff (first (rs ++ (n ⇒ t ∷ us)) ≡ n) ((silent rs ≡ true) × (t ≡ true))
row_answers [] us n true z a b = (λ e. (refl, refl), λ p. refl)
row_answers [] us n false z a b = (λ e. absurd (not_answered n us z b e), λ p. absurd (true≢false (sym p.1)))
row_answers (r ∷ rs) us n t z a b =
    let p = both (not (eqb r.code n)) (without n rs) a in
    go r.is (eqb-false _ _ (not-true _ p.0)) (row_answers rs us n t z p.1 b)
  where
    go : (h : Bool) → (r.code ≡ n → ⊥) → Iff (first (rs ++ (n ⇒ t ∷ us)) ≡ n) ((silent rs ≡ true) × (t ≡ true))
        → Iff (cond h r.code (first (rs ++ (n ⇒ t ∷ us))) ≡ n) (((not h && silent rs) ≡ true) × (t ≡ true))
    go true q i = (λ e. absurd (q e), λ p. absurd (true≢false (sym p.0)))
    go false q i = i

-- the number answered passes it too, if 0 does
pub numbered_first : (p : ℕ → Bool) (rs : List (Row Bool)) → p 0 ≡ true → numbered p rs ≡ true → p (first rs) ≡ true
numbered_first p [] z e = z
numbered_first p (r ∷ rs) z e =
    let q = both (p r.code) (numbered p rs) e in
    go r.is q.0 (numbered_first p rs z q.1)
  where
    go : (t : Bool) → p r.code ≡ true → p (first rs) ≡ true → p (cond t r.code (first rs)) ≡ true
    go true a b = a
    go false a b = b

-- a number that doesn't is no row's
pub numbered_without : (n : ℕ) (p : ℕ → Bool) (rs : List (Row Bool)) → p n ≡ false → numbered p rs ≡ true → without n rs ≡ true
numbered_without n p [] h e = refl
numbered_without n p (r ∷ rs) h e =
    let q = both (p r.code) (numbered p rs) e in
    rw (ne_eqb r.code n (λ (z : r.code ≡ n). true≢false (sym q.0 ∙ ap p z ∙ h))) (numbered_without n p rs h q.1)

pub numbered_under : (p q : ℕ → Bool) → ((n : ℕ) → p n ≡ true → q n ≡ true) → (rs : List (Row Bool)) → numbered p rs ≡ true → numbered q rs ≡ true
numbered_under p q f [] e = refl
numbered_under p q f (r ∷ rs) e =
    let h = both (p r.code) (numbered p rs) e in
    rw (f r.code h.0) (numbered_under p q f rs h.1)

-- what holds of every number of a list holds of one of them
pub one_holds : (p : ℕ → Bool) (ns : List ℕ) → every (map p ns) ≡ true → (n : ℕ) → one_of ns n ≡ true → p n ≡ true
one_holds p [] e n h = absurd (true≢false (sym h))
one_holds p (a ∷ ns) e n h =
    let q = both (p a) (every (map p ns)) e in
    go (eqb n a) refl h q.0 (λ y. one_holds p ns q.1 n y)
  where
    go : (t : Bool) → eqb n a ≡ t → (t || one_of ns n) ≡ true → p a ≡ true → (one_of ns n ≡ true → p n ≡ true) → p n ≡ true
    go true z y b k = rw (eqb-true n a z) b
    go false z y b k = k y
