-- What each mark says of two lists of lines, when and only when.
use Prim.Native.Nat.{ℕ, ◌+◌}
use mathlib.Core.Path.{◌≡◌, refl, sym, ap, ap₂, ◌∙◌, subst}
use mathlib.Core.Bool.{Bool, true, false, true≢false}
use mathlib.Core.List.{List, [], ◌∷◌, ◌++◌}
use native.Mathlib.Omega.{arith}
use lib.ListN.{length}
use Rattle.sheet_lines.specs.declared.Marks.{Marks}
use Rattle.sheet_lines.specs.declared.Marks.TheVariants.{NoMarks, Full, Differs, Short, Long}
use Rattle.sheet_lines.specs.Compare.{marks_number, marks_step, same_of, compare_of}
use Rattle.sheet_lines.proofs.Compares.{same_true, same_self, compare_on, compare_off}
use Rattle.sheet_promises.specs.Marks.{Parts, Beyond, Says}

-- ---- how two lists stand to each other

data View (own given : List (List ℕ)) : Type 0 where
  same : own ≡ given → View own given
  parts : {n : ℕ} → Parts n own given → View own given
  short : Beyond own given → View own given
  long : Beyond given own → View own given

-- one line more in front of both
further : (x : List ℕ) (own given : List (List ℕ)) → View own given → View (x ∷ own) (x ∷ given)
further x own given (same e) = same (ap (λ (r : List (List ℕ)). x ∷ r) e)
further x own given (parts p) =
    parts
    (record {
      common = x ∷ p.common;
      a = p.a;
      b = p.b;
      own_rest = p.own_rest;
      given_rest = p.given_rest;
      own_is = ap (λ (r : List (List ℕ)). x ∷ r) p.own_is;
      given_is = ap (λ (r : List (List ℕ)). x ∷ r) p.given_is;
      differ = p.differ;
      step = refl;
    })
further x own given (short p) = short (record { next = p.next; rest = p.rest; is = ap (λ (r : List (List ℕ)). x ∷ r) p.is })
further x own given (long p) = long (record { next = p.next; rest = p.rest; is = ap (λ (r : List (List ℕ)). x ∷ r) p.is })

view : (own given : List (List ℕ)) → View own given
view [] [] = same refl
view (a ∷ own) [] = short (record { next = a; rest = own; is = refl })
view [] (b ∷ given) = long (record { next = b; rest = given; is = refl })
view (a ∷ own) (b ∷ given) = by (same_of a b) refl (view own given)
  where
    by : (t : Bool) → same_of a b ≡ t → View own given → View (a ∷ own) (b ∷ given)
    by true e v = subst (λ (y : List ℕ). View (a ∷ own) (y ∷ given)) (same_true a b e) (further a own given v)
    by false e v =
        parts
        (record {
          common = [];
          a = a;
          b = b;
          own_rest = own;
          given_rest = given;
          own_is = refl;
          given_is = refl;
          differ = λ (q : a ≡ b). let z : true ≡ false = sym (same_self a) ∙ ap (same_of a) q ∙ e in absurd (true≢false z);
          step = refl;
        })

-- ---- what is compared then

same_full : (i : ℕ) (own : List (List ℕ)) → compare_of i own own ≡ Full
unfolding compare_of
same_full i [] = refl
same_full i (a ∷ own) = compare_on i a a own own refl ∙ same_full (i + 1) own

parts_differ : (i : ℕ) (common : List (List ℕ)) (a b : List ℕ) (x y : List (List ℕ)) → (a ≡ b → ⊥) → compare_of i (common ++ (a ∷ x)) (common ++ (b ∷ y)) ≡ Differs (i + length common)
parts_differ i [] a b x y h = compare_off i a b x y h ∙ ap Differs (omega arith)
parts_differ i (c ∷ common) a b x y h = compare_on i c c (common ++ (a ∷ x)) (common ++ (b ∷ y)) refl ∙ parts_differ (i + 1) common a b x y h ∙ ap Differs (omega arith)

beyond_short : (i : ℕ) (given : List (List ℕ)) (a : List ℕ) (x : List (List ℕ)) → compare_of i (given ++ (a ∷ x)) given ≡ Short
unfolding compare_of
beyond_short i [] a x = refl
beyond_short i (c ∷ given) a x = compare_on i c c (given ++ (a ∷ x)) given refl ∙ beyond_short (i + 1) given a x

beyond_long : (i : ℕ) (own : List (List ℕ)) (b : List ℕ) (x : List (List ℕ)) → compare_of i own (own ++ (b ∷ x)) ≡ Long
unfolding compare_of
beyond_long i [] b x = refl
beyond_long i (c ∷ own) b x = compare_on i c c own (own ++ (b ∷ x)) refl ∙ beyond_long (i + 1) own b x

module _ (own given : List (List ℕ)) where
  abbrev m : Marks
  m = compare_of 1 own given

  from_same : own ≡ given → m ≡ Full
  from_same e = ap (λ (x : List (List ℕ)). compare_of 1 x given) e ∙ same_full 1 given

  from_parts : (n : ℕ) → Parts n own given → m ≡ Differs n
  from_parts n p = ap₂ (compare_of 1) p.own_is p.given_is ∙ parts_differ 1 p.common p.a p.b p.own_rest p.given_rest p.differ ∙ ap Differs (omega (arith, p.step))

  from_short : Beyond own given → m ≡ Short
  from_short p = ap (λ (x : List (List ℕ)). compare_of 1 x given) p.is ∙ beyond_short 1 given p.next p.rest

  from_long : Beyond given own → m ≡ Long
  from_long p = ap (compare_of 1 own) p.is ∙ beyond_long 1 own p.next p.rest

  -- and no two of these marks are one
  apart : {A : Type 0} (x y : Marks) → (marks_number x ≡ marks_number y → ⊥) → m ≡ x → m ≡ y → A
  apart x y n e f = absurd (n (ap marks_number (sym e ∙ f)))

  to_same : View own given → m ≡ Full → own ≡ given
  to_same (same e) f = e
  to_same (parts {n} p) f = apart (Differs n) Full (λ z. omega arith) (from_parts n p) f
  to_same (short p) f = apart Short Full (λ z. omega arith) (from_short p) f
  to_same (long p) f = apart Long Full (λ z. omega arith) (from_long p) f

  to_parts : (n : ℕ) → View own given → m ≡ Differs n → Parts n own given
  to_parts n (same e) f = apart Full (Differs n) (λ z. omega arith) (from_same e) f
  to_parts n (parts {n = i} p) f = subst (λ (j : ℕ). Parts j own given) (ap marks_step (sym (from_parts i p) ∙ f)) p
  to_parts n (short p) f = apart Short (Differs n) (λ z. omega arith) (from_short p) f
  to_parts n (long p) f = apart Long (Differs n) (λ z. omega arith) (from_long p) f

  to_short : View own given → m ≡ Short → Beyond own given
  to_short (same e) f = apart Full Short (λ z. omega arith) (from_same e) f
  to_short (parts {n} p) f = apart (Differs n) Short (λ z. omega arith) (from_parts n p) f
  to_short (short p) f = p
  to_short (long p) f = apart Long Short (λ z. omega arith) (from_long p) f

  to_long : View own given → m ≡ Long → Beyond given own
  to_long (same e) f = apart Full Long (λ z. omega arith) (from_same e) f
  to_long (parts {n} p) f = apart (Differs n) Long (λ z. omega arith) (from_parts n p) f
  to_long (short p) f = apart Short Long (λ z. omega arith) (from_short p) f
  to_long (long p) f = p

  some_marks : View own given → m ≡ NoMarks → ⊥
  some_marks (same e) f = apart Full NoMarks (λ z. omega arith) (from_same e) f
  some_marks (parts {n} p) f = apart (Differs n) NoMarks (λ z. omega arith) (from_parts n p) f
  some_marks (short p) f = apart Short NoMarks (λ z. omega arith) (from_short p) f
  some_marks (long p) f = apart Long NoMarks (λ z. omega arith) (from_long p) f

  pub says : Says own given m
  says =
      let v = view own given in
      record {
        full = (to_same v, from_same);
        differs = λ n. (to_parts n v, from_parts n);
        short = (to_short v, from_short);
        long = (to_long v, from_long);
        some = some_marks v;
      }
