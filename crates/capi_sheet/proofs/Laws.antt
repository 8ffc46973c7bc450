-- The two calls by cases, in the order in which they test.
use Prim.Native.Nat.{ℕ}
use mathlib.Core.Path.{◌≡◌, refl}
use mathlib.Core.List.{List, [], ◌∷◌}
use native.Mathlib.Omega.{arith}
use lib.ListN.{length, set}
use borrow.Author.Tests.{eq-eqb, ne_eqb}
use Rattle.card.specs.Card.{Reading, read_card_of}
use Rattle.sheet_lines.specs.declared.Marks.TheVariants.{NoMarks}
use Rattle.sheet.specs.Mark.{lent_runs, Marking, mark_of, Modelling, model_of}
use Rattle.capi_sheet.specs.Calls.{fitted, marks_words, mark_called, mark_call_of, sheet_called, sheet_call_of}

-- ---- words that fit

pub one_word : (a : ℕ) (t : List ℕ) → length t ≡ 1 → set t 0 a ≡ fitted (a ∷ []) t
one_word a [] e = absurd (omega arith)
one_word a (x ∷ []) e = refl
one_word a (x ∷ y ∷ t) e = absurd (omega arith)

pub two_words : (a b : ℕ) (t : List ℕ) → length t ≡ 2 → set (set t 0 a) 1 b ≡ fitted (a ∷ b ∷ []) t
two_words a b [] e = absurd (omega arith)
two_words a b (x ∷ []) e = absurd (omega arith)
two_words a b (x ∷ y ∷ []) e = refl
two_words a b (x ∷ y ∷ z ∷ t) e = absurd (omega arith)

-- ---- the calls; r is what the card is read as
module _ (c k v d : List ℕ) (r : Reading) (e : r ≡ read_card_of c) where
  module _ (s t : List ℕ) where
    pub mark_card : (r.number ≡ 0 → ⊥) → (u : List ℕ) → u ≡ fitted (marks_words NoMarks) t → mark_called r.number u (lent_runs v d) ≡ mark_call_of c k v d s t
    unfolding mark_call_of
    mark_card h u f = rw (← e, ne_eqb r.number 0 h, ne_eqb r.number 0 h, f)

    module _ (h : r.number ≡ 0) where
      pub mark_room : (length t ≡ 2 → ⊥) → mark_called 1 t (lent_runs v d) ≡ mark_call_of c k v d s t
      unfolding mark_call_of
      mark_room z = rw (← e, h, ne_eqb _ _ z)

      pub mark_call : length t ≡ 2 → (a : Marking) → a ≡ mark_of k r.launch v d s → (u : List ℕ) → u ≡ fitted (marks_words a.marks) t
          → mark_called a.number u a.left ≡ mark_call_of c k v d s t
      unfolding mark_call_of
      mark_call z a q u f = rw (f, ← e, h, ← q, eq-eqb _ _ z)

  module _ (t w : List ℕ) where
    pub sheet_card : (r.number ≡ 0 → ⊥) → (u : List ℕ) → u ≡ fitted (0 ∷ []) w → sheet_called r.number u t (lent_runs v d) ≡ sheet_call_of c k v d t w
    unfolding sheet_call_of
    sheet_card h u f = rw (← e, ne_eqb r.number 0 h, ne_eqb r.number 0 h, f)

    module _ (h : r.number ≡ 0) where
      pub sheet_room_lem : (length w ≡ 1 → ⊥) → sheet_called 1 w t (lent_runs v d) ≡ sheet_call_of c k v d t w
      unfolding sheet_call_of
      sheet_room_lem z = rw (← e, h, ne_eqb _ _ z)

      pub sheet_call : length w ≡ 1 → (a : Modelling) → a ≡ model_of k r.launch v d t → (u : List ℕ) → u ≡ fitted (a.written ∷ []) w
          → sheet_called a.number u a.target a.left ≡ sheet_call_of c k v d t w
      unfolding sheet_call_of
      sheet_call z a q u f = rw (f, ← e, h, ← q, eq-eqb _ _ z)
