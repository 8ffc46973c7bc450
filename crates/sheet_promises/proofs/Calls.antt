-- What a C host is promised of the two calls.
use Prim.Native.Nat.{ℕ}
use mathlib.Core.Path.{◌≡◌, refl, ap}
use mathlib.Core.Bool.{Bool, true, false, not}
use mathlib.Core.List.{List, [], ◌∷◌}
use native.Mathlib.Omega.{arith}
use lib.Dec.{eqb}
use lib.ListN.{length}
use borrow.Author.Tests.{ne_eqb}
use Rattle.answer.specs.Rows.{◌⇒◌, first, one_of}
use Rattle.answer.proofs.Rows.{numbered_first}
use Rattle.warp.proofs.SplitLaws.{by_cond}
use Rattle.card.specs.Card.{read_tests, read_card_of}
use Rattle.card.proofs.CardLaws.{read_number}
use Rattle.promises.proofs.Refusals.{is_zero}
use Rattle.promises.proofs.Determined.{determined_whole}
use Rattle.sheet_lines.specs.declared.Marks.{Marks}
use Rattle.sheet_lines.specs.declared.Marks.TheVariants.{NoMarks}
use Rattle.sheet.specs.Mark.{mark_tests, model_tests}
use Rattle.capi_sheet.specs.Calls.{fitted, marks_words, call_number, MarkCalled, mark_call_of, SheetCalled, sheet_call_of}
use Rattle.sheet_promises.specs.Calls.{MarkCallAnswers, SheetCallAnswers, MarkCallBlank, SheetCallBlank, MarkCallRoom, MarkCallDetermined, SheetCallDetermined}
use Rattle.sheet_promises.proofs.Marks.{mark_number_lem, refused_unmarked, model_number_lem, model_unwritten}

-- ---- answers

-- the card's number and the room's 1
call_answers : (p : ℕ → Bool) → p 0 ≡ true → p 1 ≡ true → p 13 ≡ true → (c : List ℕ) (n : ℕ) (t : List ℕ) → p (call_number (read_card_of c) n t) ≡ true
call_answers p z a b c n t =
    let r : p (read_card_of c).number ≡ true = rw (read_number c) (numbered_first p (read_tests c) z (rw (b, a))) in
    let m : ℕ = (read_card_of c).number in
    numbered_first p (m ⇒ not (eqb m 0) ∷ 1 ⇒ not (eqb (length t) n) ∷ []) z (rw (r, a))

pub mark_call_answers : MarkCallAnswers
unfolding mark_call_of
mark_call_answers c k v d s r =
    let p : ℕ → Bool = one_of (0 ∷ 1 ∷ 13 ∷ 16 ∷ 17 ∷ []) in
    by_cond (λ (x : MarkCalled). p x.number ≡ true) (eqb (call_number (read_card_of c) 2 r) 0) _ _
    (λ z. rw (mark_number_lem k (read_card_of c).launch v d s) (numbered_first p (mark_tests k (read_card_of c).launch v d s) refl refl)) (λ z. call_answers p refl refl refl c 2 r)

pub sheet_call_answers : SheetCallAnswers
unfolding sheet_call_of
sheet_call_answers c k v d t w =
    let p : ℕ → Bool = one_of (0 ∷ 1 ∷ 13 ∷ 17 ∷ []) in
    by_cond (λ (x : SheetCalled). p x.number ≡ true) (eqb (call_number (read_card_of c) 1 w) 0) _ _
    (λ z. rw (model_number_lem k (read_card_of c).launch v d t) (numbered_first p (model_tests k (read_card_of c).launch v d t) refl refl)) (λ z. call_answers p refl refl refl c 1 w)

-- ---- the words of a result

pub mark_call_blank : MarkCallBlank
unfolding mark_call_of
mark_call_blank c k v d s r =
    by_cond (λ (x : MarkCalled). (x.number ≡ 0 → ⊥) → x.result ≡ fitted (marks_words NoMarks) r) (eqb (call_number (read_card_of c) 2 r) 0) _ _
    (λ z h. ap (λ (m : Marks). fitted (marks_words m) r) (refused_unmarked k (read_card_of c).launch v d s h)) (λ z h. refl)

pub sheet_call_blank : SheetCallBlank
unfolding sheet_call_of
sheet_call_blank c k v d t w =
    by_cond (λ (x : SheetCalled). (x.number ≡ 0 → ⊥) → x.written ≡ fitted (0 ∷ []) w) (eqb (call_number (read_card_of c) 1 w) 0) _ _
    (λ z h. ap (λ (n : ℕ). fitted (n ∷ []) w) (model_unwritten k (read_card_of c).launch v d t h)) (λ z h. refl)

-- without room for the result the call is refused
no_room : (n : ℕ) (t : Bool) → t ≡ false → first (n ⇒ not (eqb n 0) ∷ 1 ⇒ not t ∷ []) ≡ 0 → ⊥
no_room n t e = is_zero n (λ z. rw (z, e) (λ y. omega arith)) (λ z. rw (ne_eqb n 0 z) z)

pub mark_call_room : MarkCallRoom
unfolding mark_call_of
mark_call_room c k v d s r h =
    let t = ne_eqb (length r) 2 h in
    rw (ne_eqb (call_number (read_card_of c) 2 r) 0 (no_room (read_card_of c).number (eqb (length r) 2) t), t) (refl, refl)

-- ---- determinacy

pub mark_call_determined : MarkCallDetermined
mark_call_determined k v d s r = determined_whole (λ (x : MarkCalled). x) (λ (c : List ℕ). mark_call_of c k v d s r) (λ a b e. e)

pub sheet_call_determined : SheetCallDetermined
sheet_call_determined k v d t w = determined_whole (λ (x : SheetCalled). x) (λ (c : List ℕ). sheet_call_of c k v d t w) (λ a b e. e)
