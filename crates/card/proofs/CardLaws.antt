-- Reading and writing a card, case by case; two results that a contract allows are equal.
use Prim.Native.Nat.{ℕ}
use mathlib.Core.Path.{◌≡◌, refl, sym, ap, ◌∙◌}
use mathlib.Core.Bool.{Bool, true, false, not}
use mathlib.Core.List.{List, [], ◌∷◌}
use lib.Dec.{eqb}
use lib.ListN.{length}
use borrow.Author.Tests.{eq-eqb, ne_eqb, eqb-true}
use Rattle.std.specs.Prelude.{Result}
use Rattle.answer.specs.declared.Refusal.{Refusal}
use Rattle.answer.specs.Answer.{number_of}
use Rattle.answer.specs.Rows.{Row, ◌⇒◌, first}
use Rattle.answer.proofs.Numbers.{number_one}
use Rattle.answer.proofs.Rows.{passed}
use Rattle.warp.specs.declared.Launch.{Launch}
use Rattle.warp.specs.Warp.{zero_launch}
use Rattle.warp.specs.WellFormed.{launch_ok_of}
use Rattle.big_endian.specs.Puts.{puts_all, later}
use Rattle.card.specs.Card.{values_of, card_size, head_ok_at, launch_at, card_of, Reading, reading, reading_of, read_tests, read_card_of, Writing, writing, write_tests, write_card_of}

-- ---- reading

-- the number is that of the first test that holds
pub read_number : (d : List ℕ) → (read_card_of d).number ≡ first (read_tests d)
unfolding read_card_of
read_number d = refl

module _ (d : List ℕ) where
  pub read_total : (length d ≡ card_size → ⊥) → reading 13 zero_launch ≡ read_card_of d
  unfolding read_card_of
  read_total n = simp (ne_eqb _ _ n)

  module _ (s : length d ≡ card_size) where
    pub read_head : head_ok_at d ≡ false → reading 13 zero_launch ≡ read_card_of d
    unfolding read_card_of
    read_head h = simp (eq-eqb _ _ s, h)

    module _ (h : head_ok_at d ≡ true) where
      pub read_range : launch_ok_of (launch_at d) ≡ false → reading 1 zero_launch ≡ read_card_of d
      unfolding read_card_of
      read_range o = simp (eq-eqb _ _ s, h, o)

      pub read_done : launch_ok_of (launch_at d) ≡ true → reading 0 (launch_at d) ≡ read_card_of d
      unfolding read_card_of
      read_done o = simp (eq-eqb _ _ s, h, o)

-- what an accepted reading says
pub record Readable (d : List ℕ) : Type 0 where
  pub size : length d ≡ card_size
  pub head : head_ok_at d ≡ true
  pub range : launch_ok_of (launch_at d) ≡ true

pub accepted : (d : List ℕ) → (read_card_of d).number ≡ 0 → Readable d
accepted d e =
    let z : first (read_tests d) ≡ 0 = sym (read_number d) ∙ e in
    let total : Row Bool = 13 ⇒ not (eqb (length d) card_size) in
    let head : Row Bool = 13 ⇒ not (head_ok_at d) in
    let range : Row Bool = 1 ⇒ not (launch_ok_of (launch_at d)) in
    record {
      size = eqb-true _ _ (passed [] (head ∷ range ∷ []) 13 _ refl z);
      head = passed (total ∷ []) (range ∷ []) 13 _ refl z;
      range = passed (total ∷ head ∷ []) [] 1 _ refl z;
    }

-- ---- writing

pub write_number : (l : Launch) (t : List ℕ) → (write_card_of l t).number ≡ first (write_tests l t)
unfolding write_card_of
write_number l t = refl

module _ (l : Launch) (t : List ℕ) where
  pub write_total : (length t ≡ card_size → ⊥) → writing 1 t ≡ write_card_of l t
  unfolding write_card_of
  write_total n = simp (ne_eqb _ _ n)

  module _ (s : length t ≡ card_size) where
    pub write_range : launch_ok_of l ≡ false → writing 1 t ≡ write_card_of l t
    unfolding write_card_of
    write_range o = simp (eq-eqb _ _ s, o)

    pub write_done : launch_ok_of l ≡ true → writing 0 (card_of l) ≡ write_card_of l t
    unfolding write_card_of
    write_done o = simp (eq-eqb _ _ s, o)

-- the target t once the values after the first n are put into it too, from index i on
abbrev pub puts_rest : Launch → ℕ → ℕ → List ℕ → List ℕ
puts_rest l n i t = puts_all (later n (values_of l)) i t

-- ---- determinacy

-- two results of read_card for the same bytes
pub read_determined : (d : List ℕ) (r s : Result Launch Refusal) → reading_of r ≡ read_card_of d → reading_of s ≡ read_card_of d → r ≡ s
read_determined d r s p q =
    let e : reading_of r ≡ reading_of s = p ∙ sym q in
    number_one zero_launch r s (ap (λ (x : Reading). x.number) e) (ap (λ (x : Reading). x.launch) e)

-- two results of write_card for the same launch and target: the answers, and what the target holds
pub write_determined : (l : Launch) (t : List ℕ) (a b : Result Unit Refusal) (u v : List ℕ) → writing (number_of a) u ≡ write_card_of l t → writing (number_of b) v ≡ write_card_of l t → (a ≡ b) × (u ≡ v)
write_determined l t a b u v p q =
    let e : writing (number_of a) u ≡ writing (number_of b) v = p ∙ sym q in
    (number_one tt a b (ap (λ (x : Writing). x.number) e) refl, ap (λ (x : Writing). x.target) e)
