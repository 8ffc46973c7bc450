-- The numbers that the two calls can answer: 0, and those that a refusal's line has words for.
use Prim.Native.Nat.{ℕ}
use mathlib.Core.Path.{◌≡◌, refl}
use mathlib.Core.Bool.{Bool, true, false, not, cond}
use mathlib.Core.List.{List, [], ◌∷◌}
use lib.Dec.{eqb}
use Rattle.answer.specs.Rows.{◌⇒◌, first, one_of}
use Rattle.answer.proofs.Rows.{numbered_first}
use Rattle.warp.specs.declared.Launch.{Launch}
use Rattle.card.specs.Card.{Reading, read_tests, read_card_of}
use Rattle.card.proofs.CardLaws.{read_number}
use Rattle.launch_files.specs.LaunchFiles.{kernel_words_of, files_ok_of, read_files_of}
use Rattle.sheet.specs.Mark.{Marking, mark_tests, mark_of, Modelling, model_tests, model_of}
use Rattle.sheet_files.specs.SheetFiles.{marked_of, modelled_of}

abbrev pub worded : ℕ → Bool
worded n = one_of (0 ∷ 1 ∷ 13 ∷ 16 ∷ 17 ∷ []) n

either : {A : Type 0} (f : A → ℕ) (t : Bool) (x y : A) → worded (f x) ≡ true → worded (f y) ≡ true → worded (f (cond t x y)) ≡ true
either f true x y p q = p
either f false x y p q = q

files_number : (c k d : List ℕ) → worded (read_files_of c k d).number ≡ true
unfolding read_files_of
files_number c k d =
    let n : ℕ = (read_card_of c).number in
    let w : worded n ≡ true = rw (read_number c) (numbered_first worded (read_tests c) refl refl) in
    numbered_first worded (n ⇒ not (eqb n 0) ∷ 1 ⇒ not (files_ok_of k d) ∷ []) refl (rw w)

module _ (k : List ℕ) (l : Launch) (v d t : List ℕ) where
  launch_marked : worded (mark_of k l v d t).number ≡ true
  unfolding mark_of
  launch_marked =
      let p = numbered_first worded (mark_tests k l v d t) refl refl in
      either (λ (m : Marking). m.number) (eqb (first (mark_tests k l v d t)) 0) _ _ p p

  launch_modelled : worded (model_of k l v d t).number ≡ true
  unfolding model_of
  launch_modelled =
      let p = numbered_first worded (model_tests k l v d t) refl refl in
      either (λ (m : Modelling). m.number) (eqb (first (model_tests k l v d t)) 0) _ _ p p

module _ (c k d v t : List ℕ) where
  pub marked_number : worded (marked_of c k d v t).number ≡ true
  unfolding marked_of
  marked_number =
      let r : Reading = read_files_of c k d in
      either (λ (m : Marking). m.number) (eqb r.number 0) _ _ (launch_marked (kernel_words_of k) r.launch v d t) (files_number c k d)

  pub modelled_number : worded (modelled_of c k d v t).number ≡ true
  unfolding modelled_of
  modelled_number =
      let r : Reading = read_files_of c k d in
      either (λ (m : Modelling). m.number) (eqb r.number 0) _ _ (launch_modelled (kernel_words_of k) r.launch v d t) (files_number c k d)
