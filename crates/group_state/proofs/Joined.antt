-- Words one after another, and lists of lists written one by one.
use Prim.Native.Nat.{ℕ, ◌+◌, ◌*◌, ◌<◌}
use mathlib.Core.Path.{◌≡◌, refl, sym, ap, ◌∙◌, subst}
use mathlib.Core.List.{List, [], ◌∷◌, ◌++◌, append_assoc, append-nil}
use native.Mathlib.Numerals.{add-one}
use native.Mathlib.Omega.{arith}
use lib.ListN.{length, set, take, drop, length-append, drop_of_length-le, take-append-drop}
use lib.Seq.{get_or-set_same, get_or-set_other, take_at, drop_at, drop-drop, length_front}
use Rattle.group.proofs.GroupLaws.{by_equal}
use Rattle.layout.specs.declared.WarpWords.{WarpWords}
use Rattle.layout.specs.Words.{state_words}
use Rattle.layout.specs.Parts.{no_words, parts_in}
use Rattle.group_words.specs.Row.{words_at}
use Rattle.group_words.specs.StateWords.{joined}
use Rattle.group_state.specs.GroupState.{words_in}
use Rattle.group_state.specs.Got.{Got}

-- ---- copied out

pub got_none : (s : List ℕ) (ws : List WarpWords) → Got 0 s ws
got_none s ws i b = absurd (omega arith)

pub got_more : (i : ℕ) (s : List ℕ) (ws : List WarpWords) → Got i s ws → i < length ws → (w : WarpWords) → w ≡ parts_in (words_in i s) → Got (i + 1) s (set ws i w)
got_more i s ws o b w e j h =
    by_equal j i (λ q. subst (λ (k : ℕ). words_at (set ws i w) k ≡ parts_in (words_in k s)) (sym q) (get_or-set_same ws i w no_words b ∙ e))
    (λ q. get_or-set_other ws i j w no_words q ∙ o j (omega arith))

-- ---- put back

pub joined_none : (f : ℕ → List ℕ) → joined 0 f ≡ []
unfolding joined
joined_none f = refl

pub joined_more : (i : ℕ) (f : ℕ → List ℕ) → joined (i + 1) f ≡ joined i f ++ f i
unfolding joined
joined_more i f = rw (add-one i)

-- the turn t and the first i warps' words are put into the state s
pub record Putting (s : List ℕ) (t : ℕ) (f : ℕ → List ℕ) (i : ℕ) (u : List ℕ) : Type 0 where
  pub done : length (joined i f) ≡ i * state_words
  pub is : u ≡ (t ∷ joined i f) ++ drop (1 + i * state_words) s

pub put_none : (s : List ℕ) (t : ℕ) (f : ℕ → List ℕ) → 0 < length s → Putting (set s 0 t) t f 0 (set s 0 t)
put_none [] t f h = absurd (omega arith)
put_none (x ∷ s) t f h = record { done = ap length (joined_none f); is = ap (λ (l : List ℕ). (t ∷ l) ++ s) (sym (joined_none f)) }

module _ (s : List ℕ) (t : ℕ) (f : ℕ → List ℕ) (i : ℕ) (u : List ℕ) (p : Putting s t f i u) where
  head_long : length (t ∷ joined i f) ≡ 1 + i * state_words
  head_long = let d = p.done in omega (arith, d)

  -- where the next warp's words go
  abbrev A : ℕ
  A = 1 + i * state_words

  pub rest_is : drop A u ≡ drop A s
  rest_is = ap (drop A) p.is ∙ drop_at (t ∷ joined i f) (drop A s) A head_long

  pub put_more : (y : List ℕ) → y ≡ f i → length y ≡ state_words → Putting s t f (i + 1) (take A u ++ (y ++ drop state_words (drop A u)))
  put_more y e l =
      record {
        done = ap length (joined_more i f) ∙ length-append (joined i f) (f i) ∙ (let d = p.done in let m : length (f i) ≡ state_words = ap length (sym e) ∙ l in omega (arith, d, m));
        is = ap (λ (h : List ℕ). h ++ (y ++ drop state_words (drop A u))) (ap (take A) p.is ∙ take_at (t ∷ joined i f) (drop A s) A head_long)
            ∙ ap (λ (r : List ℕ). (t ∷ joined i f) ++ (y ++ drop state_words r)) rest_is
            ∙ sym (append_assoc (t ∷ joined i f) y (drop state_words (drop A s)))
            ∙ ap (λ (h : List ℕ). h ++ drop state_words (drop A s)) heads
            ∙ ap (λ (r : List ℕ). (t ∷ joined (i + 1) f) ++ r) rests;
      }
    where
      heads : (t ∷ joined i f) ++ y ≡ t ∷ joined (i + 1) f
      heads = ap (λ (r : List ℕ). (t ∷ joined i f) ++ r) e ∙ ap (λ (r : List ℕ). t ∷ r) (sym (joined_more i f))

      sums : A + state_words ≡ 1 + (i + 1) * state_words
      sums = omega arith

      rests : drop state_words (drop A s) ≡ drop (1 + (i + 1) * state_words) s
      rests = drop-drop state_words A s ∙ ap (λ (m : ℕ). drop m s) sums

pub put_all : (s : List ℕ) (t : ℕ) (f : ℕ → List ℕ) (n : ℕ) (u : List ℕ) → length s ≡ 1 + n * state_words → Putting s t f n u → u ≡ t ∷ joined n f
put_all s t f n u l p =
    p.is ∙ ap (λ (r : List ℕ). (t ∷ joined n f) ++ r) (drop_of_length-le s {i = 1 + n * state_words} (omega arith)) ∙ append-nil (t ∷ joined n f)

-- a part replaced by one as long leaves the length as it was
pub length_part : (a w : ℕ) (s y : List ℕ) → length y ≡ length (take w (drop a s)) → length (take a s ++ (y ++ drop w (drop a s))) ≡ length s
length_part a w s y e =
    length-append (take a s) (y ++ drop w (drop a s))
    ∙ ap (λ (m : ℕ). length (take a s) + m) (length_front (drop a s) y w e)
    ∙ sym (length-append (take a s) (drop a s))
    ∙ ap length (take-append-drop a s)
