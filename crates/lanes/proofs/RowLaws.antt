-- Turns of the loops over lanes that fill a row, write by choice, or build a mask.
use mathlib.Core.Path.{◌≡◌, refl, sym, ap, ap₂, ◌∙◌, subst}
use mathlib.Core.Bool.{Bool, true, false, true≢false, cond}
use mathlib.Core.Logic.{⊎_elim}
use mathlib.Core.List.{List}
use Prim.Native.Nat.{ℕ, zero, suc, ◌+◌, ◌-◌, ◌*◌, ◌%◌, ◌^◌, ◌≤◌, ◌<◌}
use native.Mathlib.Nat.{one-mul, pow-suc, eq-or-lt_of_le}
use native.Mathlib.Numerals.{add-one}
use native.Mathlib.Omega.{arith}
use lib.Pow.{shl_exact}
use lib.Dec.{eqb}
use lib.Bits.{bit_or, or_shifted_r, or_zero_r}
use lib.ListN.{length, get_or, set, replicate, length-set, length-replicate, get_or-replicate}
use lib.Seq.{get_or-set_same, get_or-set_other, set-get_or}
use denote.Param.Members.{Mut, Called}
use Rattle.std.specs.Array.{IsFromFnResultFrom, IsFromFnResult}
use Rattle.isa.specs.declared.VReg.{VReg}
use Rattle.lanes.specs.declared.Lane.{Lane}
use Rattle.lanes.specs.Mask.{lane, bit}
use Rattle.lanes.specs.Lanes.{lanes_max, file_words, slot_of, step_if, each_lane, write_lanes, mask_of, all_lanes, ok_if, value_of, uniform_of}
use Rattle.lanes.proofs.Laws.{newest, each_on, each_off, write_same, all_same, value_only}
use Rattle.lanes.proofs.MaskLaws.{bit_above}
use Rattle.lanes.specs.Rows.{at, RowOf, RowOn, mask_step}

-- the word x in lane l: what holds of the lanes below holds of one more
set_more : (P : Lane → Type 0) (f : Lane → ℕ) (a : List ℕ) (l x : ℕ) → l < length a → x ≡ f (lane l) → ((k : Lane) → k.0 < l → P k → at a k ≡ f k)
    → (k : Lane) → k.0 < l + 1 → P k → at (set a l x) k ≡ f k
set_more P f a l x h e r k z p =
    ⊎_elim
    (λ q. subst (λ (j : Lane). at (set a l x) j ≡ f j) (sym q) (get_or-set_same a l x 0 h ∙ e))
    (λ q. get_or-set_other a l k.0 x 0 (λ w. omega arith) ∙ r k q p)
    (newest (subst (λ (j : ℕ). k.0 < j) (add-one l) z))

pub row_on_some : (on : Lane → Bool) (f : Lane → ℕ) (a : List ℕ) (l x : ℕ) → l < lanes_max → x ≡ f (lane l) → RowOn on l f a → RowOn on (l + 1) f (set a l x)
row_on_some on f a l x h e r =
    (length-set a l x ∙ r.0, set_more (λ j. on j ≡ true) f a l x (subst (λ (j : ℕ). l < j) (sym r.0) h) e r.1)

pub row_on_none : (on : Lane → Bool) (f : Lane → ℕ) (a : List ℕ) (l : ℕ) → on (lane l) ≡ false → RowOn on l f a → RowOn on (l + 1) f a
row_on_none on f a l o r = (r.0, more)
  where
    more : (k : Lane) → k.0 < l + 1 → on k ≡ true → at a k ≡ f k
    more k z t = ⊎_elim (λ q. absurd (true≢false (sym t ∙ ap on q ∙ o))) (λ q. r.1 k q t) (newest (subst (λ (j : ℕ). k.0 < j) (add-one l) z))

-- one word in every lane
pub row_of : (x : ℕ) → RowOf lanes_max (λ l. x) (replicate lanes_max x)
row_of x = (length-replicate lanes_max x, λ k h. get_or-replicate lanes_max k.0 x 0 h)

-- a row that `array::from_fn` made by a closure that changes nothing
module _ {F : Type 0} (g : Mut F (ℕ × Unit {0}) ℕ) (f : Lane → ℕ) (p : F) (gives : (i y : ℕ) (q : F) → Called g p (i, tt) y q → (q ≡ p) × (y ≡ f (lane i))) where
  made_from : (a : List ℕ) (n i : ℕ) (s : F) → s ≡ p → IsFromFnResultFrom g s a i n → (k : ℕ) → i ≤ k → k < i + n → get_or a k 0 ≡ f (lane k)
  made_from a zero i s e r k l h = absurd (omega arith)
  made_from a (suc n) i s e r k l h =
      let z = gives i r.1 r.0 (subst (λ (x : F). Called g x (i, tt) r.1 r.0) e r.3) in
      ⊎_elim (λ w. subst (λ (j : ℕ). get_or a j 0 ≡ f (lane j)) w (r.2.1 0 ∙ z.1)) (λ w. made_from a n (i + 1) r.0 z.0 r.4 k (omega arith) (omega arith)) (eq-or-lt_of_le l)

  pub row_made : (a : List ℕ) → IsFromFnResult g p a lanes_max → RowOf lanes_max f a
  row_made a r = (r.long, λ k h. made_from a lanes_max 0 p refl r.each k.0 (omega arith) (omega arith))

-- ---- the file u when a loop has written its lanes below l into the file v
module _ (on : Lane → Bool) (d : VReg) (f : Lane → ℕ) (v : List ℕ) where
  abbrev pub RowWritten : ℕ → List ℕ → Type 0
  RowWritten l u = (length u ≡ file_words) × (u ≡ write_lanes l on d f v)

  pub written_on : (l : ℕ) (u : List ℕ) (i x : ℕ) → on (lane l) ≡ true → i ≡ slot_of d (lane l) → x ≡ f (lane l) → RowWritten l u → RowWritten (l + 1) (set u i x)
  written_on l u i x t e q h = (length-set u i x ∙ h.0, each_on on (λ k w. set w (slot_of d k) (f k)) v l u (set u i x) t (ap₂ (set u) e q) h.1)

  pub written_off : (l : ℕ) (u : List ℕ) → on (lane l) ≡ false → RowWritten l u → RowWritten (l + 1) u
  written_off l u t h = (h.0, each_off on _ v l u t h.1)

  -- by choice: the new word where the lane is on, else the word that it had
  pub written_choice : (l : ℕ) (u : List ℕ) (i x : ℕ) (t : Bool) → t ≡ on (lane l) → i ≡ slot_of d (lane l) → x ≡ cond t (f (lane l)) (get_or u i 0) → RowWritten l u → RowWritten (l + 1) (set u i x)
  written_choice l u i x true o e q h = written_on l u i x (sym o) e q h
  written_choice l u i x false o e q h = subst (RowWritten (l + 1)) (sym (ap (set u i) q ∙ set-get_or u i 0)) (written_off l u (sym o) h)

-- lanes that are off change nothing: the count may be any that has every lane that is on
each_idle : {A : Type 0} (on : Lane → Bool) (step : Lane → A → A) (x : A) (n k : ℕ) → ((l : Lane) → n ≤ l.0 → on l ≡ false) → each_lane (k + n) on step x ≡ each_lane n on step x
unfolding each_lane
each_idle on step x n zero e =
    let q : 0 + n ≡ n = omega arith in
    ap (λ (m : ℕ). each_lane m on step x) q
each_idle on step x n (suc k) e =
    let q : suc k + n ≡ suc (k + n) = omega arith in
    ap (λ (m : ℕ). each_lane m on step x) q
    ∙ ap (λ (t : Bool). step_if t (step (lane (k + n))) (each_lane (k + n) on step x)) (e (lane (k + n)) (omega arith))
    ∙ each_idle on step x n k e

each_numt : {A : Type 0} (m n : ℕ) (step : Lane → A → A) (x : A) → m < 2 ^ n → n ≤ lanes_max → each_lane lanes_max (bit m) step x ≡ each_lane n (bit m) step x
each_numt m n step x h k =
    let q : lanes_max ≡ (lanes_max - n) + n = omega arith in
    ap (λ (j : ℕ). each_lane j (bit m) step x) q
    ∙ each_idle (bit m) step x n (lanes_max - n) (λ l z. bit_above m n l h z)

-- a row written in all lanes, by a mask of n lanes
pub row_written : (m n : ℕ) (d : VReg) (f g : Lane → ℕ) (v : List ℕ) → m < 2 ^ n → n ≤ lanes_max → ((l : Lane) → l.0 < lanes_max → f l ≡ g l)
    → write_lanes lanes_max (bit m) d f v ≡ write_lanes n (bit m) d g v
row_written m n d f g v h k e = each_numt m n _ v h k ∙ write_same (bit m) d f g v n (λ l b t. e l (omega arith))

-- one lane more in a mask
pub mask_turn : (on : Lane → Bool) (l m w : ℕ) (t : Bool) → t ≡ on (lane l) → w ≡ mask_step t (lane l) m → m ≡ mask_of l on → w ≡ mask_of (l + 1) on
mask_turn on l m w true e q h = each_on on (λ k z. z + 2 ^ k.0) 0 l m w (sym e) q h
mask_turn on l m w false e q h = each_off on (λ k z. z + 2 ^ k.0) 0 l w (sym e) (q ∙ h)

pub mask_grows : (l m w : ℕ) (t : Bool) → w ≡ mask_step t (lane l) m → m < 2 ^ l → w < 2 ^ (l + 1)
mask_grows l m w true e h = rw add-one (omega (arith, pow-suc 2 l))
mask_grows l m w false e h = rw add-one (omega (arith, pow-suc 2 l))

-- the last word of the lanes that are on
pub value_turn : (on : Lane → Bool) (f : Lane → ℕ) (l x w : ℕ) (t : Bool) → t ≡ on (lane l) → w ≡ cond t (f (lane l)) x → x ≡ value_of l on f → w ≡ value_of (l + 1) on f
value_turn on f l x w true e q h = each_on on (λ k z. f k) 0 l x w (sym e) q h
value_turn on f l x w false e q h = each_off on (λ k z. f k) 0 l w (sym e) (q ∙ h)

one_shift : (l : ℕ) → l < lanes_max → (1 * 2 ^ l) % 4294967296 ≡ 2 ^ l
one_shift l h = shl_exact {a = 1} 1 l 32 (omega arith) (omega arith) ∙ one-mul (2 ^ l)

pub with_lane : (m l x : ℕ) (t : Bool) → l < lanes_max → m < 2 ^ l → x ≡ cond t ((1 * 2 ^ l) % 4294967296) 0 → bit_or m x ≡ mask_step t (lane l) m
with_lane m l x true h k e = ap (bit_or m) (e ∙ one_shift l h ∙ sym (one-mul (2 ^ l))) ∙ or_shifted_r 1 l m k ∙ rw one-mul (omega arith)
with_lane m l x false h k e = ap (bit_or m) e ∙ or_zero_r m

-- what `uniform` finds in a row of a register's words
module _ (m n : ℕ) (f : Lane → ℕ) (x : List ℕ) (one : ℕ) (rx : (l : Lane) → l.0 < n → at x l ≡ f l) (found : one ≡ value_of n (bit m) (at x)) where
  pub uniform_value : one ≡ value_of n (bit m) f
  uniform_value = found ∙ value_only n (bit m) (at x) f (λ l h t. rx l h)

  pub uniform_row : (t : Bool) → t ≡ all_lanes n (λ l. ok_if (bit m l) (eqb (at x l) one)) → t ≡ uniform_of n (bit m) f
  uniform_row t e = e ∙ all_same _ _ n (λ l h. ap (ok_if (bit m l)) (ap₂ eqb (rx l h) uniform_value))
