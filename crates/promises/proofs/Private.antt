-- Private memory is each lane's own.
use Prim.Native.Nat.{ℕ, ◌+◌, ◌-◌, ◌*◌, ◌/◌, ◌%◌, ◌^◌, ◌≤◌, ◌<◌}
use mathlib.Core.Path.{◌≡◌, refl, sym, ap, subst, ◌∙◌}
use mathlib.Core.Bool.{Bool, true}
use mathlib.Core.List.{[], ◌∷◌}
use native.Mathlib.Nat.{mul-le-mul, mod-add-div', add-mul-mod_self_right, mod-eq_of_lt}
use native.Mathlib.Omega.{arith}
use borrow.Author.Tests.{leb-true}
use Rattle.answer.specs.Rows.{◌⇒◌, first}
use Rattle.answer.proofs.Rows.{passed}
use Rattle.isa.specs.declared.Instr.{Instr}
use Rattle.isa.specs.declared.Space.TheVariants.{Private}
use Rattle.isa.specs.declared.VReg.{VReg}
use Rattle.lanes.specs.declared.Lane.{Lane}
use Rattle.lanes.specs.Mask.{lane}
use Rattle.lanes.specs.Lanes.{lanes_max, lane_of, ok_if}
use Rattle.lanes.proofs.Laws.{all_at, ok_at}
use Rattle.memory.specs.Memory.{size_of, width_of, Has}
use Rattle.memory.specs.Address.{own_place, private_of, in_word_at, in_word}
use Rattle.memory.specs.LaneAccess.{all_in_word}
use Rattle.warp.specs.declared.Fixed.{Fixed}
use Rattle.definition.specs.State.{State, fixed_of, active, private_in, lane_at}
use Rattle.definition.specs.Refuse.{some_outside, some_clash, refusals_of}
use Rattle.definition.proofs.Sound.{step_clear}
use Rattle.promises.specs.Lanes.{is_active}
use Rattle.promises.specs.Private.{Reaches, loads, stores, own_bytes, LanesApart, StepsApart}
use Rattle.promises.proofs.Stores.{active_below}
use Rattle.promises.proofs.Written.{fixed_of_lem}

-- ---- numbers: word q of lane l is number l + q·t among the words of t lanes

lane_back : (t q l : ℕ) → l < t → (l + q * t) % t ≡ l
lane_back t q l h = add-mul-mod_self_right l q t ∙ mod-eq_of_lt h

-- byte s of one word and byte s' of another: where they are one byte, the words are one lane's
one_lane : (t l h q p s s' : ℕ) → l < t → h < t → s < 4 → s' < 4 → 4 * (q * t) + s + 4 * l ≡ 4 * (p * t) + s' + 4 * h → l ≡ h
one_lane t l h q p s s' hl hh hs hs' e =
    let w : l + q * t ≡ h + p * t = omega arith in
    sym (lane_back t q l hl) ∙ ap (λ (n : ℕ). n % t) w ∙ lane_back t p h hh

-- the first byte of the word that the place u lies in
word_of : (u t : ℕ) → (u - u % 4) * t ≡ 4 * (u / 4 * t)
word_of u t =
    let e : u - u % 4 ≡ u / 4 * 4 = omega (arith, mod-add-div' u 4) in
    ap (λ (n : ℕ). n * t) e ∙ four (u / 4) t
  where
    four : (q t : ℕ) → q * 4 * t ≡ 4 * (q * t)
    four q t = omega arith

-- numbers that are equal after wrapping, d having been added to both, were equal before: they are small
unwrapped : (x y d r r' q q' i j : ℕ) → r + q * 2 ^ 32 ≡ x + d → r' + q' * 2 ^ 32 ≡ y + d → x < 2 ^ 16 → y < 2 ^ 16 → i < 4 → j < 4 → r + i ≡ r' + j → x + i ≡ y + j
unwrapped x y d r r' q q' i j e e' hx hy hi hj w = omega arith

module _ (t : ℕ) (small : t ≤ lanes_max) where
  -- where the place u of lane l lies, before PDS is added
  abbrev from : ℕ → ℕ → ℕ
  from l u = (u - u % 4) * t + u % 4 + 4 * l

  from_small : (l u : ℕ) → l < t → u < own_bytes → from l u < 2 ^ 16
  from_small l u hl hu =
      let below : u - u % 4 ≤ own_bytes = omega arith in
      let most : (u - u % 4) * t ≤ own_bytes * lanes_max = mul-le-mul below small in
      let low : u % 4 < 4 = omega arith in
      omega arith

  -- byte i of an access at u and byte j of one at u' are one byte: the lanes are one
  same_byte : (l h u u' d i j : ℕ) → l < t → h < t → u < own_bytes → u' < own_bytes → u % 4 + i < 4 → u' % 4 + j < 4
      → (from l u + d) % 2 ^ 32 + i ≡ (from h u' + d) % 2 ^ 32 + j → l ≡ h
  same_byte l h u u' d i j hl hh hu hu' hi hj e =
      let w = unwrapped (from l u) (from h u') d _ _ _ _ i j (mod-add-div' (from l u + d) (2 ^ 32)) (mod-add-div' (from h u' + d) (2 ^ 32)) (from_small l u hl hu) (from_small h u' hh hu') (omega arith) (omega arith) e in
      one_lane t l h (u / 4) (u' / 4) (u % 4 + i) (u' % 4 + j) hl hh hi hj (regroup _ _ _ _ _ _ _ _ _ _ (word_of u t) (word_of u' t) w)
    where
      regroup : (a b a' b' s s' i j l h : ℕ) → a ≡ a' → b ≡ b' → a + s + 4 * l + i ≡ b + s' + 4 * h + j → a' + (s + i) + 4 * l ≡ b' + (s' + j) + 4 * h
      regroup a b a' b' s s' i j l h p q w = omega arith

-- ---- accesses

module _ (f : Fixed) (small : f.numt ≤ lanes_max) (l h : Lane) (hl : l.0 < f.numt) (hh : h.0 < f.numt) where
  meet : (a n u n' u' : ℕ) → u % 4 + n ≤ 4 → u' % 4 + n' ≤ 4 → u < own_bytes → u' < own_bytes → Has n (private_of (private_in f) u l) a → Has n' (private_of (private_in f) u' h) a → l ≡ h
  meet a n u n' u' p p' hu hu' b b' =
      let x : ℕ = private_of (private_in f) u l in
      let y : ℕ = private_of (private_in f) u' h in
      ap lane (same_byte f.numt small l.0 h.0 u u' f.pds (a - x) (a - y) hl hh hu hu' (inner x n u p b) (inner y n' u' p' b') (back x n b ∙ sym (back y n' b')))
    where
      inner : (x n u : ℕ) → u % 4 + n ≤ 4 → Has n x a → u % 4 + (a - x) < 4
      inner x n u p b = omega (arith, b.0, b.1)

      back : (x n : ℕ) → Has n x a → x + (a - x) ≡ a
      back x n b = omega (arith, b.0)

-- an access has the bytes from its address on
has : (m : State) (l : Lane) (a n u : ℕ) (i : Instr) → Reaches m l a i n u → Has n (private_of (private_in (fixed_of m)) u l) a
has m l a n u i (loads k r x off b) = b
has m l a n u i (stores k x y off b) = b

-- at a step that was taken an active lane's access passes 14
module _ (m : State) (l : Lane) (t : is_active m l ≡ true) where
  in_word_lem : (n : ℕ) (x : VReg) (off : ℕ) → all_in_word (fixed_of m).numt (active m) Private n (lane_of m.vector x) off ≡ true → in_word_at n (own_place (lane_of m.vector x l) off) ≡ true
  in_word_lem n x off e =
      let fit : Lane → Bool = λ l. in_word Private n (lane_of m.vector x l) off in
      ok_at (active m l) (fit l) (all_at (λ l. ok_if (active m l) (fit l)) (fixed_of m).numt l (sym e) (active_below m l t).0) (active_below m l t).1

  fits : (a n u : ℕ) (i : Instr) → Reaches m l a i n u → first (refusals_of i m) ≡ 0 → in_word_at n u ≡ true
  unfolding refusals_of
  fits a n u i (loads k r x off b) z = in_word_lem (size_of k) x off (passed [] (9 ⇒ some_outside (size_of k) (lane_at Private x off m) m ∷ []) 14 _ refl z)
  fits a n u i (stores k x y off b) z = in_word_lem (width_of k) x off (passed [] (9 ⇒ some_outside (width_of k) (lane_at Private x off m) m ∷ 15 ⇒ some_clash k (lane_at Private x off m) y m ∷ []) 14 _ refl z)

-- ---- the promises

pub lanes_apart : LanesApart
lanes_apart m o e small l h hl hh other i j a n u n' u' r r' p p' hu hu' =
    other (meet (fixed_of m) small l h hl hh a n u n' u' (leb-true _ _ p) (leb-true _ _ p') hu hu' (has m l a n u i r) (subst (λ (f : Fixed). Has n' (private_of (private_in f) u' h) a) (sym e) (has o h a n' u' j r')))

pub steps_apart : StepsApart
steps_apart k k' m o e z z' l h t t' other a n u n' u' r r' hu hu' =
    let c = step_clear k m z in
    let small = (fixed_of_lem m.warp c.formed).lanes.1 in
    let hh = (active_below o h t').0 in
    lanes_apart m o e small l h (active_below m l t).0 (subst (λ (f : Fixed). h.0 < f.numt) (sym e) hh) other _ _ a n u n' u' r r'
    (fits m l t a n u _ r c.rest) (fits o h t' a n' u' _ r' (step_clear k' o z').rest) hu hu'
