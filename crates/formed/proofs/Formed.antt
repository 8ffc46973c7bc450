-- The test of well-formedness, word by word.
use Prim.Native.Nat.{ℕ, zero, suc, ◌+◌, ◌-◌, ◌*◌, ◌<◌, ◌≤◌}
use mathlib.Core.Path.{◌≡◌, refl, sym, ◌∙◌, ap}
use mathlib.Core.Bool.{Bool, true, false, not, ◌&&◌, ◌||◌, and-true, and-false, and_assoc}
use mathlib.Core.List.{List, [], ◌∷◌}
use native.Mathlib.Omega.{arith}
use native.Mathlib.Numerals.{add-one}
use lib.Dec.{eqb, ltb}
use lib.ListN.{get_or, drop, length, drop_of_length-le}
use lib.Seq.{drop-cons}
use Rattle.std.specs.List.{fold}
use lib.Bits.{bit_or, or_zero_l, or_add_and, and_le_r}
use borrow.Author.Tests.{ne_eqb, eqb-true, le-leb, lt-leb}
use Rattle.answer.proofs.Rows.{both, every_at}
use Rattle.isa.specs.Prefix.{pending}
use Rattle.warp.specs.declared.Split.{Split}
use Rattle.warp.specs.declared.Warp.{Warp}
use Rattle.warp.specs.Warp.{split_count, aligned}
use Rattle.warp.specs.WellFormed.{fixed_ok_of, split_ok_of, chain_of, is_zero, all_zero, prefix_ok_of, well_formed_of}
use Rattle.warp.proofs.Chain.{chain_step, chain_end, zero_step, zero_end}
use Rattle.layout.specs.Words.{split_size, flat_count, is_set, is_flag, depth_in, pc_in, mask_in, ended_in, waiting_in, prefix_in, fixed_in, phase_at, split_at, splits_in, warp_of, phases_ok_of, sound_of}
use Rattle.layout.proofs.Splits.{splits_length, splits_get, phases_step}
use Rattle.layout.specs.declared.WarpWords.{WarpWords}
use Rattle.layout.specs.Parts.{parts_of, warp_from, sound_from}
use Rattle.layout.proofs.Words.{apart, apart_sound}

-- ---- the open splits

shuffle : (a b c d : Bool) → ((a && b) && (c && d)) ≡ ((a && c) && (b && d))
shuffle false b c d = refl
shuffle true true c d = refl
shuffle true false c d = sym (and-false c)

module _ (l : ℕ) (s : List ℕ) (k m : ℕ) (h : 0 < k) (d : k ≤ split_count) where
  -- all but the last of k open splits
  abbrev rest : Bool
  rest = phases_ok_of (k - 1) s && chain_of l (splits_in s) (k - 1) (split_at s (k - 1)).full

  open_step : (phases_ok_of k s && chain_of l (splits_in s) k m) ≡ ((is_flag (phase_at s (k - 1)) && split_ok_of (split_at s (k - 1)) m) && rest)
  open_step =
      let e : chain_of l (splits_in s) k m ≡ (split_ok_of (split_at s (k - 1)) m && chain_of l (splits_in s) (k - 1) (split_at s (k - 1)).full) = chain_step l (splits_in s) k m h ∙ ap (λ (q : Split). split_ok_of q m && chain_of l (splits_in s) (k - 1) q.full) (splits_get s (k - 1) (omega arith)) in
      rw (phases_step k s h, e) (shuffle (is_flag (phase_at s (k - 1))) (phases_ok_of (k - 1) s) (split_ok_of (split_at s (k - 1)) m) (chain_of l (splits_in s) (k - 1) (split_at s (k - 1)).full))

  module _ (a : Bool) (e : a ≡ (is_flag (phase_at s (k - 1)) && split_ok_of (split_at s (k - 1)) m)) where
    pub open_stop : a ≡ false → (phases_ok_of k s && chain_of l (splits_in s) k m) ≡ false
    open_stop f = open_step ∙ ap (λ (b : Bool). b && rest) (sym e ∙ f)

    pub open_go : a ≡ true → (phases_ok_of k s && chain_of l (splits_in s) k m) ≡ rest
    open_go f = open_step ∙ ap (λ (b : Bool). b && rest) (sym e ∙ f)

pub open_end : (l : ℕ) (s : List ℕ) (k m : ℕ) → k ≤ 0 → (phases_ok_of k s && chain_of l (splits_in s) k m) ≡ eqb m l
unfolding phases_ok_of
open_end l s zero m h = chain_end l (splits_in s) 0 m h
open_end l s (suc k) m h = absurd (omega arith)

-- ---- the unused records

-- n words from i on are zeros
unfoldable pub zeros_from : List ℕ → ℕ → ℕ → Bool
zeros_from s i zero = true
zeros_from s i (suc n) = eqb (get_or s i 0) 0 && zeros_from s (i + 1) n

or_zero : (a b : ℕ) → eqb (bit_or a b) 0 ≡ (eqb a 0 && eqb b 0)
or_zero zero b = rw (or_zero_l b)
or_zero (suc a) b = rw (ne_eqb (suc a) 0 (λ e. omega arith)) (ne_eqb (bit_or (suc a) b) 0 (λ e. omega (arith, or_add_and (suc a) b, and_le_r (suc a) b)))

-- the bits of all words from i on, gathered onto those of `any`
pub gathered : (n : ℕ) (s : List ℕ) (any i : ℕ) → i + n ≡ length s → eqb (fold bit_or any (drop i s)) 0 ≡ (eqb any 0 && zeros_from s i n)
unfolding zeros_from
gathered zero s any i e = rw (drop_of_length-le s {i = i} (omega arith), and-true (eqb any 0))
gathered (suc n) s any i e =
    let w : ℕ = get_or s i 0 in
    ap (λ (l : List ℕ). eqb (fold bit_or any l) 0) (drop-cons s i 0 (omega arith)) ∙ gathered n s (bit_or any w) (suc i) (omega arith)
    ∙ rw (or_zero any w, add-one) (and_assoc (eqb any 0) (eqb w 0) (zeros_from s (suc i) n))

same_zero : (n : ℕ) → not (is_set n) ≡ eqb n 0
same_zero n = not_not (eqb n 0)
  where
    not_not : (b : Bool) → not (not b) ≡ b
    not_not true = refl
    not_not false = refl

record_zero : (s : List ℕ) (d n : ℕ) → zeros_from s (d * split_size) (suc n * split_size) ≡ (is_zero (split_at s d) && zeros_from s ((d + 1) * split_size) (n * split_size))
unfolding zeros_from
record_zero s d n =
    let m : suc n * split_size ≡ suc (suc (suc (suc (suc (n * split_size))))) = omega arith in
    let i : ℕ = d * split_size in
    let i2 : d * split_size + 1 + 1 ≡ d * split_size + 2 = omega arith in
    let i3 : d * split_size + 2 + 1 ≡ d * split_size + 3 = omega arith in
    let i4 : d * split_size + 3 + 1 ≡ d * split_size + 4 = omega arith in
    let i5 : d * split_size + 4 + 1 ≡ (d + 1) * split_size = omega arith in
    rw (m, i2, i3, i4, i5, same_zero (phase_at s d)) (simp (and_assoc, and-true))

zeros_none : (s : List ℕ) (i : ℕ) → true ≡ zeros_from s i 0
unfolding zeros_from
zeros_none s i = refl

zeros_are : (n : ℕ) (s : List ℕ) (d : ℕ) → d + n ≡ split_count → all_zero (drop d (splits_in s)) ≡ zeros_from s (d * split_size) (n * split_size)
zeros_are zero s d e = zero_end (splits_in s) d (omega (arith, splits_length split_count s)) ∙ zeros_none s (d * split_size)
zeros_are (suc n) s d e =
    zero_step (splits_in s) d (omega (arith, splits_length split_count s))
    ∙ rw (splits_get s d (omega arith), zeros_are n s (d + 1) (omega arith)) (sym (record_zero s d n))

-- unused records are words that are zeros
pub unused_zeros : (s : List ℕ) (d : ℕ) → d ≤ split_count → all_zero (drop d (splits_in s)) ≡ zeros_from s (d * split_size) (flat_count - d * split_size)
unused_zeros s d h =
    let n : (split_count - d) * split_size ≡ flat_count - d * split_size = omega arith in
    rw (← n) (zeros_are (split_count - d) s d (omega arith))

zero_phase : (s : List ℕ) (d : ℕ) → is_zero (split_at s d) ≡ true → is_flag (phase_at s d) ≡ true
zero_phase s d z =
    let q : Split = split_at s d in
    let p = every_at (eqb q.rpc 0 ∷ eqb q.full 0 ∷ eqb q.elseMask 0 ∷ eqb q.elsePc 0 ∷ not q.phaseTwo ∷ []) z 4 in
    let e : phase_at s d ≡ 0 = eqb-true _ _ (sym (same_zero (phase_at s d)) ∙ p) in
    rw e

-- an unused record's phase is 0, so that the phases of the open splits decide
unused_phases : (n : ℕ) (s : List ℕ) (d : ℕ) → d + n ≡ split_count → all_zero (drop d (splits_in s)) ≡ true → phases_ok_of split_count s ≡ phases_ok_of d s
unfolding phases_ok_of
unused_phases zero s d e z = let k : d ≡ split_count = omega arith in ap (λ (n : ℕ). phases_ok_of n s) (sym k)
unused_phases (suc n) s d e z =
    let ss = splits_in s in
    let b = both (is_zero (split_at s d)) (all_zero (drop (d + 1) ss)) (ap (λ (q : Split). is_zero q && all_zero (drop (d + 1) ss)) (sym (splits_get s d (omega arith))) ∙ sym (zero_step ss d (omega (arith, splits_length split_count s))) ∙ z) in
    unused_phases n s (d + 1) (omega arith) b.1 ∙ rw (add-one d, zero_phase s d b.0)

-- ---- all of it

-- the order in which the code asks, and that of the definition
tests : (e w f a z u o p p' c q r t : Bool) → (u ≡ true → p ≡ p')
    → (e && (w && (f && (a && (z && (u && (o && ((p' && c) && (q && (r && t)))))))))) ≡ ((e && (w && (p && true))) && (f && (a && (z && (u && (o && (c && (q && (r && (t && true))))))))))
tests false w f a z u o p p' c q r t h = refl
tests true false f a z u o p p' c q r t h = refl
tests true true f a z false o p p' c q r t h = simp (and-false, and-true)
tests true true f a z true o p true c q r t h = rw (h refl) (simp and-true)
tests true true f a z true o p false c q r t h = rw (h refl) (simp and-false)

module _ (g h x s : List ℕ) where
  pub formed_deep : split_count < depth_in h → false ≡ (sound_of h s && well_formed_of (warp_of g h x s))
  unfolding sound_of
  formed_deep d = rw (lt-leb _ _ d)

  -- ended or waiting
  abbrev stopped : Bool
  stopped = is_set (ended_in h) || is_set (waiting_in h)

  pub formed_words : (f u c r : Bool) → depth_in h ≤ split_count → f ≡ fixed_ok_of (fixed_in g) → u ≡ all_zero (drop (depth_in h) (splits_in s))
      → c ≡ (phases_ok_of (depth_in h) s && chain_of (fixed_in g).launchMask (splits_in s) (depth_in h) (mask_in h)) → r ≡ prefix_ok_of (prefix_in h)
      → (is_flag (ended_in h) && (is_flag (waiting_in h) && (f && (aligned (pc_in h) && (eqb (get_or x 0 0) 0 && (u && (not (is_set (ended_in h) && is_set (waiting_in h)) && (c && (not (stopped && ltb 0 (depth_in h)) && (r && not (stopped && pending (prefix_in h))))))))))))
      ≡ (sound_of h s && well_formed_of (warp_of g h x s))
  unfolding sound_of warp_of well_formed_of
  formed_words f u c r d ef eu ec er =
      rw (ef, eu, ec, er, le-leb _ _ d)
      (tests (is_flag (ended_in h)) (is_flag (waiting_in h)) (fixed_ok_of (fixed_in g)) (aligned (pc_in h)) (eqb (get_or x 0 0) 0) (all_zero (drop (depth_in h) (splits_in s))) (not (is_set (ended_in h) && is_set (waiting_in h)))
      (phases_ok_of split_count s) (phases_ok_of (depth_in h) s) (chain_of (fixed_in g).launchMask (splits_in s) (depth_in h) (mask_in h)) (not (stopped && ltb 0 (depth_in h))) (prefix_ok_of (prefix_in h)) (not (stopped && pending (prefix_in h)))
      (unused_phases (split_count - depth_in h) s (depth_in h) (omega arith)))

-- ---- of a warp

pub deep_malformed : (w : Warp) → split_count < w.depth → well_formed_of w ≡ false
unfolding well_formed_of
deep_malformed w d = simp (lt-leb _ _ d, and-false)

-- a warp's words pass the test where it is well formed
pub apart_formed : (w : Warp) → length w.splits ≡ split_count → w.depth ≤ split_count → (p : WarpWords) → p ≡ parts_of w → (sound_from p && well_formed_of (warp_from p)) ≡ well_formed_of w
apart_formed w l d p e = rw (e, apart_sound w l d, apart w l)
