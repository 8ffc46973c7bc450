use Prim.Native.Nat.{ℕ}
use mathlib.Core.Path.{◌≡◌, refl, sym, ap, ◌∙◌}
use mathlib.Core.Bool.{Bool, true, false, cond, ◌||◌}
use mathlib.Core.List.{List, [], ◌∷◌}
use lib.Dec.{eqb}
use borrow.Enum.Refused.{opened}
use types.Run.{miss}
use borrow.Author.Tests.{ne_eqb}
use Rattle.isa.specs.declared.Instr.{Instr}
use Rattle.isa.specs.declared.Instr.TheVariants.{Refused}
use Rattle.isa.specs.Masked.{over_mask}
use Rattle.isa.specs.Decode.{decode_of}
use Rattle.capi_words.specs.Words.{variant, decode_call_of}
use Rattle.capi_words.proofs.bench_decode.Goals as goal

-- the code's test of the destination is the definition's
over : (w : ℕ) (i : Instr) (r : Bool) → i ≡ decode_of w → r ≡ over_mask i → over_mask (decode_of w) ≡ r
over w i r e h = sym (h ∙ ap over_mask e)

abbrev absent : Instr → Bool
absent i = eqb (variant i) (variant Refused)

abbrev number : Bool → Bool → ℕ
number a b = cond (a || b) 6 0

either : (a b : Bool) → b ≡ true → 6 ≡ number a b
either true b e = refl
either false b e = rw e

-- the second arm's variants: all but Refused, whose place is 0
abbrev later : List ℕ
later = 1 ∷ 2 ∷ 3 ∷ 4 ∷ 5 ∷ 6 ∷ 7 ∷ 8 ∷ 9 ∷ 10 ∷ 11 ∷ 12 ∷ 13 ∷ 14 ∷ 15 ∷ 16 ∷ 17 ∷ 18 ∷ 19 ∷ 20 ∷ 21 ∷ 22 ∷ 23 ∷ 24 ∷ 25 ∷ 26 ∷ 27 ∷ []

neither : (a b : Bool) → a ≡ false → b ≡ false → 0 ≡ number a b
neither a b p q = rw (p, q)

pub returns-then-over_mask : goal.returns-then-over_mask
unfolding decode_call_of
returns-then-over_mask c = c.number.ensures ∙ either (absent (decode_of c.args.word)) _ (over c.args.word _ _ c.decode-i.ensures c.over_mask.ensures ∙ c.if-over_mask.true)

pub returns-in-Refused : goal.returns-in-Refused
unfolding decode_call_of
returns-in-Refused c = c.number-in-Refused.ensures ∙ rw (← c.decode-i.ensures, c.in-Refused.is)

pub returns-in_default : goal.returns-in_default
unfolding decode_call_of
returns-in_default c =
    let i : Instr = c.decode-i.result in
    let other : variant i ≡ 0 → ⊥ = λ e. miss later 0 tt (rw e at (opened c.in_default.in_default-own.keys2)) in
    neither (absent (decode_of c.args.word)) _ (sym (ap absent c.decode-i.ensures) ∙ ne_eqb (variant i) 0 other) (over c.args.word _ _ c.decode-i.ensures c.over_mask.ensures ∙ c.if-over_mask.false)
