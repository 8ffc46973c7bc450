-- Every word that is not refused is the word of its own instruction; so two words that decode alike are equal.
use Prim.Native.Nat.{ℕ, ◌^◌, ◌<◌}
use mathlib.Core.Path.{◌≡◌, sym, ◌∙◌, ap}
use Rattle.isa.specs.declared.Instr.TheVariants.{Refused}
use Rattle.isa.specs.Decode.{decode_of}
use Rattle.encoding.specs.Encode.{word_of}
use Rattle.encoding.proofs.Back.{back}

pub word_back : (w : ℕ) → w < 2 ^ 32 → (decode_of w ≡ Refused → ⊥) → word_of (decode_of w) ≡ w
word_back = back

pub word_determined : (a b : ℕ) → a < 2 ^ 32 → b < 2 ^ 32 → (decode_of a ≡ Refused → ⊥) → decode_of a ≡ decode_of b → a ≡ b
word_determined a b la lb ne e = sym (word_back a la ne) ∙ ap word_of e ∙ word_back b lb (λ r. ne (e ∙ r))
