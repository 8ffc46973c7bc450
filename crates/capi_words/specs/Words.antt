-- The calls for C and Rust that look at single words.
use Rattle.std.specs.Prelude.{ℕ, cond, ◌||◌, eqb}
use denote.Enum.Declared.{tag_of}
use Rattle.isa.specs.contracts.Instr.{the_type}
use Rattle.isa.specs.declared.Instr.{Instr}
use Rattle.isa.specs.declared.Instr.TheVariants.{Refused}
use Rattle.isa.specs.Decode.{decode_of}
use Rattle.isa.specs.Masked.{over_mask}

-- which variant an instruction is
abbrev pub variant : Instr → ℕ
variant i = tag_of the_type i

-- decode: 6 for a word that isn't in the instruction tables, or that is masked and has a destination v0 that it may not have
unfoldable pub decode_call_of : ℕ → ℕ
decode_call_of w = cond (eqb (variant (decode_of w)) (variant Refused) || over_mask (decode_of w)) 6 0
