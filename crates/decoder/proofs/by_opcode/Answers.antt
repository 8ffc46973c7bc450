use Prim.Native.Nat.{◌%◌}
use mathlib.Core.List.{[], ◌∷◌}
use native.Mathlib.Omega.{arith}
use Rattle.isa.specs.Fields.{fields_of}
use Rattle.isa.specs.Decode.{opcodes, decode_of}
use Rattle.isa.specs.Kinds.{row_of}
use Rattle.isa.proofs.Tables.{range_out}
use Rattle.decoder.proofs.Codes.{apart}
use Rattle.decoder.proofs.by_opcode.Goals as goal

pub returns-in-55 : goal.returns-in-55
unfolding row_of decode_of
returns-in-55 c = simp c.in-55.is

pub returns-in-23 : goal.returns-in-23
unfolding row_of decode_of
returns-in-23 c = simp c.in-23.is

pub returns-in-111 : goal.returns-in-111
unfolding row_of decode_of
returns-in-111 c = simp c.in-111.is

pub returns-in-103 : goal.returns-in-103
unfolding row_of decode_of
returns-in-103 c = simp c.in-103.is c.jalr.ensures

pub returns-in-3 : goal.returns-in-3
unfolding row_of decode_of
returns-in-3 c = simp c.in-3.is c.load.ensures

pub returns-in-35 : goal.returns-in-35
unfolding row_of decode_of
returns-in-35 c = simp c.in-35.is c.store.ensures

pub returns-in-15 : goal.returns-in-15
unfolding row_of decode_of
returns-in-15 c = simp c.in-15.is c.fence.ensures

pub returns-in-11 : goal.returns-in-11
unfolding row_of decode_of
returns-in-11 c = simp c.in-11.is c.warp_word.ensures

pub returns-in-43 : goal.returns-in-43
unfolding row_of decode_of
returns-in-43 c = simp c.in-43.is c.private.ensures

pub returns-in_default : goal.returns-in_default
unfolding row_of decode_of
returns-in_default c =
    let w = c.args.w in
    let other = apart (0b0110011 ∷ 0b0010011 ∷ 0b1100011 ∷ 0b1110011 ∷ 0b1010111 ∷ 0b1011011 ∷ 0b1111011 ∷ []) c.requires in
    range_out (λ make. make) (fields_of w) (w % 128) [] opcodes
    (0b0110111 ∷ 0b0010111 ∷ 0b1101111 ∷ 0b1100111 ∷ 0b0000011 ∷ 0b0100011 ∷ 0b0001111 ∷ 0b0001011 ∷ 0b0101011
    ∷ 0b0110011 ∷ 0b0010011 ∷ 0b1100011 ∷ 0b1110011 ∷ 0b1010111 ∷ 0b1011011 ∷ 0b1111011 ∷ []) 0 128 (omega arith) (omega arith) (
      (
        (
          ((((c.in_default.in_default-own.rest, other 0b0110011 tt), other 0b0010011 tt), other 0b1100011 tt), other 0b1110011 tt),
          other 0b1010111 tt,
        ),
        other 0b1011011 tt,
      ),
      other 0b1111011 tt,
    ) tt
