-- A word's instruction, by its opcode; Refused is refusal 6.
use Rattle.std.specs.Prelude.{ℕ, ◌%◌, ◌^◌, [], ◌∷◌}
use Rattle.answer.specs.Rows.{◌⇒◌}
use Rattle.isa.specs.declared.Instr.{Instr}
use Rattle.isa.specs.Fields.{fields_of}
use Rattle.isa.specs.Table.{Words, word_at}
use Rattle.isa.specs.Scalar.{lui_word, auipc_word, jal_word, jalr_word, branch_word, load_word, store_word, op_imm_word, op_word, fence_word, csr_word}
use Rattle.isa.specs.Vector.{vector_word}
use Rattle.isa.specs.Ventus.{splits_word, warp_word, lane_access_word, private_word}

abbrev pub opcodes : Words
opcodes =
    0b0110111 ⇒ lui_word ∷ 0b0010111 ⇒ auipc_word ∷ 0b1101111 ⇒ jal_word ∷ 0b1100111 ⇒ jalr_word
    ∷ 0b1100011 ⇒ branch_word ∷ 0b0000011 ⇒ load_word ∷ 0b0100011 ⇒ store_word
    ∷ 0b0010011 ⇒ op_imm_word ∷ 0b0110011 ⇒ op_word ∷ 0b0001111 ⇒ fence_word ∷ 0b1110011 ⇒ csr_word
    ∷ 0b1010111 ⇒ vector_word ∷ 0b1011011 ⇒ splits_word ∷ 0b0001011 ⇒ warp_word
    ∷ 0b1111011 ⇒ lane_access_word ∷ 0b0101011 ⇒ private_word ∷ []

unfoldable pub decode_of : ℕ → Instr
decode_of w = word_at (fields_of w) (w % 2 ^ 7) opcodes
