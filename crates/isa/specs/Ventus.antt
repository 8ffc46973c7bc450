-- The Ventus words: VBRANCH, JOIN, SETRPC, ENDPRG, BARRIER, REGEXT and REGEXTI, VLOAD12 and VSTORE12, private loads and stores.
use Rattle.std.specs.Prelude.{ℕ, ◌/◌, ◌^◌, List, [], ◌∷◌, ◌++◌}
use Rattle.answer.specs.Rows.{Row, ◌⇒◌}
use Rattle.word.specs.declared.Cond.{Cond}
use Rattle.isa.specs.declared.Instr.{Instr}
use Rattle.isa.specs.declared.Instr.TheVariants as I
use Rattle.isa.specs.declared.LoadOp.{LoadOp}
use Rattle.isa.specs.declared.StoreOp.{StoreOp}
use Rattle.isa.specs.declared.StoreOp.TheVariants as S
use Rattle.isa.specs.declared.Space.TheVariants.{Plain, Private}
use Rattle.isa.specs.Fields.{Fields, x, v, imm_i, imm_s, imm_b, private_load_offset, private_store_offset}
use Rattle.isa.specs.Table.{Words, word_at, as_words, fixed}
use Rattle.isa.specs.Scalar.{conditions, loads}

-- 1011011, by funct3: VBEQ .. VBGEU, JOIN, SETRPC; 000 is VBEQ and not VADD12 (house rule)
abbrev pub vbranch_as : Cond → Fields → Instr
vbranch_as o c = I.VBranch o (v c.rs1) (v c.rs2) (imm_b c)

-- 0000000 00000 00000 010 00000 1011011
unfoldable pub join_word : Fields → Instr
join_word c = fixed c.funct7 0 (fixed c.rs2 0 (fixed c.rs1 0 (fixed c.rd 0 I.Join)))

abbrev pub set_rpc_as : Fields → Instr
set_rpc_as c = I.SetRpc (x c.rd) (x c.rs1) (imm_i c)

abbrev pub joins : Words
joins = 0b010 ⇒ join_word ∷ 0b011 ⇒ set_rpc_as ∷ []

unfoldable pub splits_word : Fields → Instr
splits_word c = word_at c c.funct3 (as_words vbranch_as conditions ++ joins)

-- 0001011, by funct3. 100, by funct7: ENDPRG; BARRIER, bits 19 to 15 free; other fields 0
unfoldable pub end_prg_word : Fields → Instr
end_prg_word c = fixed c.rs2 0 (fixed c.rs1 0 (fixed c.rd 0 I.EndPrg))

unfoldable pub barrier_word : Fields → Instr
barrier_word c = fixed c.rs2 0 (fixed c.rd 0 (I.Barrier c.rs1))

abbrev pub stops : Words
stops = 0b0000000 ⇒ end_prg_word ∷ 0b0000010 ⇒ barrier_word ∷ []

unfoldable pub stop_word : Fields → Instr
stop_word c = word_at c c.funct7 stops

-- 010 REGEXT, 011 REGEXTI: the fields of rs1 and rd 0
unfoldable pub prefix_word : (ℕ → Instr) → Fields → Instr
prefix_word make c = fixed c.rs1 0 (fixed c.rd 0 (make (imm_i c)))

abbrev pub warp_words : Words
warp_words = 0b100 ⇒ stop_word ∷ 0b010 ⇒ prefix_word I.RegExt ∷ 0b011 ⇒ prefix_word I.RegExtI ∷ []

unfoldable pub warp_word : Fields → Instr
warp_word c = word_at c c.funct3 warp_words

-- VLOAD12 and VSTORE12, by funct3
abbrev pub vstores : List (Row StoreOp)
vstores = 0b111 ⇒ S.B ∷ 0b011 ⇒ S.H ∷ 0b110 ⇒ S.W ∷ []

abbrev pub accesses : (LoadOp → Fields → Instr) → (StoreOp → Fields → Instr) → Words
accesses load store = as_words load loads ++ as_words store vstores

abbrev pub vload_as : LoadOp → Fields → Instr
vload_as o c = I.VLoad Plain o (v c.rd) (v c.rs1) (imm_i c)

abbrev pub vstore_as : StoreOp → Fields → Instr
vstore_as o c = I.VStore Plain o (v c.rs1) (v c.rs2) (imm_s c)

unfoldable pub lane_access_word : Fields → Instr
lane_access_word c = word_at c c.funct3 (accesses vload_as vstore_as)

-- the private forms, same funct3: bit 31 zero (house rule), the offset is the 11 bits under it
abbrev pub pload_as : LoadOp → Fields → Instr
pload_as o c = I.VLoad Private o (v c.rd) (v c.rs1) (private_load_offset c)

abbrev pub pstore_as : StoreOp → Fields → Instr
pstore_as o c = I.VStore Private o (v c.rs1) (v c.rs2) (private_store_offset c)

unfoldable pub private_word : Fields → Instr
private_word c = fixed (c.funct7 / 2 ^ 6) 0 (word_at c c.funct3 (accesses pload_as pstore_as))
