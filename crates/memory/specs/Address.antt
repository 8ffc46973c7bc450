-- The address of an access: a register's word and an offset, the raw field of the instruction.
use Rattle.std.specs.Prelude.{Bool, true, List, ℕ, ◌+◌, ◌-◌, ◌*◌, ◌%◌, ◌^◌, leb}
use Rattle.word.specs.Word.{add_of, extend_of}
use Rattle.isa.specs.declared.VReg.{VReg}
use Rattle.isa.specs.declared.Space.{Space}
use Rattle.isa.specs.declared.Space.TheVariants as space
use Rattle.lanes.specs.declared.Lane.{Lane}
use Rattle.lanes.specs.Lanes.{lane_of}
use Rattle.memory.specs.declared.Private.{Private}

-- the plain rule, of scalar accesses too: the word x and the 12-bit offset, sign-extended, wrapping
abbrev pub plain_of : ℕ → ℕ → ℕ
plain_of x off = add_of x (extend_of 12 off)

-- the place u of a private access in its lane's own memory: the word x and the 11-bit offset, sign-extended, wrapping
abbrev pub own_place : ℕ → ℕ → ℕ
own_place x off = add_of x (extend_of 11 off)

-- the private rule, for the place u of lane l (source document 002): word by word the lanes' memories stand side by side, wrapping
abbrev pub private_of : Private → ℕ → Lane → ℕ
private_of p u l = ((u - u % 4) * p.numt + u % 4 + 4 * l.0 + p.pds) % 2 ^ 32

-- where lane l's access goes
abbrev pub address_of : Space → Private → ℕ → ℕ → Lane → ℕ
address_of space.Plain p x off l = plain_of x off
address_of space.Private p x off l = private_of p (own_place x off) l

-- the same with the word that lane l has in register r
abbrev pub lane_address : Space → Private → List ℕ → VReg → ℕ → Lane → ℕ
lane_address s p v r off l = address_of s p (lane_of v r l) off l

-- n bytes at the place u of a lane's memory stay in one word
abbrev pub in_word_at : ℕ → ℕ → Bool
in_word_at n u = leb (u % 4 + n) 4

-- an access of n bytes crosses no word boundary of its lane; of a plain one this isn't asked
abbrev pub in_word : Space → ℕ → ℕ → ℕ → Bool
in_word space.Plain n x off = true
in_word space.Private n x off = in_word_at n (own_place x off)

-- what an offset's raw field is below
abbrev pub offset_limit : Space → ℕ
offset_limit space.Plain = 2 ^ 12
offset_limit space.Private = 2 ^ 11
