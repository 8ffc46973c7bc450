-- Worked cases, by computing on the definitions.
use mathlib.Core.Path.{◌≡◌, refl}
use mathlib.Core.Bool.{true, false}
use mathlib.Core.List.{List, [], ◌∷◌}
use Prim.Native.Nat.{ℕ, ◌+◌, ◌-◌, ◌^◌}
use lib.ListN.{get_or}
use Rattle.isa.specs.declared.LoadOp.TheVariants.{B, H, W, Hu}
use Rattle.isa.specs.declared.Space.TheVariants as space
use Rattle.isa.specs.declared.StoreOp.TheVariants as store
use Rattle.lanes.specs.declared.Lane.{Lane}
use Rattle.lanes.specs.Mask.{lane, bit_at, bit}
use Rattle.lanes.specs.Lanes.{each_lane, all_below, write_lanes}
use Rattle.memory.specs.Bytes.{le_bytes}
use Rattle.memory.specs.Memory.{Memory, memory, inside_of, load_of}
use Rattle.memory.specs.Memories.{Memories, memories, alone, inside_one, store_to}
use Rattle.memory.specs.declared.Private.{Private}
use Rattle.memory.specs.Address.{address_of, in_word}
use Rattle.memory.specs.LaneAccess.{all_inside, all_in_word, agree_of, all_agree, store_lanes}

-- sixteen bytes at 0x1000
base : ℕ
base = 4096

bytes : List ℕ
bytes = 1 ∷ 2 ∷ 3 ∷ 4 ∷ 250 ∷ 251 ∷ 252 ∷ 253 ∷ 8 ∷ 9 ∷ 10 ∷ 11 ∷ 12 ∷ 13 ∷ 14 ∷ 15 ∷ []

abbrev lent : Memory
lent = memory base bytes

-- the same with no local memory: a single warp's
abbrev single : Memories
single = memories base 0 (alone bytes)

-- the words of four lanes, and their addresses by the distance from the base
words : Lane → ℕ
words l = get_or (287454020 ∷ 1432778632 ∷ 2576980377 ∷ 3722304989 ∷ []) l.0 0

abbrev row : List ℕ → Lane → ℕ
row a l = base + get_or a l.0 0

-- a store with lane 3 outside is not refused where that lane isn't active, and lanes 0 to 2 write
three_inside : all_inside 4 (bit 7) (inside_one single 4) (row (0 ∷ 4 ∷ 8 ∷ 13 ∷ [])) ≡ true
unfolding base bytes all_below bit_at
three_inside = refl

three_written : store_lanes 4 (bit 7) store.W (row (0 ∷ 4 ∷ 8 ∷ 13 ∷ [])) words single
    ≡ alone (68 ∷ 51 ∷ 34 ∷ 17 ∷ 136 ∷ 119 ∷ 102 ∷ 85 ∷ 153 ∷ 153 ∷ 153 ∷ 153 ∷ 12 ∷ 13 ∷ 14 ∷ 15 ∷ [])
unfolding base bytes words each_lane bit_at le_bytes store_to
three_written = refl

-- lanes 0, 1 and 3 store different bytes to one address: they clash, though lane 2, which stores to another, is between them and not active
clash : all_agree 4 (bit 11) store.B (row (5 ∷ 5 ∷ 6 ∷ 5 ∷ [])) words ≡ false
unfolding base words agree_of all_below bit_at le_bytes
clash = refl

-- one byte in common: lane 0's last is 0x11, lane 1's first 0x88
one_common : all_agree 4 (bit 3) store.W (row (0 ∷ 3 ∷ 0 ∷ 0 ∷ [])) words ≡ false
unfolding base words agree_of all_below bit_at le_bytes
one_common = refl

-- three bytes in common, all 0x99
equal : all_agree 4 (bit 12) store.W (row (0 ∷ 0 ∷ 8 ∷ 9 ∷ [])) (λ l. words (lane 2)) ≡ true
unfolding base words agree_of all_below bit_at le_bytes
equal = refl

-- one byte in common, where the upper lane's access is the lower one in memory: 0x88 at its end, and at the beginning of lane 0's
met : all_agree 2 (bit 3) store.W (row (3 ∷ 0 ∷ [])) (λ l. get_or (0x11223388 ∷ 0x88776655 ∷ []) l.0 0) ≡ true
unfolding base agree_of all_below bit_at le_bytes
met = refl

-- inactive lanes 1 and 3 would clash with each other and with lane 0
inactive : all_agree 4 (bit 5) store.H (row (0 ∷ 1 ∷ 4 ∷ 1 ∷ [])) words ≡ true
unfolding base words agree_of all_below bit_at le_bytes
inactive = refl

-- equal bytes are stored, whichever lane is last
agreed : store_lanes 4 (bit 11) store.B (row (5 ∷ 5 ∷ 5 ∷ 5 ∷ [])) (λ l. words (lane 3)) single
    ≡ alone (1 ∷ 2 ∷ 3 ∷ 4 ∷ 250 ∷ 221 ∷ 252 ∷ 253 ∷ 8 ∷ 9 ∷ 10 ∷ 11 ∷ 12 ∷ 13 ∷ 14 ∷ 15 ∷ [])
unfolding base bytes words each_lane bit_at le_bytes store_to
agreed = refl

-- lanes 0 and 2 load a byte each into v0; lanes 1 and 3 keep their words, wherever their addresses lie
load_lanes : write_lanes 4 (bit 5) (record { 0 = 0 }) (λ l. load_of B lent (row (4 ∷ 99 ∷ 0 ∷ 99 ∷ []) l)) (7 ∷ 7 ∷ 7 ∷ 7 ∷ []) ≡ 4294967290 ∷ 7 ∷ 1 ∷ 7 ∷ []
unfolding base bytes each_lane bit_at
load_lanes = refl

-- the memory's end: the last byte passes, one past it is outside; and at the end of the address space
last_byte : inside_of lent 1 (base + 15) ≡ true
unfolding base bytes
last_byte = refl

past_end : inside_of lent 1 (base + 16) ≡ false
unfolding base bytes
past_end = refl

no_wrap : inside_of (memory (2 ^ 32 - 16) bytes) 4 (2 ^ 32 - 2) ≡ false
unfolding bytes
no_wrap = refl

-- loads: any alignment, little-endian, sign or zero
load_half : load_of H lent (base + 3) ≡ 4294965764
unfolding base bytes
load_half = refl

load_byte : load_of B lent (base + 4) ≡ 4294967290
unfolding base bytes
load_byte = refl

load_unsigned : load_of Hu lent (base + 4) ≡ 64506
unfolding base bytes
load_unsigned = refl

load_word_lem : load_of W lent (base + 12) ≡ 252579084
unfolding base bytes
load_word_lem = refl

load_past : inside_of lent 4 (base + 13) ≡ false
unfolding base bytes
load_past = refl

-- four lanes, and their private memories at 0x1000
abbrev four : Private
four = record { numt = 4; pds = 0x1000 }

-- addresses wrap: 4 + (-8)
plain_wraps : address_of space.Plain four 4 4088 (lane 1) ≡ 4294967292
plain_wraps = refl

-- vs1 + offset = 8, lane 1: 0x1024; its neighbours' words stand before and behind it, and its own next word 16 bytes on
private_word_lem : address_of space.Private four 5 3 (lane 1) ≡ 0x1024
private_word_lem = refl

private_before : address_of space.Private four 5 3 (lane 0) ≡ 0x1020
private_before = refl

private_behind : address_of space.Private four 5 3 (lane 2) ≡ 0x1028
private_behind = refl

private_next : address_of space.Private four 9 3 (lane 1) ≡ 0x1034
private_next = refl

-- vs1 + offset = 8 - 1: the last byte of the word before; and 0 - 1, which wraps: 4·(2^32 - 4) + 3 + 4 + 0x1000
private_byte : address_of space.Private four 8 2047 (lane 1) ≡ 0x1017
private_byte = refl

private_wraps : address_of space.Private four 0 2047 (lane 1) ≡ 0xFF7
private_wraps = refl

-- the edges of 14: a word fits at 0 of its four bytes and not at 1, a half at 2 and not at 3, a byte at 3
word_at_0 : in_word space.Private 4 5 3 ≡ true
word_at_0 = refl

word_at_1 : in_word space.Private 4 6 3 ≡ false
word_at_1 = refl

half_at_2 : in_word space.Private 2 7 3 ≡ true
half_at_2 = refl

half_at_3 : in_word space.Private 2 8 3 ≡ false
half_at_3 = refl

byte_at_3 : in_word space.Private 1 8 3 ≡ true
byte_at_3 = refl

-- a plain access has no such edge
plain_at_1 : in_word space.Plain 4 6 3 ≡ true
plain_at_1 = refl

-- 14 asks active lanes only, and every one of them: lane 3's half would cross
three_in_word : all_in_word 4 (bit 7) space.Private 2 (row (4 ∷ 6 ∷ 8 ∷ 11 ∷ [])) 0 ≡ true
unfolding base all_below bit_at
three_in_word = refl

fourth_crosses : all_in_word 4 (bit 15) space.Private 2 (row (4 ∷ 6 ∷ 8 ∷ 11 ∷ [])) 0 ≡ false
unfolding base all_below bit_at
fourth_crosses = refl
