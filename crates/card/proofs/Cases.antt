-- An example launch, 4 lanes at base 80000000, as a card; and cards that are refused.
use Prim.Native.Nat.{ℕ}
use mathlib.Core.Path.{◌≡◌, refl}
use mathlib.Core.List.{List, [], ◌∷◌, ◌++◌}
use lib.ListN.{set, replicate, drop}
use Rattle.warp.specs.declared.Launch.{Launch}
use Rattle.warp.specs.Warp.{zero_launch}
use Rattle.warp.specs.WellFormed.{fixed_ok_of}
use Rattle.big_endian.specs.BigEndian.{be_bytes}
use Rattle.card.specs.Card.{card_size, head_ok_at, launch_at, card_of, reading, read_card_of, writing, write_card_of}

abbrev pub example : Launch
example =
    record {
      fixed =
          record {
            numt = 4;
            numw = 1;
            wid = 0;
            launchMask = 0xf;
            codeBase = 0x80000000;
            dataBase = 0x90000000;
            knl = 1;
            wgid = 2;
            lds = 3;
            pds = 0x1000;
            gidx = 5;
            gidy = 6;
            gidz = 7;
          };
      entry = 0x80000000;
    }

abbrev pub card : List ℕ
card =
    0x00 ∷ 0x30 ∷ 0x01 ∷ 0x04 ∷ 0x01 ∷ 0x00
    ∷ 0x00 ∷ 0x00 ∷ 0x00 ∷ 0x0f
    ∷ 0x80 ∷ 0x00 ∷ 0x00 ∷ 0x00
    ∷ 0x90 ∷ 0x00 ∷ 0x00 ∷ 0x00
    ∷ 0x80 ∷ 0x00 ∷ 0x00 ∷ 0x00
    ∷ 0x00 ∷ 0x00 ∷ 0x00 ∷ 0x01
    ∷ 0x00 ∷ 0x00 ∷ 0x00 ∷ 0x02
    ∷ 0x00 ∷ 0x00 ∷ 0x00 ∷ 0x03
    ∷ 0x00 ∷ 0x00 ∷ 0x10 ∷ 0x00
    ∷ 0x00 ∷ 0x00 ∷ 0x00 ∷ 0x05
    ∷ 0x00 ∷ 0x00 ∷ 0x00 ∷ 0x06
    ∷ 0x00 ∷ 0x00 ∷ 0x00 ∷ 0x07
    ∷ []

pub size : card_size ≡ 50
size = refl

pub card_read : read_card_of card ≡ reading 0 example
unfolding read_card_of head_ok_at launch_at fixed_ok_of
card_read = refl

pub card_written : write_card_of example (replicate 50 0xff) ≡ writing 0 card
unfolding write_card_of card_of be_bytes fixed_ok_of
card_written = refl

-- ---- refused readings: each a card but for one thing

abbrev pub Refused : ℕ → List ℕ → Type 0
Refused n d = read_card_of d ≡ reading n zero_launch

pub empty : Refused 13 []
unfolding read_card_of head_ok_at
empty = refl

pub short : Refused 13 (drop 1 card)
unfolding read_card_of head_ok_at
short = refl

pub long : Refused 13 (card ++ (0 ∷ []))
unfolding read_card_of head_ok_at
long = refl

pub length_50 : Refused 13 (set card 1 50)
unfolding read_card_of head_ok_at
length_50 = refl

pub version_0 : Refused 13 (set card 2 0)
unfolding read_card_of head_ok_at
version_0 = refl

-- 33 lanes
pub lanes_33 : Refused 1 (set card 3 33)
unfolding read_card_of head_ok_at launch_at fixed_ok_of
lanes_33 = refl

-- 13 is tested before 1
pub both_wrong : Refused 13 (set (set card 2 0) 3 33)
unfolding read_card_of head_ok_at
both_wrong = refl

-- ---- refused writings leave the target

pub target_51 : write_card_of example (replicate 51 0xff) ≡ writing 1 (replicate 51 0xff)
unfolding write_card_of
target_51 = refl

pub no_launch : write_card_of zero_launch (replicate 50 0xff) ≡ writing 1 (replicate 50 0xff)
unfolding write_card_of fixed_ok_of
no_launch = refl
