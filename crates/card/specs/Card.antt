-- The launch card: how its bytes lie, and what reading and writing it answer.
use Rattle.std.specs.Prelude.{ℕ, Bool, not, ◌&&◌, cond, List, [], ◌∷◌, eqb, length, replicate, Result}
use Rattle.std.specs.Result.{result_unwrap_or}
use Rattle.answer.specs.declared.Refusal.{Refusal}
use Rattle.answer.specs.Answer.{number_of}
use Rattle.answer.specs.Rows.{Row, ◌⇒◌, first}
use Rattle.warp.specs.declared.Launch.{Launch}
use Rattle.warp.specs.Warp.{zero_launch}
use Rattle.warp.specs.WellFormed.{launch_ok_of}
use Rattle.big_endian.specs.Layout.{Values, end, ◌▹◌, total_of, values_at, bytes_of}

-- 2 bytes length; version, NUMT, NUMW, WID, one byte each; then eleven 32-bit words
abbrev pub layout : List ℕ
layout = 2 ∷ 1 ∷ 1 ∷ 1 ∷ 1 ∷ replicate 11 4

abbrev pub card_size : ℕ
card_size = total_of layout

-- the length field, counting what follows
abbrev pub card_length : ℕ
card_length = 48

abbrev pub card_version : ℕ
card_version = 1

-- ---- the fields, in the card's order

abbrev pub values_of : Launch → Values layout
values_of l =
    let f = l.fixed in
    card_length ▹ card_version ▹ f.numt ▹ f.numw ▹ f.wid
    ▹ f.launchMask ▹ f.codeBase ▹ f.dataBase ▹ l.entry ▹ f.knl ▹ f.wgid ▹ f.lds ▹ f.pds ▹ f.gidx ▹ f.gidy ▹ f.gidz ▹ end

abbrev pub launch_from : Values layout → Launch
launch_from
    (len ▹ version ▹ numt ▹ numw ▹ wid
    ▹ mask ▹ codeBase ▹ dataBase ▹ entry ▹ knl ▹ wgid ▹ lds ▹ pds ▹ gidx ▹ gidy ▹ gidz ▹ end) =
    record {
      fixed =
          record {
            numt = numt;
            numw = numw;
            wid = wid;
            launchMask = mask;
            codeBase = codeBase;
            dataBase = dataBase;
            knl = knl;
            wgid = wgid;
            lds = lds;
            pds = pds;
            gidx = gidx;
            gidy = gidy;
            gidz = gidz;
          };
      entry = entry;
    }

-- length and version as they must be
abbrev pub head_ok : Values layout → Bool
head_ok (len ▹ version ▹ rest) = eqb len card_length && eqb version card_version

-- ---- the bytes d as a card, and the card of a launch

unfoldable pub head_ok_at : List ℕ → Bool
head_ok_at d = head_ok (values_at layout d 0)

unfoldable pub launch_at : List ℕ → Launch
launch_at d = launch_from (values_at layout d 0)

unfoldable pub card_of : Launch → List ℕ
card_of l = bytes_of (values_of l)

-- ---- answers: the first test that holds refuses

-- what a reading leaves
pub record Reading : Type 0 where
  pub number : ℕ
  pub launch : Launch

abbrev pub reading : ℕ → Launch → Reading
reading n l = record { number = n; launch = l }

abbrev pub reading_of : Result Launch Refusal → Reading
reading_of r = reading (number_of r) (result_unwrap_or r zero_launch)

-- any other total, length or version is 13; then a value out of range is 1
abbrev pub read_tests : List ℕ → List (Row Bool)
read_tests d = 13 ⇒ not (eqb (length d) card_size) ∷ 13 ⇒ not (head_ok_at d) ∷ 1 ⇒ not (launch_ok_of (launch_at d)) ∷ []

unfoldable pub read_card_of : List ℕ → Reading
read_card_of d =
    let n : ℕ = first (read_tests d) in
    reading n (cond (eqb n 0) (launch_at d) zero_launch)

-- what a writing leaves
pub record Writing : Type 0 where
  pub number : ℕ
  pub target : List ℕ

abbrev pub writing : ℕ → List ℕ → Writing
writing n t = record { number = n; target = t }

-- a target that isn't exactly a card's size, or a value out of range, is 1
abbrev pub write_tests : Launch → List ℕ → List (Row Bool)
write_tests l t = 1 ⇒ not (eqb (length t) card_size) ∷ 1 ⇒ not (launch_ok_of l) ∷ []

unfoldable pub write_card_of : Launch → List ℕ → Writing
write_card_of l t =
    let n : ℕ = first (write_tests l t) in
    writing n (cond (eqb n 0) (card_of l) t)
