-- A launch written and read back is that launch, and a card read and written back is that card.
use Prim.Native.Nat.{ℕ, ◌^◌, ◌<◌}
use mathlib.Core.Path.{◌≡◌, sym, ap, ◌∙◌}
use mathlib.Core.Bool.{true}
use mathlib.Core.List.{List, []}
use native.Mathlib.Omega.{arith}
use lib.Dec.{eqb}
use lib.ListN.{length}
use borrow.Author.Tests.{eqb-true}
use Rattle.answer.proofs.Rows.{both}
use Rattle.warp.specs.declared.Launch.{Launch}
use Rattle.warp.specs.WellFormed.{fixed_ok_of, launch_ok_of}
use Rattle.warp.specs.Warp.{aligned}
use Rattle.warp.specs.Facts.{FixedOk}
use Rattle.warp.proofs.Formed.{fixed_ok}
use Rattle.big_endian.proofs.BigEndianLaws.{Bytes}
use Rattle.big_endian.specs.Layout.{Values, end, ◌▹◌, values_at, bytes_of}
use Rattle.big_endian.proofs.LayoutLaws.{Each, InPlace, layout_length, bytes_values, values_bytes}
use Rattle.card.specs.Card.{layout, card_size, card_length, card_version, values_of, launch_from, head_ok, head_ok_at, launch_at, card_of, Reading, reading, read_card_of, Writing, writing, write_card_of}
use Rattle.card.proofs.CardLaws.{read_done, write_done, accepted}

-- the launch's values are 32-bit words
abbrev pub CardWords : Launch → Type 0
CardWords l = Each (λ w x. x < 2 ^ 32) (values_of l)

-- ---- writing, then reading

pub length_card : (l : Launch) → length (card_of l) ≡ card_size
unfolding card_of
length_card l = layout_length (values_of l)

-- an accepted launch's NUMT, NUMW and WID fit a byte
fits : (l : Launch) → launch_ok_of l ≡ true → CardWords l → InPlace (values_of l)
fits l ok h =
    let k : FixedOk l.fixed = fixed_ok l.fixed (both (fixed_ok_of l.fixed) (aligned l.entry) ok).0 in
    (omega arith, (omega arith, (omega arith, (omega arith, (omega arith, h.1.1.1.1.1)))))

values_card : (l : Launch) → launch_ok_of l ≡ true → CardWords l → values_at layout (card_of l) 0 ≡ values_of l
unfolding card_of
values_card l ok h = values_bytes (values_of l) (fits l ok h) []

read_card : (l : Launch) → launch_ok_of l ≡ true → CardWords l → read_card_of (card_of l) ≡ reading 0 l
unfolding head_ok_at launch_at
read_card l ok h =
    let e : launch_at (card_of l) ≡ l = ap launch_from (values_card l ok h) in
    sym (read_done (card_of l) (length_card l) (ap head_ok (values_card l ok h)) (ap launch_ok_of e ∙ ok)) ∙ ap (reading 0) e

-- WRITING AN ACCEPTED LAUNCH AND READING IT BACK GIVES THE SAME LAUNCH.
pub read_written : (l : Launch) (t : List ℕ) → launch_ok_of l ≡ true → CardWords l → length t ≡ card_size → read_card_of (write_card_of l t).target ≡ reading 0 l
read_written l t ok h s = ap (λ (w : Writing). read_card_of w.target) (sym (write_done l t s ok)) ∙ read_card l ok h

-- ---- reading, then writing

-- the fields of a card whose head is as it must be are those of its launch
values_launch : (v : Values layout) → head_ok v ≡ true → values_of (launch_from v) ≡ v
values_launch (len ▹ version ▹ numt ▹ numw ▹ wid ▹ mask ▹ codeBase ▹ dataBase ▹ entry ▹ knl ▹ wgid ▹ lds ▹ pds ▹ gidx ▹ gidy ▹ gidz ▹ end) ok =
    let p = both (eqb len card_length) (eqb version card_version) ok in
    let e : len ≡ card_length = eqb-true len card_length p.0 in
    let f : version ≡ card_version = eqb-true version card_version p.1 in
    cc

card_launch : (d : List ℕ) → Bytes d → length d ≡ card_size → head_ok_at d ≡ true → card_of (launch_at d) ≡ d
unfolding card_of launch_at head_ok_at
card_launch d h s k = ap (λ (v : Values layout). bytes_of v) (values_launch (values_at layout d 0) k) ∙ bytes_values d h layout 0 (sym s)

-- READING AN ACCEPTED CARD AND WRITING IT BACK GIVES THE SAME BYTES.
pub written_read : (d t : List ℕ) → Bytes d → (read_card_of d).number ≡ 0 → length t ≡ card_size → write_card_of (read_card_of d).launch t ≡ writing 0 d
written_read d t h e s =
    let a = accepted d e in
    ap (λ (r : Reading). write_card_of r.launch t) (sym (read_done d a.size a.head a.range))
    ∙ sym (write_done (launch_at d) t s a.range)
    ∙ ap (writing 0) (card_launch d h a.size a.head)
