use Prim.Native.Nat.{ℕ, ◌+◌, ◌-◌, ◌*◌, ◌≤◌}
use mathlib.Core.Path.{◌≡◌, refl, sym, ◌∙◌}
use native.Mathlib.Omega.{arith}
use lib.ListN.{length, length-set}
use Rattle.group_drive.proofs.Stepping.{started, file_room, turned_ended, sound_set, turned_refused, turned_taken, done_ok, refused_ok}
use Rattle.group_drive.proofs.step_group.Goals as goal

-- the part that is lent has a file's words
sized : (i : ℕ) → i * 8192 + 8192 - i * 8192 ≡ 8192
sized i = omega arith

pub returns-in_default : goal.returns-in_default
returns-in_default c = turned_ended _ _ _ _ _ c.requires.1 c.in_default.ensures

pub slice_bounds-file-end : goal.slice_bounds-file-end
slice_bounds-file-end c = let fits : c.in-Some.i * 8192 + 8192 ≤ length c.args.vector.now = file_room _ _ _ _ _ c.requires.1 c.in-Some.i c.in-Some.ensures.0 in omega (arith, fits)

pub drive-end-requires : goal.drive-end-requires
drive-end-requires c = rw (sized c.in-Some.i) (started _ _ _ _ _ c.requires.1 c.in-Some.i c.in-Some.ensures.0)

pub settle-requires : goal.settle-requires
settle-requires c =
    let i = c.in-Some.i in
    let p = c.in-Some.ensures in let e = rw (sized i) at c.drive-end.ensures in
    let w = sound_set _ _ _ _ _ c.requires.1 i p.0 p.1 _ e.0 _ _ e.1 in
    (rw length-set p.0, w.rooms)

pub returns-then-is_ok : goal.returns-then-is_ok
returns-then-is_ok c =
    let i = c.in-Some.i in
    let p = c.in-Some.ensures in let e = rw (sized i) at c.drive-end.ensures in
    let z = done_ok _ (sym c.is_ok.ensures.value ∙ c.if-is_ok.true) in
    rw (z, sized i) (turned_taken _ _ _ _ _ c.requires.1 i p.0 p.1 _ e.0 _ _ e.1 z _ c.settle.ensures)

pub returns-else-is_ok : goal.returns-else-is_ok
returns-else-is_ok c =
    let i = c.in-Some.i in
    let p = c.in-Some.ensures in let e = rw (sized i) at c.drive-end.ensures in
    rw (sized i) (turned_refused _ _ _ _ _ c.requires.1 i p.0 p.1 _ e.0 _ _ e.1 (refused_ok _ (sym c.is_ok.ensures.value ∙ c.if-is_ok.false)))
