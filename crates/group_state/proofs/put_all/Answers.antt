use Prim.Native.Nat.{ℕ, ◌+◌, ◌-◌, ◌*◌, ◌<◌}
use mathlib.Core.Path.{◌≡◌, refl, ◌∙◌}
use mathlib.Core.List.{List}
use native.Mathlib.Omega.{arith}
use lib.ListN.{length, take, drop, length-drop, length-set}
use lib.Seq.{length-take-le}
use Rattle.group_state.proofs.Joined.{put_none, put_more, length_part}
use Rattle.group_state.proofs.put_all.Goals as goal

-- the part that is lent has a warp's words
sized : (i : ℕ) → 1 + i * 241 + 241 - (1 + i * 241) ≡ 241
sized i = omega arith

part_long : (i n : ℕ) (s : List ℕ) → i < n → length s ≡ 1 + n * 241 → length (take 241 (drop (1 + i * 241) s)) ≡ 241
part_long i n s h l = length-take-le 241 (drop (1 + i * 241) s) (let d = length-drop (1 + i * 241) s in omega (arith, d))

pub loop-i-init : goal.loop-i-init
loop-i-init c =
    let some : 0 < length c.args.state.now = omega (arith, c.requires.1) in
    (refl, put_none c.args.state.now _ _ some)

pub loop-i-preserved : goal.loop-i-preserved
loop-i-preserved c =
    let n = length c.args.ws.now in
    let long : length c.loop-i.state ≡ 1 + n * 241 = c.loop-i.invariant.0 ∙ length-set c.args.state.now 0 c.args.turn ∙ c.requires.1 in
    let piece : length c.put.new.state ≡ length (take (1 + c.loop-i.i * 241 + 241 - (1 + c.loop-i.i * 241)) (drop (1 + c.loop-i.i * 241) c.loop-i.state)) = c.put.auto.state in
    let i = c.loop-i.i in
    let y = rw (sized i) at piece in (
      rw (sized i) (length_part (1 + i * 241) 241 c.loop-i.state c.put.new.state y ∙ c.loop-i.invariant.0),
      rw (sized i) (put_more _ _ _ i _ c.loop-i.invariant.1 _ c.put.ensures (y ∙ part_long i n c.loop-i.state c.loop-i-test.true long)),
    )
