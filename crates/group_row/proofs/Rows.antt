-- A lent run of warps, copied into a group by value and back.
use Prim.Native.Nat.{ℕ, ◌≤◌, ◌<◌}
use mathlib.Core.Path.{◌≡◌, sym, ap, ◌∙◌}
use mathlib.Core.Bool.{false}
use mathlib.Core.List.{List, ◌++◌, append-nil}
use native.Mathlib.Omega.{arith}
use lib.Dec.{ltb}
use lib.ListN.{length, take, drop, replicate, length-replicate, take-append-drop, drop_of_length-le}
use lib.Seq.{take_at, take_all, take-take, length-take-le}
use borrow.Author.Tests.{le-leb, lt-leb, lt-ltb, le-ltb, ltb-true, ltb-false}
use Rattle.memory.specs.Memories.{Contents}
use Rattle.warp.specs.declared.Warp.{Warp}
use Rattle.warp.specs.Warp.{zero_warp}
use Rattle.group.specs.Group.{group, fixeds_of}
use Rattle.group.specs.GroupRefuse.{warps_limit, sizes_ok_of}
use Rattle.group.specs.GroupCalls.{GroupOutcome, group_outcome, group_step_of}
use Rattle.group.proofs.GroupLaws.{by_test}
use Rattle.group.proofs.GroupFacts.{group_sizes, count_fixeds}
use Rattle.group.proofs.GroupCases.{group_step_size}
use Rattle.group_machine.specs.Held.{held, held_step_of, Kept}
use Rattle.group_machine.specs.declared.Group.{Group}
use Rattle.group_row.specs.Row.{room_of, held_of, overlaid}

-- ---- room

pub room_few : (n : ℕ) → n ≤ warps_limit → room_of n ≡ n
room_few n h = rw (le-ltb warps_limit n h)

pub room_many : (n : ℕ) → warps_limit < n → room_of n ≡ warps_limit
room_many n h = rw (lt-ltb warps_limit n h)

-- ---- a step

abbrev pub no_warps : List Warp
no_warps = replicate warps_limit zero_warp

pub no_warps_lem : length no_warps ≡ warps_limit
no_warps_lem = length-replicate {A = Warp} warps_limit zero_warp

-- the group that the run ys is copied into
abbrev pub gathered : List Warp → ℕ → Group
gathered ys t = held_of (overlaid (room_of (length ys)) ys no_warps) (length ys) t

-- a group has no more than 32 warps
too_many : (k : List ℕ) (t : ℕ) (ys : List Warp) (v : List ℕ) (c : Contents) → warps_limit < length ys → sizes_ok_of k (fixeds_of (group t ys v c)) v c ≡ false
too_many k t ys v c h =
    by_test (sizes_ok_of k (fixeds_of (group t ys v c)) v c)
    (λ e. absurd (let m = (group_sizes k (fixeds_of (group t ys v c)) v c e).most in let n = count_fixeds (group t ys v c) in omega (arith, m, n, h))) (λ e. e)

module _ (k : List ℕ) (t : ℕ) (ys : List Warp) (v : List ℕ) (c : Contents) (u : Group) (kept : Kept (gathered ys t) u) (full : length (gathered ys t).warps ≡ warps_limit)
    (code stopped : ℕ) (v' : List ℕ) (c' : Contents) (e : group_outcome code stopped (held u v' c') ≡ held_step_of k (gathered ys t) v c) (zs : List Warp) (back : zs ≡ overlaid (room_of (length ys)) u.warps ys) where
  few : length ys ≤ warps_limit → group_outcome code stopped (group u.turn zs v' c') ≡ group_step_of k (group t ys v c)
  unfolding held_step_of
  few h =
      let r : room_of (length ys) ≡ length ys = room_few (length ys) h in
      let z : zs ≡ take u.count u.warps = back ∙ ap (λ (m : ℕ). overlaid m u.warps ys) r ∙ ap (λ (l : List Warp). take (length ys) u.warps ++ l) (drop_of_length-le ys {i = length ys} (omega arith)) ∙ append-nil (take (length ys) u.warps) ∙ ap (λ (m : ℕ). take m u.warps) (sym kept.count) in
      let w : take (length ys) (gathered ys t).warps ≡ ys = ap (λ (m : ℕ). take (length ys) (overlaid m ys no_warps)) r ∙ take_at (take (length ys) ys) (drop (length ys) no_warps) (length ys) (length-take-le (length ys) ys (omega arith)) ∙ take_all (length ys) ys (omega arith) in
      ap (λ (l : List Warp). group_outcome code stopped (group u.turn l v' c')) z
      ∙ e
      ∙ rw (le-leb _ _ h) (ap (λ (l : List Warp). group_step_of k (group t l v c)) w)

  many : warps_limit < length ys → group_outcome code stopped (group u.turn zs v' c') ≡ group_step_of k (group t ys v c)
  unfolding held_step_of
  many h =
      let r : room_of (length ys) ≡ warps_limit = room_many (length ys) h in
      let o : group_outcome code stopped (held u v' c') ≡ group_outcome 1 0 (held (gathered ys t) v c) = rw (lt-leb _ _ h) at e in
      let lu : length u.warps ≡ warps_limit = kept.room ∙ full in
      let w : u.warps ≡ (gathered ys t).warps =
      sym (take_all (length ys) u.warps (omega arith)) ∙ ap (λ (m : ℕ). take m u.warps) (sym kept.count) ∙ ap (λ (x : GroupOutcome). x.left.warps) o ∙ take_all (length ys) (gathered ys t).warps (omega arith) in
      let x : (gathered ys t).warps ≡ take warps_limit ys =
      ap (λ (m : ℕ). overlaid m ys no_warps) r ∙ ap (λ (l : List Warp). take warps_limit ys ++ l) (drop_of_length-le no_warps {i = warps_limit} (omega (arith, no_warps_lem))) ∙ append-nil (take warps_limit ys) in
      let z : zs ≡ ys =
      back ∙ ap (λ (m : ℕ). overlaid m u.warps ys) r ∙ ap (λ (l : List Warp). take warps_limit l ++ drop warps_limit ys) (w ∙ x) ∙ ap (λ (l : List Warp). l ++ drop warps_limit ys) (take-take warps_limit warps_limit ys (omega arith)) ∙ take-append-drop warps_limit ys in
      ap (λ (y : GroupOutcome). group_outcome y.code y.stopped (group y.left.turn zs y.left.vector y.left.bytes)) o
      ∙ ap (λ (l : List Warp). group_outcome 1 0 (group t l v c)) z
      ∙ sym (group_step_size k (group t ys v c) (too_many k t ys v c h))

  pub row_steps : (turn : ℕ) → turn ≡ u.turn → group_outcome code stopped (group turn zs v' c') ≡ group_step_of k (group t ys v c)
  row_steps turn q =
      ap (λ (m : ℕ). group_outcome code stopped (group m zs v' c')) q
      ∙ by_test (ltb warps_limit (length ys)) (λ b. many (ltb-true warps_limit (length ys) b)) (λ b. few (ltb-false warps_limit (length ys) b))
