use mathlib.Core.Path.{◌≡◌, sym, ap, ◌∙◌}
use mathlib.Core.Bool.{true}
use mathlib.Core.List.{List, []}
use Prim.Native.Nat.{ℕ, ◌<◌}
use native.Mathlib.Omega.{arith}
use lib.ListN.{length}
use Rattle.lanes.specs.declared.Lane.{Lane}
use Rattle.lanes.specs.Mask.{lane, bit}
use Rattle.lanes.proofs.Laws.{each_none, each_on, each_off}
use Rattle.lanes.specs.Rows.{at}
use Rattle.isa.specs.declared.StoreOp.{StoreOp}
use Rattle.memory.specs.Memory.{memory, width_of, inside_of}
use Rattle.memory.specs.Memories.{Data, Contents, contents, memories, store_to}
use Rattle.memory.specs.LaneAccess.{all_inside, store_lanes}
use Rattle.memory.proofs.Access.{inside_length, all_inside_at}
use Rattle.memory.proofs.Laws.{store_data, lanes_same}
use Rattle.lane_memory.proofs.store.Goals as goal
use Rattle.lane_memory.proofs.store.Goals.{then-active, else-active}

-- t is the data memory after the stores of l lanes, whatever the local memory is
module _ (l mask : ℕ) (k : StoreOp) (o x : List ℕ) (base : ℕ) (d t : List ℕ)
    (stored : (near : ℕ) (e : List ℕ) → contents t e ≡ store_lanes l (bit mask) k (at o) (at x) (memories base near (contents d e))) where
  same_long : length t ≡ length d
  same_long = ap (λ (k : Contents). length k.data_bytes) (stored 0 []) ∙ lanes_same l (bit mask) k (at o) (at x) (memories base 0 (contents d [])) Data

  -- an active lane's access lies in the data memory as it stands at the lane's turn
  inside_now : (n : ℕ) → true ≡ all_inside n (bit mask) (inside_of (memory base d) (width_of k)) (at o) → l < n → bit mask (lane l) ≡ true
      → inside_of (memory base t) (width_of k) (at o (lane l)) ≡ true
  inside_now n all h on =
      inside_length base t d (width_of k) (at o (lane l)) same_long
      ∙ all_inside_at n (bit mask) (inside_of (memory base d) (width_of k)) (at o) all (lane l) h on

pub loop-l-init : goal.loop-l-init
loop-l-init c = λ near e. each_none _ _ _

pub put_at-requires : goal.put_at-requires
put_at-requires c =
    let g = c.args in
    inside_now c.loop-l.l g.mask g.k g.o.now g.x.now g.base g.d.now c.loop-l.d c.loop-l.invariant g.n c.requires.1 (omega arith) (sym c.active.ensures ∙ c.if-active.true)

pub loop-l-preserved : goal.loop-l-preserved
loop-l-preserved c =
    let g = c.args in
    let on = bit g.mask in
    let l = lane c.loop-l.l in
    let below : c.loop-l.l < g.n = omega arith in
    λ near e.
    let step : Lane → Contents → Contents = λ l u. store_to g.k (at g.o.now l) (at g.x.now l) (memories g.base near u) in
    elim c.if-active.branch [
      | then-active w ↦
          let active = sym c.active.ensures ∙ w.if-active.true in
          each_on on step (contents g.d.now e) c.loop-l.l (contents c.loop-l.d e) (contents c.if-active.d e) active
          (ap (λ (d : List ℕ). contents d e) (w.d-is ∙ w.put_at.ensures)
          ∙ sym (store_data (memories g.base near (contents c.loop-l.d e)) (at g.o.now l) g.k (at g.x.now l)
          (inside_now c.loop-l.l g.mask g.k g.o.now g.x.now g.base g.d.now c.loop-l.d c.loop-l.invariant g.n c.requires.1 below active)))
          (c.loop-l.invariant near e)
      | else-active w ↦
          each_off on step (contents g.d.now e) c.loop-l.l (contents c.if-active.d e) (sym c.active.ensures ∙ w.if-active.false) (ap (λ (d : List ℕ). contents d e) w.d-is ∙ c.loop-l.invariant near e)
    ]
