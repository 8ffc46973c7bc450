use mathlib.Core.Path.{◌≡◌, sym, ap, ap₂, ◌∙◌}
use mathlib.Core.Bool.{◌||◌}
use mathlib.Core.List.{List}
use Prim.Native.Nat.{ℕ}
use native.Mathlib.Omega.{arith}
use lib.ListN.{length}
use Rattle.lanes.specs.declared.Lane.{Lane}
use Rattle.lanes.specs.Mask.{lane, bit}
use Rattle.lanes.proofs.Laws.{each_none, each_on, each_off}
use Rattle.lanes.specs.Rows.{at}
use Rattle.isa.specs.declared.StoreOp.{StoreOp}
use Rattle.memory.specs.Memory.{width_of}
use Rattle.memory.specs.Memories.{Region, Data, Local, Contents, contents, bytes_at, memories, MemoriesOk, inside_one, store_to}
use Rattle.memory.specs.LaneAccess.{store_lanes}
use Rattle.memory.proofs.Access.{inside_same, all_inside_at}
use Rattle.memory.proofs.Laws.{lanes_same}
use Rattle.lane_memory.proofs.store_both.Goals as goal
use Rattle.lane_memory.proofs.store_both.Goals.{then-active, else-active}

-- now are the bytes after the stores of l lanes into those at first
module _ (l mask : ℕ) (k : StoreOp) (o x : List ℕ) (base near : ℕ) (first now : Contents)
    (stored : now ≡ store_lanes l (bit mask) k (at o) (at x) (memories base near first)) where
  same_long : (r : Region) → length (bytes_at r now) ≡ length (bytes_at r first)
  same_long r = ap (λ (k : Contents). length (bytes_at r k)) stored ∙ lanes_same l (bit mask) k (at o) (at x) (memories base near first) r

  fits : MemoriesOk (memories base near first) → MemoriesOk (memories base near now)
  fits p = ((rw (same_long Data) p.0.0, rw (same_long Data) p.0.1), (rw (same_long Local) p.1.0, rw (same_long Local) p.1.1))

  same_inside : (w a : ℕ) → inside_one (memories base near now) w a ≡ inside_one (memories base near first) w a
  same_inside w a =
      let same = inside_same base near now first w a same_long in
      ap₂ ◌||◌ (same Data) (same Local)

pub loop-l-init : goal.loop-l-init
loop-l-init c = each_none _ _ _

pub put_one-requires : goal.put_one-requires
put_one-requires c =
    let g = c.args in
    let a = at g.o.now (lane c.loop-l.l) in
    let w = width_of g.k in
    let first = contents g.d.now g.local.now in
    let now = contents c.loop-l.d c.loop-l.local in (
      fits c.loop-l.l g.mask g.k g.o.now g.x.now g.base g.near first now c.loop-l.invariant c.requires.1,
      same_inside c.loop-l.l g.mask g.k g.o.now g.x.now g.base g.near first now c.loop-l.invariant w a
          ∙ all_inside_at g.n (bit g.mask) (inside_one (memories g.base g.near first) w) (at g.o.now) c.requires.2 (lane c.loop-l.l) (omega arith) (sym c.active.ensures ∙ c.if-active.true),
    )

pub loop-l-preserved : goal.loop-l-preserved
loop-l-preserved c =
    let g = c.args in
    let on = bit g.mask in
    let first = contents g.d.now g.local.now in
    let now = contents c.loop-l.d c.loop-l.local in
    let step : Lane → Contents → Contents = λ l u. store_to g.k (at g.o.now l) (at g.x.now l) (memories g.base g.near u) in
    elim c.if-active.branch [
      | then-active w ↦ each_on on step first c.loop-l.l now (contents c.if-active.d c.if-active.local) (sym c.active.ensures ∙ w.if-active.true)
          (ap₂ contents w.d-is w.local-is ∙ w.put_one.ensures) c.loop-l.invariant
      | else-active w ↦ each_off on step first c.loop-l.l (contents c.if-active.d c.if-active.local) (sym c.active.ensures ∙ w.if-active.false) (ap₂ contents w.d-is w.local-is ∙ c.loop-l.invariant)
    ]
