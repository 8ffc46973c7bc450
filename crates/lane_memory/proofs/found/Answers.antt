use mathlib.Core.Path.{◌≡◌, sym, ◌∙◌}
use mathlib.Core.Bool.{true}
use Rattle.std.proofs.Common.{rules}
use Rattle.lanes.specs.Mask.{lane, bit}
use Rattle.lanes.specs.Rows.{at}
use Rattle.memory.specs.Memory.{size_of, inside_of}
use Rattle.memory.specs.Memories.{Data, contents, memories, memory_at, inside_one, load_from}
use Rattle.memory.specs.LaneAccess.{all_inside}
use Rattle.memory.proofs.Access.{all_inside_at, all_data}
use Rattle.memory.proofs.Laws.{load_data}
use Rattle.lane_memory.proofs.found.Goals as goal

pub returns-then-all_inside : goal.returns-then-all_inside
returns-then-all_inside c =
    let g = c.args in
    let both = memories g.base g.near (contents g.d.now g.local.now) in
    let all : true ≡ all_inside g.n (bit g.mask) (inside_of (memory_at Data both) (size_of g.k)) (at g.o.now) = sym c.if-all_inside.true ∙ rw (← c.size.ensures.0) c.all_inside.ensures in
    let row = c.fetch_op.ensures in (
      all_data g.n (bit g.mask) both (size_of g.k) (at g.o.now) all,
      λ e. (
        row.0,
        λ l h o. row.1 l h o
            ∙ sym (load_data both (at g.o.now l) g.k (all_inside_at g.n (bit g.mask) (inside_of (memory_at Data both) (size_of g.k)) (at g.o.now) all l h o)),
      ),
    )

pub gather-requires : goal.gather-requires
gather-requires c =
    let g = c.args in
    let one = inside_one (memories g.base g.near (contents g.d.now g.local.now)) (size_of g.k) in
    let all : true ≡ all_inside g.n (bit g.mask) one (at g.o.now) = sym c.if-all_inside_one.true ∙ rw (← c.size-2.ensures.0) c.all_inside_one.ensures in
    (c.requires.0, λ l h t. let i = all_inside_at g.n (bit g.mask) one (at g.o.now) all (lane l) h t in search rules)

pub returns-then-all_inside_one : goal.returns-then-all_inside_one
returns-then-all_inside_one c =
    let g = c.args in
    let both = memories g.base g.near (contents g.d.now g.local.now) in (
      sym c.if-all_inside_one.true ∙ rw (← c.size-2.ensures.0) c.all_inside_one.ensures,
      λ e. c.gather.ensures (λ l. load_from g.k both (at g.o.now l)) (λ l x h e. search rules),
    )
