use mathlib.Core.Path.{◌≡◌, refl, sym, ◌∙◌}
use mathlib.Core.Bool.{true}
use Rattle.lanes.specs.Mask.{bit}
use Rattle.lanes.specs.Rows.{at}
use Rattle.memory.specs.Memory.{width_of}
use Rattle.memory.specs.Memories.{contents, memories, inside_one}
use Rattle.memory.specs.LaneAccess.{all_inside}
use Rattle.memory.proofs.Access.{all_data, all_inside_at, inside_last}
use Rattle.lane_memory.proofs.stored.Goals as goal
use Rattle.lane_memory.proofs.stored.Goals.{then-not-here+else-not-all_inside_one, else-not-here}

pub all_agree-requires : goal.all_agree-requires
all_agree-requires c =
    let g = c.args in
    let both = memories g.base g.near (contents g.d.now g.local.now) in
    let inside : true ≡ all_inside g.n (bit g.mask) (inside_one both (width_of g.k)) (at g.o.now) =
    elim c.if-not-here.branch [
      | then-not-here+else-not-all_inside_one w ↦ sym w.if-not-all_inside_one.false ∙ rw (← w.width-then-not-here.ensures.0) w.all_inside_one.ensures
      | else-not-here w ↦ all_data g.n (bit g.mask) both (width_of g.k) (at g.o.now) (sym w.if-not-here.false ∙ rw (← c.width.ensures.0) c.all_inside-here.ensures)
    ] in
    (c.requires.0, c.requires.1, λ l h t. inside_last both c.requires.2 (width_of g.k) (at g.o.now l) (all_inside_at g.n (bit g.mask) (inside_one both (width_of g.k)) (at g.o.now) inside l h t))

pub returns-then-not-all_agree : goal.returns-then-not-all_agree
returns-then-not-all_agree c =
    let g = c.args in
    let both = memories g.base g.near (contents g.d.now g.local.now) in
    let inside : true ≡ all_inside g.n (bit g.mask) (inside_one both (width_of g.k)) (at g.o.now) =
    elim c.if-not-here.branch [
      | then-not-here+else-not-all_inside_one w ↦ sym w.if-not-all_inside_one.false ∙ rw (← w.width-then-not-here.ensures.0) w.all_inside_one.ensures
      | else-not-here w ↦ all_data g.n (bit g.mask) both (width_of g.k) (at g.o.now) (sym w.if-not-here.false ∙ rw (← c.width.ensures.0) c.all_inside-here.ensures)
    ] in
    let e = sym c.all_agree.ensures ∙ c.if-not-all_agree.true in
    record { code = rw (← inside, e); bytes = refl }

pub returns-then-here : goal.returns-then-here
returns-then-here c =
    let g = c.args in
    let both = memories g.base g.near (contents g.d.now g.local.now) in
    let inside : true ≡ all_inside g.n (bit g.mask) (inside_one both (width_of g.k)) (at g.o.now) =
    elim c.if-not-here.branch [
      | then-not-here+else-not-all_inside_one w ↦ sym w.if-not-all_inside_one.false ∙ rw (← w.width-then-not-here.ensures.0) w.all_inside_one.ensures
      | else-not-here w ↦ all_data g.n (bit g.mask) both (width_of g.k) (at g.o.now) (sym w.if-not-here.false ∙ rw (← c.width.ensures.0) c.all_inside-here.ensures)
    ] in
    record { code = rw (← inside, sym c.all_agree.ensures ∙ c.if-not-all_agree.false); bytes = c.store_op.ensures g.near g.local.now }
