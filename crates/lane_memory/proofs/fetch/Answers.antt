use mathlib.Core.Path.{◌≡◌}
use mathlib.Core.Bool.{true}
use Prim.Native.Nat.{ℕ, ◌<◌}
use Rattle.std.proofs.Common.{rules}
use Rattle.lanes.specs.Mask.{lane, bit}
use Rattle.lanes.specs.Rows.{at}
use Rattle.memory.specs.Memory.{memory, size_of, inside_of, load_of}
use Rattle.memory.proofs.Access.{all_inside_at}
use Rattle.lane_memory.proofs.fetch.Goals as goal

pub gather-requires : goal.gather-requires
gather-requires c =
    let g = c.args in
    let inside = λ (l : ℕ) (h : l < g.n) (t : bit g.mask (lane l) ≡ true). all_inside_at g.n (bit g.mask) (inside_of (memory g.base g.d.now) (size_of g.k)) (at g.o.now) c.requires.1 (lane l) h t in
    (c.requires.0, λ l h t. let i = inside l h t in search rules)

pub returns : goal.returns
returns c =
    let g = c.args in
    c.gather.ensures (λ l. load_of g.k (memory g.base g.d.now) (at g.o.now l)) (λ l x h e. search rules)
