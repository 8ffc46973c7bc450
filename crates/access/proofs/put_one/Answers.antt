use mathlib.Core.Path.{◌≡◌, sym, ap, ◌∙◌}
use mathlib.Core.List.{List}
use Prim.Native.Nat.{ℕ}
use Rattle.memory.specs.Memory.{width_of, inside_of}
use Rattle.memory.specs.Memories.{Data, contents, memories, memory_at}
use Rattle.memory.proofs.Laws.{store_data, store_local}
use Rattle.access.proofs.put_one.Goals as goal

pub returns-then-inside : goal.returns-then-inside
returns-then-inside c =
    let s = c.args in
    let both = memories s.base s.near (contents s.d.now s.l.now) in
    let own : inside_of (memory_at Data both) (width_of s.k) s.a ≡ c.inside.result = rw (← c.width.ensures.0) (sym c.inside.ensures) in
    ap (λ (d : List ℕ). contents d s.l.now) c.put_at.ensures ∙ sym (store_data both s.a s.k s.x (own ∙ c.if-inside.true))

pub returns : goal.returns
returns c =
    let s = c.args in
    let both = memories s.base s.near (contents s.d.now s.l.now) in
    let own : inside_of (memory_at Data both) (width_of s.k) s.a ≡ c.inside.result = rw (← c.width.ensures.0) (sym c.inside.ensures) in
    ap (contents s.d.now) c.put_at-2.ensures ∙ sym (store_local both s.a s.k s.x (own ∙ c.if-inside.false))
