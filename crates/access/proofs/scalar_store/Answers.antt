use mathlib.Core.Path.{◌≡◌, sym, ap, ◌∙◌}
use mathlib.Core.List.{List}
use Prim.Native.Nat.{ℕ}
use Rattle.memory.specs.Memory.{width_of, inside_of}
use Rattle.memory.specs.Memories.{Data, Local, contents, memories, memory_at}
use Rattle.memory.proofs.Access.{in_data, in_local}
use Rattle.memory.proofs.Laws.{store_data, store_local}
use Rattle.access.proofs.scalar_store.Goals as goal

pub returns-then-inside : goal.returns-then-inside
returns-then-inside c =
    let s = c.args in
    let both = memories s.base s.near (contents s.d.now s.l.now) in
    let own : inside_of (memory_at Data both) (width_of s.k) s.a ≡ c.inside.result = rw (← c.width.ensures.0) (sym c.inside.ensures) in
    let e = own ∙ c.if-inside.true in (
      sym (in_data both (width_of s.k) s.a e),
      ap (λ (d : List ℕ). contents d s.l.now) c.put_at.ensures ∙ sym (store_data both s.a s.k s.x e),
    )

pub returns-then-inside-2 : goal.returns-then-inside-2
returns-then-inside-2 c =
    let s = c.args in
    let both = memories s.base s.near (contents s.d.now s.l.now) in
    let own : inside_of (memory_at Data both) (width_of s.k) s.a ≡ c.inside.result = rw (← c.width.ensures.0) (sym c.inside.ensures) in
    let near : inside_of (memory_at Local both) (width_of s.k) s.a ≡ c.inside-2.result = rw (← c.width-2.ensures.0) (sym c.inside-2.ensures) in
    let e = (own ∙ c.if-inside.false) in (
      sym (in_local both (width_of s.k) s.a e (near ∙ c.if-inside-2.true)),
      ap (contents s.d.now) c.put_at-then-inside-2.ensures ∙ sym (store_local both s.a s.k s.x e),
    )
