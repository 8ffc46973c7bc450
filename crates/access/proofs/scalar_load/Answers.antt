use mathlib.Core.Path.{◌≡◌, sym, ap, ◌∙◌}
use Rattle.std.specs.Prelude.{Some}
use Rattle.memory.specs.Memory.{size_of, inside_of}
use Rattle.memory.specs.Memories.{Data, Local, contents, memories, memory_at}
use Rattle.memory.proofs.Access.{in_data, in_local}
use Rattle.memory.proofs.Laws.{load_data, load_local}
use Rattle.access.proofs.scalar_load.Goals as goal

pub returns-then-inside : goal.returns-then-inside
returns-then-inside c =
    let s = c.args in
    let both = memories s.base s.near (contents s.d.now s.l.now) in
    let own : inside_of (memory_at Data both) (size_of s.k) s.a ≡ c.inside.result = rw (← c.size.ensures.0) (sym c.inside.ensures) in
    let e = own ∙ c.if-inside.true in
    rw (in_data both (size_of s.k) s.a e, load_data both s.a s.k e) (ap Some c.load_at.ensures)

pub returns-then-inside-2 : goal.returns-then-inside-2
returns-then-inside-2 c =
    let s = c.args in
    let both = memories s.base s.near (contents s.d.now s.l.now) in
    let own : inside_of (memory_at Data both) (size_of s.k) s.a ≡ c.inside.result = rw (← c.size.ensures.0) (sym c.inside.ensures) in
    let near : inside_of (memory_at Local both) (size_of s.k) s.a ≡ c.inside-2.result = rw (← c.size-2.ensures.0) (sym c.inside-2.ensures) in
    let e = (own ∙ c.if-inside.false) in
    rw (in_local both (size_of s.k) s.a e (near ∙ c.if-inside-2.true), load_local both s.a s.k e) (ap Some c.load_at-then-inside-2.ensures)
