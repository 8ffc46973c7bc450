use mathlib.Core.Path.{◌≡◌, sym, ◌∙◌}
use Rattle.memory.specs.Memory.{size_of, inside_of}
use Rattle.memory.specs.Memories.{Data, contents, memories, memory_at}
use Rattle.memory.proofs.Laws.{load_data, load_local}
use Rattle.access.proofs.load_one.Goals as goal

pub returns-then-inside : goal.returns-then-inside
returns-then-inside c =
    let s = c.args in
    let both = memories s.base s.near (contents s.d.now s.l.now) in
    let own : inside_of (memory_at Data both) (size_of s.k) s.a ≡ c.inside.result = rw (← c.size.ensures.0) (sym c.inside.ensures) in
    c.load_at.ensures ∙ sym (load_data both s.a s.k (own ∙ c.if-inside.true))

pub returns : goal.returns
returns c =
    let s = c.args in
    let both = memories s.base s.near (contents s.d.now s.l.now) in
    let own : inside_of (memory_at Data both) (size_of s.k) s.a ≡ c.inside.result = rw (← c.size.ensures.0) (sym c.inside.ensures) in
    c.load_at-2.ensures ∙ sym (load_local both s.a s.k (own ∙ c.if-inside.false))
