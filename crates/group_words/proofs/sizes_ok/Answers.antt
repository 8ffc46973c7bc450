use Prim.Native.Nat.{ℕ, ◌+◌, ◌-◌, ◌*◌}
use mathlib.Core.Path.{◌≡◌, sym, ◌∙◌}
use native.Mathlib.Omega.{arith}
use lib.ListN.{length}
use Rattle.memory.specs.Memories.{contents}
use Rattle.lanes.proofs.Laws.{below_at, below_none, below_more}
use Rattle.group_words.proofs.Testing.{own_ok, sizes_long, sizes_own, sizes_all}
use Rattle.group_words.proofs.sizes_ok.Goals as goal

-- the part that is lent has a file's words
sized : (i : ℕ) → i * 8192 + 8192 - i * 8192 ≡ 8192
sized i = omega arith

pub returns-then-vector-ws : goal.returns-then-vector-ws
returns-then-vector-ws c = let a = c.args in sizes_long a.ws.now a.kernel.now a.vector.now (contents a.bytes.now a.local.now) c.if-vector-ws.true

pub loop-i-init : goal.loop-i-init
loop-i-init c = below_none _

pub returns-then-not-runs_ok : goal.returns-then-not-runs_ok
returns-then-not-runs_ok c =
    let a = c.args in
    let own : c.runs_ok.result ≡ own_ok a.ws.now a.kernel.now a.vector.now (contents a.bytes.now a.local.now) c.loop-i.i = rw (c.fixed_in-f.ensures, sized c.loop-i.i) at c.runs_ok.ensures in
    sizes_own a.ws.now a.kernel.now a.vector.now (contents a.bytes.now a.local.now) c.loop-i.i c.loop-i-test.true (sym own ∙ c.if-not-runs_ok.true)

pub loop-i-preserved : goal.loop-i-preserved
loop-i-preserved c =
    let a = c.args in
    let own : c.runs_ok.result ≡ own_ok a.ws.now a.kernel.now a.vector.now (contents a.bytes.now a.local.now) c.loop-i.i = rw (c.fixed_in-f.ensures, sized c.loop-i.i) at c.runs_ok.ensures in
    below_more (own_ok a.ws.now a.kernel.now a.vector.now (contents a.bytes.now a.local.now)) c.loop-i.i c.loop-i.invariant (sym own ∙ c.if-not-runs_ok.false)

pub returns : goal.returns
returns c =
    let a = c.args in
    let e : c.loop-i.i ≡ length a.ws.now = omega arith in
    sizes_all a.ws.now a.kernel.now a.vector.now (contents a.bytes.now a.local.now) c.requires.0 c.requires.1 c.if-vector-ws.false
    (below_at _ (own_ok a.ws.now a.kernel.now a.vector.now (contents a.bytes.now a.local.now)) (rw e at c.loop-i.invariant))
