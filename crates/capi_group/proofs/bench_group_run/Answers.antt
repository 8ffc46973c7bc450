use mathlib.Core.Path.{sym, ◌∙◌}
use Prim.Native.Nat.{◌<◌}
use native.Mathlib.Omega.{arith}
use Rattle.definition.specs.Calls.{budget_limit}
use Rattle.memory.specs.Memories.{contents}
use Rattle.capi_group.proofs.Told.{two_words, run_told, run_size, run_same}
use Rattle.capi_group.proofs.bench_group_run.Goals as goal

pub returns-then-out-ne2 : goal.returns-then-out-ne2
returns-then-out-ne2 c = let a = c.args in (omega arith, rw c.number.ensures (run_told a.state.now a.kernel.now a.vector.now (contents a.bytes.now a.local.now) a.out.now a.budget c.if-out-ne2.true))

pub returns-then-not-is_group : goal.returns-then-not-is_group
returns-then-not-is_group c =
    let a = c.args in (
      omega arith,
      rw (c.number-then-not-is_group.ensures, two_words a.out.now 0 0 c.if-out-ne2.false)
          (run_size a.state.now a.kernel.now a.vector.now (contents a.bytes.now a.local.now) a.out.now a.budget c.if-out-ne2.false (sym c.is_group.ensures ∙ c.if-not-is_group.true)),
    )

pub returns : goal.returns
returns c =
    let small : c.args.budget < budget_limit = omega arith in
    let a = c.args in (
      small,
      rw (c.number-2.ensures, two_words a.out.now c.run_state-end.result.steps c.run_state-end.result.stopped c.if-out-ne2.false)
          (c.run_state-end.ensures ∙ run_same a.state.now a.kernel.now a.vector.now (contents a.bytes.now a.local.now) a.out.now a.budget c.if-out-ne2.false),
    )
