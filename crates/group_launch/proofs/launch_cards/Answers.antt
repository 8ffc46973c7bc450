use Prim.Native.Nat.{ℕ}
use mathlib.Core.Path.{◌≡◌, sym, ap, ◌∙◌}
use mathlib.Core.List.{List}
use native.Mathlib.Omega.{arith}
use Rattle.answer.specs.Answer.{number_of}
use Rattle.answer.proofs.Numbers.{done_zero, refused_some}
use Rattle.memory.specs.Memories.{contents}
use Rattle.group_launch.specs.GroupLaunchCall.{group_launch_called, group_launch_number}
use Rattle.group_launch.proofs.Laws.{call_refused, taken, taken_state, call_done}
use Rattle.group_launch.proofs.launch_cards.Goals as goal

pub returns-then-is_err : goal.returns-then-is_err
returns-then-is_err c =
    let a = c.args in
    let r = c.launch_ok-tested.result in
    ap (λ (u : List ℕ). group_launch_called (number_of r) u a.vector.now) c.blank.ensures
    ∙ call_refused a.cards.now a.kernel.now a.vector.now (contents a.bytes.now a.local.now) a.state.now (number_of r) c.launch_ok-tested.ensures (refused_some r (sym c.is_err.ensures.value ∙ c.if-is_err.true))

pub put_warps-requires : goal.put_warps-requires
put_warps-requires c =
    let a = c.args in
    -- no test refused
    let none : 0 ≡ group_launch_number a.cards.now a.kernel.now a.vector.now (contents a.bytes.now a.local.now) a.state.now = sym (done_zero c.launch_ok-tested.result (sym c.is_err.ensures.value ∙ c.if-is_err.false)) ∙ c.launch_ok-tested.ensures in (
      (taken a.cards.now a.kernel.now a.vector.now (contents a.bytes.now a.local.now) a.state.now none).most,
      omega arith,
      taken_state a.cards.now a.kernel.now a.vector.now (contents a.bytes.now a.local.now) a.state.now none,
    )

pub returns : goal.returns
returns c =
    let a = c.args in
    let none : 0 ≡ group_launch_number a.cards.now a.kernel.now a.vector.now (contents a.bytes.now a.local.now) a.state.now = sym (done_zero c.launch_ok-tested.result (sym c.is_err.ensures.value ∙ c.if-is_err.false)) ∙ c.launch_ok-tested.ensures in
    call_done a.cards.now a.kernel.now a.vector.now (contents a.bytes.now a.local.now) a.state.now none _ _ c.put_warps.ensures (c.fill.ensures.after (λ y e. e))
