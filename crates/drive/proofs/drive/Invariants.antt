use mathlib.Core.Path.{◌≡◌}
use Rattle.memory.specs.Memories.{contents}
use Rattle.handlers.specs.Handles.{lists}
use Rattle.drive.proofs.Runs.{Going}
use Rattle.drive.proofs.drive.Given as goal

abbrev pub invariant-loop-steps : goal.invariant-loop-steps
invariant-loop-steps l =
    let a = l.initial.w in
    let b = l.w in
    (b.fixed ≡ a.fixed)
    × Going l.kernel l.n (lists a.fixed a.moving a.scalars a.splits l.initial.vector (contents l.initial.bytes l.initial.local)) (lists b.fixed l.moving b.scalars b.splits l.vector (contents l.bytes l.local)) l.steps
