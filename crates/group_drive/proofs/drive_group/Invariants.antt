use Rattle.memory.specs.Memories.{contents}
use Rattle.group_drive.proofs.Driving.{Going}
use Rattle.group_drive.proofs.drive_group.Given as goal

abbrev pub invariant-loop-t : goal.invariant-loop-t
invariant-loop-t l = Going l.kernel l.turn l.budget l.initial.ws l.initial.vector (contents l.initial.bytes l.initial.local) l.ws l.vector (contents l.bytes l.local) l.at l.t
