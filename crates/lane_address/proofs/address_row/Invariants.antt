use Rattle.lanes.specs.Rows.{RowOf}
use Rattle.memory.specs.Address.{lane_address}
use Rattle.lane_address.proofs.address_row.Given as goal

abbrev pub invariant-loop-l : goal.invariant-loop-l
invariant-loop-l l = RowOf l.l (lane_address l.space l.p l.v l.r l.off) l.o
