use mathlib.Core.Bool.{true, false}
use Rattle.lane_clash.proofs.Laws.{spread_apart}
use Rattle.lane_clash.proofs.apart.Goals as goal

pub returns-then-o : goal.returns-then-o
returns-then-o c t = spread_apart c.args.w c.requires.0 true c.args.n c.args.o.now c.requires.1 (c.spread.ensures t)

pub returns : goal.returns
returns c t = spread_apart c.args.w c.requires.0 false c.args.n c.args.o.now c.requires.1 (c.spread-2.ensures t)
