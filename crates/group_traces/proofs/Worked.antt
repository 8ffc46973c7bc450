-- The worked groups, which antt computes.
use mathlib.Core.Path.{refl}
use Rattle.group.proofs.GroupComputes.{group_computes}
use Rattle.group_traces.specs.Worked.{Worked}

pub worked : Worked
unfolding group_computes
worked =
    record {
      waits = refl;
      meets = refl;
      ends = refl;
      leaves = refl;
      stops = refl;
      clashes = refl;
      alone = refl;
      turns = refl;
      over3 = refl;
      over0 = refl;
      wild = refl;
      touch = refl;
      overlap = refl;
      across = refl;
      behind = refl;
    }
