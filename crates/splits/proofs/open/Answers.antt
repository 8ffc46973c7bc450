use Rattle.splits.proofs.SplitGoes.{open_goes}
use Rattle.splits.proofs.open.Goals as goal

pub returns : goal.returns
returns c = λ g x.
    open_goes g c.args.h.now x c.args.s.now c.requires.0 c.requires.1 _ _ c.args.e c.args.p _ c.requires.2
    c.resume.ensures c.add-after.ensures c.put_split.ensures
