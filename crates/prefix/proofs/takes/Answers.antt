use Rattle.isa.specs.Prefix.{prefix}
use Rattle.prefix.proofs.Judged.{known, judged}
use Rattle.prefix.proofs.takes.Goals as goal

pub returns : goal.returns
returns c =
    let k = c.args.kind in
    let n = c.args.bits in
    judged k n c.args.word _ c.requires
    (c.judge.ensures (prefix k n) (known k n c.scalar.ensures c.scalar-2.ensures c.scalar-3.ensures))
