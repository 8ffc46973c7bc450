use Rattle.running.proofs.Goes.{setrpc_goes}
use Rattle.running.proofs.setrpc.Goals as goal

pub returns : goal.returns
returns c = λ g s n.
    setrpc_goes g c.args.h.now c.args.x.now s c.requires.0 n _ _ c.args.rd c.args.rs1 c.args.i _ _ _
    c.get_x.ensures c.extend.ensures c.add-y.ensures c.put_x.ensures c.next.ensures
