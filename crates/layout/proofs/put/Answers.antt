use mathlib.Core.Path.{refl}
use borrow.Author.Rules.{rules}
use Rattle.layout.proofs.Copies.{four_put}
use Rattle.layout.proofs.put.Goals as goal

pub returns : goal.returns
returns c =
    let a = c.args in
    rw (c.copy-4.ensures, c.copy-3.ensures, c.copy-2.ensures, c.copy.ensures)
    (four_put a.x.now a.s.now a.h.now a.g.now a.state.now _ c.scalars-n.result (search rules) (search rules) (search rules) (search rules) c.requires c.scalars-n.ensures refl)
