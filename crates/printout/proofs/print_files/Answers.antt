use mathlib.Core.Path.{◌≡◌, refl, sym, ◌∙◌}
use mathlib.Core.Bool.{true}
use native.Mathlib.Omega.{arith}
use Rattle.printout.specs.Printout.{report_of, buffers_ok_of}
use Rattle.printout.proofs.Cases.{print_short, print_done, buffer_room, counted}
use Rattle.printout.proofs.print_files.Goals as goal

pub returns-then-not-buffers_ok : goal.returns-then-not-buffers_ok
returns-then-not-buffers_ok c = ((omega arith, refl), print_short _ _ _ _ _ (sym c.buffers_ok.ensures ∙ c.if-not-buffers_ok.true))

pub print_card-requires : goal.print_card-requires
print_card-requires c =
    let enough : (let a = c.args in buffers_ok_of a.vector.now a.out.now) ≡ true = sym c.buffers_ok.ensures ∙ c.if-not-buffers_ok.false in
    buffer_room _ _ enough

pub returns : goal.returns
returns c =
    let enough : (let a = c.args in buffers_ok_of a.vector.now a.out.now) ≡ true = sym c.buffers_ok.ensures ∙ c.if-not-buffers_ok.false in
    let put = c.print_card.ensures in
    let a = c.args in
    (counted a.out.now _ _ _ _ (report_of a.card.now a.kernel.now a.vector.now a.bytes.now) put.0 put.1 (buffer_room _ _ enough), put.0 ∙ print_done _ _ _ _ _ enough)
