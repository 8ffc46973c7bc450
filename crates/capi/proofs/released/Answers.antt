use mathlib.Core.Path.{◌≡◌, refl}
use borrow.Author.Rules.{rules}
use Rattle.answer.specs.Answer.{refusal_of, number_of}
use Rattle.answer.proofs.Numbers.{some_number}
use Rattle.capi.proofs.Laws.{release_refused, release_saved, release_stays}
use Rattle.capi.proofs.released.Goals as goal

pub returns-in_err-w : goal.returns-in_err-w
returns-in_err-w c =
    let e : number_of c.from_residual.result ≡ refusal_of c.in_err-w.field-0.0 = search rules in
    rw e (release_refused _ _ _ c.in_err-w.ensures (some_number _))

pub returns-in_err-freed : goal.returns-in_err-freed
returns-in_err-freed c =
    let e : number_of c.from_residual-in_err-freed.result ≡ refusal_of c.in_err-freed.field-0.0 = search rules in
    rw e (release_stays _ _ _ c.in_ok-w.ensures refl _ c.in_err-freed.ensures)

pub returns : goal.returns
returns c = release_saved _ _ _ c.in_ok-w.ensures refl _ _ _ c.in_ok-freed.ensures c.save.ensures
