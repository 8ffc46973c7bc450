use mathlib.Core.Path.{◌≡◌, ◌∙◌, refl, sym}
use borrow.Author.Rules.{rules}
use Rattle.answer.specs.Answer.{refusal_of, number_of}
use Rattle.answer.proofs.Numbers.{some_number, done_zero, refused_some}
use Rattle.memory.specs.Memories.{contents}
use Rattle.layout.specs.Words.{prefix_in}
use Rattle.exec.proofs.Laws.{started_code, started_prefix, started_none, step_refused, step_untaken, cleared_ready, own_is, step_carried, step_put_back}
use Rattle.exec.proofs.step.Goals as goal

pub fetch-requires : goal.fetch-requires
fetch-requires c = let a = c.args in started_code a.k.now a.ws.now.fixed a.m.now a.ws.now.scalars a.ws.now.splits a.v.now (contents a.d.now a.l.now) c.requires

pub returns-in_err-w : goal.returns-in_err-w
returns-in_err-w c =
    let a = c.args in
    let e : number_of c.from_residual.result ≡ refusal_of c.in_err-w.field-0.0 = search rules in
    (refl, rw e (step_refused a.k.now a.ws.now.fixed a.m.now a.ws.now.scalars a.ws.now.splits a.v.now (contents a.d.now a.l.now) c.requires _ _ (c.in_err-w.ensures a.ws.now.scalars a.ws.now.splits) (some_number _)))

pub widened-requires : goal.widened-requires
widened-requires c = let a = c.args in started_prefix a.k.now a.ws.now.fixed a.m.now a.ws.now.scalars a.ws.now.splits a.v.now (contents a.d.now a.l.now) c.requires

pub returns-in_err-wide : goal.returns-in_err-wide
returns-in_err-wide c =
    let a = c.args in let wide = c.in_err-wide.ensures in
    let e : number_of c.from_residual-in_err-wide.result ≡ refusal_of c.in_err-wide.field-0.0 = search rules in (
      refl,
      rw e
          (step_untaken a.k.now a.ws.now.fixed a.m.now a.ws.now.scalars a.ws.now.splits a.v.now (contents a.d.now a.l.now) c.requires _ _ (c.in_ok-w.ensures a.ws.now.scalars a.ws.now.splits) refl _ (wide.number (some_number _)) (wide.refused (some_number _))),
    )

pub use_up-requires : goal.use_up-requires
use_up-requires c = let a = c.args in (c.requires.lent.long, started_none a.k.now a.ws.now.fixed a.m.now a.ws.now.scalars a.ws.now.splits a.v.now (contents a.d.now a.l.now) c.requires)

pub exec-done-requires : goal.exec-done-requires
exec-done-requires c =
    let a = c.args in
    cleared_ready a.k.now a.ws.now.fixed a.m.now a.ws.now.scalars a.ws.now.splits a.v.now (contents a.d.now a.l.now) c.requires _ _ (c.in_ok-w.ensures a.ws.now.scalars a.ws.now.splits) refl _ (c.use_up.ensures a.ws.now.fixed a.ws.now.scalars a.ws.now.splits c.requires.lent.room)

pub returns-else-is_err : goal.returns-else-is_err
returns-else-is_err c =
    let a = c.args in let z : number_of c.exec-done.result ≡ 0 = done_zero _ (sym c.is_err.ensures.value ∙ c.if-is_err.false) in (
      refl,
      rw z
          (step_carried a.k.now a.ws.now.fixed a.m.now a.ws.now.scalars a.ws.now.splits a.v.now (contents a.d.now a.l.now) c.requires _ _ (c.in_ok-w.ensures a.ws.now.scalars a.ws.now.splits) refl _ (c.use_up.ensures a.ws.now.fixed a.ws.now.scalars a.ws.now.splits c.requires.lent.room) _ _ _ _ _ _ _
          (own_is (prefix_in a.m.now) _ _ _ _ c.in_ok-wide.ensures refl c.kind.ensures) c.exec-done.ensures z),
    )

pub returns-then-is_err : goal.returns-then-is_err
returns-then-is_err c =
    let a = c.args in (
      refl,
      step_put_back a.k.now a.ws.now.fixed a.m.now a.ws.now.scalars a.ws.now.splits a.v.now (contents a.d.now a.l.now) c.requires _ _ (c.in_ok-w.ensures a.ws.now.scalars a.ws.now.splits) refl _ (c.use_up.ensures a.ws.now.fixed a.ws.now.scalars a.ws.now.splits c.requires.lent.room) _ _ _ _ _ _ _
          (own_is (prefix_in a.m.now) _ _ _ _ c.in_ok-wide.ensures refl c.kind.ensures) c.exec-done.ensures (refused_some c.exec-done.result (sym c.is_err.ensures.value ∙ c.if-is_err.true)) _
          (c.put_prefix.ensures a.ws.now.fixed _ _ c.exec-done.ensures.room),
    )
