use Rattle.exec.proofs.Laws.{or_none, or_some, fetch_stopped, fetch_off, fetch_word}
use Rattle.exec.proofs.fetch.Goals as goal

pub returns-then-h-ne0 : goal.returns-then-h-ne0
returns-then-h-ne0 c = let a = c.args in λ x s. fetch_stopped a.k.now a.g.now a.h.now x s _ c.stop_reason.ensures (or_some _ _ c.if-h-ne0.true)

pub returns-then-k-at : goal.returns-then-k-at
returns-then-k-at c =
    let a = c.args in let stop = or_none _ _ c.if-h-ne0.false in
    λ x s. fetch_off a.k.now a.g.now a.h.now x s stop.0 stop.1 c.requires _ c.place-at.ensures c.if-k-at.true

pub returns : goal.returns
returns c =
    let a = c.args in let stop = or_none _ _ c.if-h-ne0.false in
    λ x s. fetch_word a.k.now a.g.now a.h.now x s stop.0 stop.1 c.requires _ c.place-at.ensures c.if-k-at.false
