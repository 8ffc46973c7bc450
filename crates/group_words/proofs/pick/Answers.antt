use mathlib.Core.Path.{sym, ◌∙◌}
use Rattle.group_words.specs.Row.{warps_in}
use Rattle.group_words.proofs.Picking.{seek_found, seek_on, seek_none}
use Rattle.group_words.proofs.Words.{warps_long, runs_at}
use Rattle.group_words.proofs.pick.Goals as goal

pub returns-then-can_run : goal.returns-then-can_run
returns-then-can_run c =
    let ws = c.args.ws.now in
    let l = c.loop-tried in
    (l.invariant.0, seek_found (warps_in ws) _ (warps_long ws) c.args.turn c.requires.0 l._tried l.i l.invariant.1 c.loop-tried-test.true (runs_at ws l.i l.invariant.0 ∙ sym c.can_run.ensures ∙ c.if-can_run.true))

pub loop-tried-preserved : goal.loop-tried-preserved
loop-tried-preserved c =
    let ws = c.args.ws.now in
    let l = c.loop-tried in (
      c.next-i.ensures.1,
      seek_on (warps_in ws) _ (warps_long ws) c.args.turn c.requires.0 l._tried l.i l.invariant.1 (runs_at ws l.i l.invariant.0 ∙ sym c.can_run.ensures ∙ c.if-can_run.false) c.next-i.result c.next-i.ensures.0
          c.next-i.ensures.1,
    )

pub returns : goal.returns
returns c =
    let ws = c.args.ws.now in
    let l = c.loop-tried in
    seek_none (warps_in ws) _ (warps_long ws) c.args.turn c.requires.0 l._tried l.i l.invariant.1 c.loop-tried-test.false
