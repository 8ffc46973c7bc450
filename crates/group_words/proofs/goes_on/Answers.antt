use mathlib.Core.Path.{sym, ◌∙◌}
use Rattle.group_words.proofs.Words.{picked_is}
use Rattle.group_words.proofs.Testing.{ended_is, ended_goes, no_turn, turn_goes}
use Rattle.group_words.proofs.goes_on.Goals as goal

pub returns-then-all_ended : goal.returns-then-all_ended
returns-then-all_ended c v d = ended_goes c.args.ws.now c.args.turn v d (sym (ended_is _) ∙ sym c.all_ended.ensures ∙ c.if-all_ended.true)

pub returns-then-ws-turn : goal.returns-then-ws-turn
returns-then-ws-turn c v d = no_turn c.args.ws.now c.args.turn v d (sym (ended_is _) ∙ sym c.all_ended.ensures ∙ c.if-all_ended.false) c.if-ws-turn.true

pub returns : goal.returns
returns c v d =
    turn_goes c.args.ws.now c.args.turn v d (sym (ended_is _) ∙ sym c.all_ended.ensures ∙ c.if-all_ended.false) c.if-ws-turn.false c.is_some.result (c.is_some.ensures ∙ picked_is _ _ _ c.pick.ensures)
