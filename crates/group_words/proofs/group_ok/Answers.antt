use Rattle.group_words.proofs.Sound.{tests_are}
use Rattle.group_words.proofs.group_ok.Goals as goal

pub returns : goal.returns
returns c v d = tests_are c.args.ws.now c.args.turn v d _ _ _ c.words_ok.ensures c.placed.ensures (c.goes_on.ensures v d)
