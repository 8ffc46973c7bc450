use Rattle.layout.proofs.Words.{moving_long, split_long}
use Rattle.capi.proofs.Laws.{state_run}
use Rattle.capi.proofs.run_state.Goals as goal

pub run_words-end-requires : goal.run_words-end-requires
run_words-end-requires c = rw c.get.ensures (moving_long c.args.state.now c.requires, split_long c.args.state.now c.requires)

pub returns : goal.returns
returns c = let r = c.run_words-end.ensures in state_run c.args.state.now _ _ _ _ c.requires _ c.get.ensures _ _ _ _ _ r.0 r.1 _ c.put.ensures
