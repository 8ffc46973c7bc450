use mathlib.Core.Path.{◌∙◌}
use Rattle.splits.proofs.SplitGoes.{join_goes_none, join_goes_off, join_goes_close, join_goes_turn}
use Rattle.splits.proofs.join.Goals as goal

pub returns-then-n-eq0 : goal.returns-then-n-eq0
returns-then-n-eq0 c = λ g x.
    join_goes_none g c.args.h.now x c.args.s.now c.requires.0 c.requires.1 _ c.if-n-eq0.true (rw c.add-after.ensures)

pub returns-then-pc-q : goal.returns-then-pc-q
returns-then-pc-q c = λ g x.
    join_goes_off g c.args.h.now x c.args.s.now c.requires.0 c.requires.1 _ c.requires.2 c.if-n-eq0.false _ c.split_at-q.ensures
    c.if-pc-q.true (rw c.add-after.ensures)

pub returns-then-q : goal.returns-then-q
returns-then-q c = λ g x.
    join_goes_close g c.args.h.now x c.args.s.now c.requires.0 c.requires.1 _ c.requires.2 c.if-n-eq0.false _ c.split_at-q.ensures
    c.if-pc-q.false _ c.if-q.true c.resume.ensures (c.put_split.ensures ∙ rw c.zero_split.ensures)

pub returns : goal.returns
returns c = λ g x.
    join_goes_turn g c.args.h.now x c.args.s.now c.requires.0 c.requires.1 _ c.requires.2 c.if-n-eq0.false _ c.split_at-q.ensures
    c.if-pc-q.false _ c.if-q.false c.resume-2.ensures c.put_split-2.ensures
