use mathlib.Core.Path.{refl}
use Rattle.splits.proofs.SplitGoes.{part_goes_none, part_goes_all, part_fits, part_goes_open}
use Rattle.splits.proofs.part.Goals as goal

pub returns-then-e-eq0 : goal.returns-then-e-eq0
returns-then-e-eq0 c = λ g x. part_goes_none g c.args.h.now x c.args.s.now c.requires.0 c.requires.1 _ c.args.e c.args.p c.if-e-eq0.true c.next.ensures

pub returns-then-e-h : goal.returns-then-e-h
returns-then-e-h c = λ g x. part_goes_all g c.args.h.now x c.args.s.now c.requires.0 c.requires.1 _ c.args.e c.args.p c.if-e-eq0.false c.if-e-h.true refl

pub open-requires : goal.open-requires
open-requires c =
    let f = part_fits c.args.h.now c.args.e c.requires.2 c.requires.3 c.if-e-eq0.false c.if-e-h.false in
    (c.requires.0, c.requires.1, f.0, f.1)

pub returns : goal.returns
returns c = λ g x.
    part_goes_open g c.args.h.now x c.args.s.now c.requires.0 c.requires.1 _ c.args.e c.args.p _ c.if-e-eq0.false c.if-e-h.false (c.«open».ensures g x)
