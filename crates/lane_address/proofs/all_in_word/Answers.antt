use Rattle.std.proofs.Common.{rules}
use Rattle.isa.specs.declared.Space.TheVariants as spaces
use Rattle.lanes.specs.Mask.{bit}
use Rattle.lanes.specs.Lanes.{lane_of}
use Rattle.memory.specs.Address.{in_word}
use Rattle.memory.proofs.Laws.{plain_in_word}
use Rattle.lane_address.proofs.all_in_word.Goals as goal

pub returns-in-Plain : goal.returns-in-Plain
returns-in-Plain c =
    let g = c.args in
    rw c.in-Plain.is (plain_in_word g.n (bit g.mask) g.w g.off (lane_of g.v.now g.r))

pub returns-in-Private : goal.returns-in-Private
returns-in-Private c =
    let g = c.args in
    rw c.in-Private.is (c.all_active.ensures (λ l. in_word spaces.Private g.w (lane_of g.v.now g.r l) g.off) (λ l t h e. search rules))
