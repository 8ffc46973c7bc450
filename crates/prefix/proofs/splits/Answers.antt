use Rattle.isa.specs.Fields.{fields_of}
use Rattle.isa.specs.Ventus.{splits_word}
use Rattle.isa.proofs.Decoded.{small}
use Rattle.prefix.specs.Tells.{is}
use Rattle.prefix.proofs.Laws.{by_da, splits_say}
use Rattle.prefix.proofs.splits.Goals as goal

pub returns-in-3 : goal.returns-in-3
unfolding splits_word
returns-in-3 c p e b h = let w = c.args.w in rw c.in-3.is (is (by_da h (fields_of w) (small w)))

pub returns-in_default : goal.returns-in_default
unfolding splits_word
returns-in_default c p e b h = let w = c.args.w in splits_say h (fields_of w) (small w) c.in_default.in_default-own.rest.1
