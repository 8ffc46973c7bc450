use mathlib.Core.Path.{sym, ◌∙◌}
use Rattle.lanes.proofs.MaskLaws.{mask_self}
use Rattle.lane_handlers.proofs.written.Goals as goal

pub returns : goal.returns
returns c = mask_self c.args.mask _ c.requires.below ∙ rw (sym c.masked.ensures ∙ c.if-masked.false)
