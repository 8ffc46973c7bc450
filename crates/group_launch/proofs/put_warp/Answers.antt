use mathlib.Core.Path.{◌≡◌}
use Rattle.group_launch.specs.GroupLaunchCall.{reading_at}
use Rattle.group_launch.proofs.Laws.{launch_is, put_is}
use Rattle.group_launch.proofs.put_warp.Goals as goal

pub returns : goal.returns
returns c =
    let l : c.unwrap_or-l.result ≡ (reading_at c.args.cards.now c.args.i).launch = launch_is c.read_at.result c.args.cards.now c.args.i _ c.read_at.ensures (rw c.zero_launch.ensures at c.unwrap_or-l.ensures) in
    put_is _ c.args.cards.now c.args.i _ _ _ _ l c.launched.ensures c.requires.1 c.save.ensures
