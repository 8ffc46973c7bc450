-- Two results that the definition allows of a group's call are equal.
use Rattle.promises.proofs.Determined.{determined_whole}
use Rattle.group.specs.GroupCalls.{group_step_of, group_run_of, group_launch_of}
use Rattle.group_promises.specs.Determined.{whole, GroupStepDetermined, GroupRunDetermined, GroupLaunchDetermined}

pub group_step_determined : GroupStepDetermined
group_step_determined k = determined_whole whole (group_step_of k) (λ r t e. e)

pub group_run_determined : GroupRunDetermined
group_run_determined k n = determined_whole whole (group_run_of k n) (λ r t e. e)

pub group_launch_determined : GroupLaunchDetermined
group_launch_determined k v c = determined_whole whole (λ ls. group_launch_of k ls v c) (λ r t e. e)
