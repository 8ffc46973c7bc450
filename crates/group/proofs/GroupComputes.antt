-- All that a group's call computes with, under one name: to unfold it is to unfold all of them.
use Rattle.definition.proofs.Computes.{computes}
use Rattle.group.specs.Group.{some_runs, all_ended, first_from, settled, gone_on}
use Rattle.lanes.specs.Lanes.{all_below}
use Rattle.group.specs.GroupRefuse.{sizes_ok_of, placed_of, formed_of}
use Rattle.group.specs.GroupCalls.{group_step_of, group_steps_of, group_run_of, group_launch_of}

unfoldable pub group_computes : Type 0
unfolding computes some_runs all_ended first_from settled gone_on all_below sizes_ok_of placed_of formed_of group_step_of group_steps_of group_run_of group_launch_of
group_computes = Unit {0}
