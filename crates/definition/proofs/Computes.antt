-- All that a call computes with, under one name: to unfold it is to unfold all of them.
use Rattle.isa.specs.Decode.{decode_of}
use Rattle.isa.specs.Scalar as Scalar
use Rattle.isa.specs.Vector as Vector
use Rattle.isa.specs.Ventus as Ventus
use Rattle.isa.specs.Prefix.{prefixed}
use Rattle.lanes.specs.Mask.{bit_at}
use Rattle.lanes.specs.Lanes.{each_lane, all_below}
use Rattle.memory.specs.Bytes.{le_bytes}
use Rattle.memory.specs.Memories.{load_from, store_to}
use Rattle.memory.specs.LaneAccess.{agree_of}
use Rattle.warp.specs.Warp.{zero_warp}
use Rattle.warp.specs.WellFormed.{fixed_ok_of, split_ok_of, chain_of, all_zero, prefix_ok_of, well_formed_of}
use Rattle.warp.specs.Splits.{open_of, parted, join_of, set_rpc_of}
use Rattle.warp.specs.Csr.{csr_at, csr_done}
use Rattle.definition.specs.Refuse.{runs_ok_of, refusals_of}
use Rattle.definition.specs.Exec.{effect_of}
use Rattle.definition.specs.Step.{step_of}
use Rattle.definition.specs.Calls.{launch_of, steps_of, run_of, release_of}

unfoldable pub computed_words : Type 0
unfolding decode_of Scalar.jalr_word Scalar.branch_word Scalar.load_word Scalar.store_word Scalar.shift_word Scalar.op_imm_word Scalar.by_funct3 Scalar.op_word Scalar.fence_word Scalar.csr_word Vector.plain_word Vector.multiply_word Vector.vector_word Ventus.join_word Ventus.splits_word Ventus.end_prg_word Ventus.barrier_word Ventus.stop_word Ventus.prefix_word Ventus.warp_word Ventus.lane_access_word Ventus.private_word
computed_words = Unit {0}

unfoldable pub computes : Type 0
unfolding computed_words prefixed prefix_ok_of bit_at each_lane all_below le_bytes load_from store_to agree_of zero_warp fixed_ok_of split_ok_of chain_of all_zero well_formed_of open_of parted join_of set_rpc_of csr_at csr_done runs_ok_of refusals_of effect_of step_of launch_of steps_of run_of release_of
computes = Unit {0}
