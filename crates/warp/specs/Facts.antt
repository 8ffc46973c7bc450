-- The facts that the tests of a well-formed warp (WellFormed.antt) stand for, as contracts ask for them.
use Rattle.std.specs.Prelude.{◌%◌, ◌^◌, ◌≤◌, ◌<◌, ◌≡◌, true, not, ◌&&◌, ◌||◌, ltb, get_or, drop, length}
use Rattle.warp.specs.declared.Fixed.{Fixed}
use Rattle.warp.specs.declared.Warp.{Warp}
use Rattle.lanes.specs.Lanes.{lanes_max}
use Rattle.warp.specs.Warp.{split_count, max_warps}
use Rattle.isa.specs.Prefix.{pending}
use Rattle.warp.specs.WellFormed.{fixed_ok_of, chain_of, all_zero, prefix_ok_of}

pub record FixedOk (f : Fixed) : Type 0 where
  pub lanes : (1 ≤ f.numt) × (f.numt ≤ lanes_max)
  pub warps : (1 ≤ f.numw) × (f.numw ≤ max_warps)
  pub wid : f.wid < f.numw
  pub some : 0 < f.launchMask
  pub mask : f.launchMask < 2 ^ f.numt
  pub code : f.codeBase % 4 ≡ 0

pub record Formed (w : Warp) : Type 0 where
  pub long : length w.splits ≡ split_count
  pub fixed : fixed_ok_of w.fixed ≡ true
  pub pc : w.pc % 4 ≡ 0
  pub x0 : get_or w.x 0 0 ≡ 0
  pub deep : w.depth ≤ split_count
  pub unused : all_zero (drop w.depth w.splits) ≡ true
  pub one : not (w.ended && w.waiting) ≡ true
  pub chain : chain_of w.fixed.launchMask w.splits w.depth w.mask ≡ true
  pub quiet : not ((w.ended || w.waiting) && ltb 0 w.depth) ≡ true
  pub prefix : prefix_ok_of w.prefix ≡ true
  pub free : not ((w.ended || w.waiting) && pending w.prefix) ≡ true
