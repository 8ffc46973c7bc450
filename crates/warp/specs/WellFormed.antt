-- Well formed, sentence by sentence.
use Rattle.std.specs.Prelude.{ℕ, zero, suc, ◌-◌, ◌^◌, Bool, true, not, ◌&&◌, ◌||◌, cond, List, [], ◌∷◌, eqb, leb, ltb, get_or, drop}
use Rattle.warp.specs.declared.Split.{Split}
use Rattle.warp.specs.declared.Fixed.{Fixed}
use Rattle.warp.specs.declared.Launch.{Launch}
use Rattle.warp.specs.declared.Warp.{Warp}
use Rattle.isa.specs.declared.Prefix.{Prefix}
use Rattle.isa.specs.Prefix.{reg_ext_i, pending}
use Rattle.answer.specs.Rows.{every, between}
use Rattle.lanes.specs.Mask.{inside}
use Rattle.lanes.specs.Lanes.{lanes_max}
use Rattle.warp.specs.Warp.{split_count, max_warps, zero_split, aligned}

-- NUMT, NUMW, WID, launch mask and code base in range
unfoldable pub fixed_ok_of : Fixed → Bool
fixed_ok_of f =
    every
    (between 1 f.numt lanes_max
    ∷ between 1 f.numw max_warps
    ∷ ltb f.wid f.numw
    ∷ not (eqb f.launchMask 0)
    ∷ ltb f.launchMask (2 ^ f.numt)
    ∷ aligned f.codeBase
    ∷ [])

-- what a launch and a card are tested for: the entry PC too
abbrev pub launch_ok_of : Launch → Bool
launch_ok_of l = fixed_ok_of l.fixed && aligned l.entry

-- an open split's running part is full less else in phase one, else in phase two
abbrev pub running_of : Split → ℕ
running_of s = cond s.phaseTwo s.elseMask (s.full - s.elseMask)

-- its other full lanes are parked in it
abbrev pub parked_of : Split → ℕ
parked_of s = cond s.phaseTwo (s.full - s.elseMask) s.elseMask

-- an open split whose running part is m: a non-empty else mask strictly inside the full mask, and an else PC that is a multiple of 4
unfoldable pub split_ok_of : Split → ℕ → Bool
split_ok_of s m =
    every
    (not (eqb s.elseMask 0)
    ∷ inside s.elseMask s.full
    ∷ not (eqb s.elseMask s.full)
    ∷ aligned s.elsePc
    ∷ eqb (running_of s) m
    ∷ [])

-- the first d splits, from the last back, m being the last running part: each one's full mask is the running part of the one before, the first one's the launch mask
unfoldable pub chain_of : ℕ → List Split → ℕ → ℕ → Bool
chain_of launch ss zero m = eqb m launch
chain_of launch ss (suc d) m = split_ok_of (get_or ss d zero_split) m && chain_of launch ss d (get_or ss d zero_split).full

abbrev pub is_zero : Split → Bool
is_zero s = every (eqb s.rpc 0 ∷ eqb s.full 0 ∷ eqb s.elseMask 0 ∷ eqb s.elsePc 0 ∷ not s.phaseTwo ∷ [])

unfoldable pub all_zero : List Split → Bool
all_zero [] = true
all_zero (s ∷ ss) = is_zero s && all_zero ss

-- none, with the bits 0, REGEXT or REGEXTI with 12 bits
unfoldable pub prefix_ok_of : Prefix → Bool
prefix_ok_of p = every (leb p.kind reg_ext_i ∷ ltb p.bits (2 ^ 12) ∷ (pending p || eqb p.bits 0) ∷ [])

unfoldable pub well_formed_of : Warp → Bool
well_formed_of w =
    every
    (fixed_ok_of w.fixed
    ∷ aligned w.pc
    ∷ eqb (get_or w.x 0 0) 0
    ∷ leb w.depth split_count
    ∷ all_zero (drop w.depth w.splits)
    ∷ not (w.ended && w.waiting)
    ∷ chain_of w.fixed.launchMask w.splits w.depth w.mask
    ∷ not ((w.ended || w.waiting) && ltb 0 w.depth)
    ∷ prefix_ok_of w.prefix
    ∷ not ((w.ended || w.waiting) && pending w.prefix)
    ∷ [])
