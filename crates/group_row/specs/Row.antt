-- A lent run of warps, and the group by value that it is copied into.
use Rattle.std.specs.Prelude.{ℕ, cond, List, ◌++◌, ltb, take, drop}
use Rattle.warp.specs.declared.Warp.{Warp}
use Rattle.group.specs.GroupRefuse.{warps_limit}
use Rattle.group_machine.specs.declared.Group.{Group}

-- how many of n warps a group has room for
abbrev pub room_of : ℕ → ℕ
room_of n = cond (ltb warps_limit n) warps_limit n

abbrev pub held_of : List Warp → ℕ → ℕ → Group
held_of ws n t = record { warps = ws; count = n; turn = t }

-- the first i of a over those of b
abbrev pub overlaid : ℕ → List Warp → List Warp → List Warp
overlaid i a b = take i a ++ drop i b
