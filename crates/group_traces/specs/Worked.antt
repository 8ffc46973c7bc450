-- Worked groups: the barrier, the turn, who stops a group, and the two memories.
use Rattle.std.specs.Prelude.{ℕ, ◌-◌, ◌^◌, ◌≡◌, true, false, cond, List, [], ◌∷◌, ◌++◌, map, length, replicate}
use Rattle.memory.specs.Memories.{Contents, contents}
use Rattle.warp.specs.declared.Launch.{Launch}
use Rattle.warp.specs.declared.Warp.{Warp}
use Rattle.warp.specs.Warp.{with_stop}
use Rattle.definition.specs.Calls.{launched_of}
use Rattle.group.specs.Group.{Group, group, file_start}
use Rattle.group.specs.GroupCalls.{GroupRan, group_run_of, group_launch_of}

-- ---- the groups

-- a barrier, the end, and a word that isn't in the tables; then lui x5, 1 and two loads of a word: lw x6, 14(x5) and lw x6, 16(x5); then vid.v v2 and vsb12 v2, 0(v1)
abbrev kernel : List ℕ
kernel = 0x0400400B ∷ 0x0000400B ∷ 0 ∷ 0x000012B7 ∷ 0x00E2A303 ∷ 0x000012B7 ∷ 0x0102A303 ∷ 0x5208A157 ∷ 0x0020F07B ∷ []

abbrev at_barrier : ℕ
at_barrier = 0x80000000

abbrev at_end : ℕ
at_end = 0x80000004

abbrev at_nothing : ℕ
at_nothing = 0x80000008

-- the loads: across the data memory's end, and behind it
abbrev at_across : ℕ
at_across = 0x8000000C

abbrev at_behind : ℕ
at_behind = 0x80000014

-- each lane stores its number at the address 0
abbrev at_clash : ℕ
at_clash = 0x8000001C

-- warp i of n: so many lanes, data at 0x1000, local memory at `near`, the entry at e
abbrev launch_of : ℕ → ℕ → ℕ → ℕ → ℕ → Launch
launch_of lanes near n i e =
    record {
      fixed =
          record {
            numt = lanes;
            numw = n;
            wid = i;
            launchMask = 2 ^ lanes - 1;
            codeBase = 0x80000000;
            dataBase = 0x1000;
            knl = 0;
            wgid = 0;
            lds = near;
            pds = 0;
            gidx = 0;
            gidy = 0;
            gidz = 0;
          };
      entry = e;
    }

-- with one lane
abbrev launch : ℕ → ℕ → ℕ → ℕ → Launch
launch near n i e = launch_of 1 near n i e

-- 16 bytes of data, and 4 bytes of local memory, of which the first is 7
abbrev bytes : Contents
bytes = contents (replicate 16 0) (7 ∷ 0 ∷ 0 ∷ 0 ∷ [])

-- the local memory begins where the data memory ends; one byte earlier they overlap
abbrev touching : ℕ
touching = 0x1010

abbrev group_of : ℕ → List Launch → Group
group_of turn ls = group turn (map launched_of ls) (replicate (file_start (length ls)) 0) bytes

-- two warps, entered at a and b
abbrev two : ℕ → ℕ → List Launch
two a b = launch touching 2 0 a ∷ launch touching 2 1 b ∷ []

-- two warps that have ended
abbrev over : ℕ → Group
over turn = group turn (map (λ l. with_stop true false (launched_of l)) (two at_barrier at_barrier)) (replicate (file_start 2) 0) bytes

-- ---- what is seen

-- 0 for a warp that runs, 1 for one that waits, 2 for one that ended; its PC
abbrev warp_seen : Warp → List ℕ
warp_seen w = cond w.ended 2 (cond w.waiting 1 0) ∷ w.pc ∷ []

abbrev warps_seen : List Warp → List ℕ
warps_seen [] = []
warps_seen (w ∷ ws) = warp_seen w ++ warps_seen ws

-- the answer, the steps taken, who stopped the group, the turn, each warp
abbrev seen : GroupRan → List ℕ
seen r = r.ends.code ∷ r.steps ∷ r.ends.stopped ∷ r.ends.left.turn ∷ warps_seen r.ends.left.warps

-- a run of n steps
abbrev after : ℕ → Group → List ℕ
after n m = seen (group_run_of kernel n m)

-- a launch's number
abbrev launched : List Launch → ℕ
launched ls = (group_launch_of kernel ls (replicate (file_start (length ls)) 0) bytes).code

-- ---- promises

pub record Worked : Type 0 where
  -- the first to arrive waits
  pub waits : after 1 (group_of 0 (two at_barrier at_barrier)) ≡ 0 ∷ 1 ∷ 0 ∷ 1 ∷ 1 ∷ at_end ∷ 0 ∷ at_barrier ∷ []
  -- the second one's arrival releases both, in the same step
  pub meets : after 2 (group_of 0 (two at_barrier at_barrier)) ≡ 0 ∷ 2 ∷ 0 ∷ 0 ∷ 0 ∷ at_end ∷ 0 ∷ at_end ∷ []
  -- both end, and the fifth step is refused
  pub ends : after 9 (group_of 0 (two at_barrier at_barrier)) ≡ 3 ∷ 4 ∷ 0 ∷ 0 ∷ 2 ∷ at_end ∷ 2 ∷ at_end ∷ []
  -- the last running warp ends and doesn't arrive: the waiting one is released
  pub leaves : after 2 (group_of 0 (two at_barrier at_end)) ≡ 0 ∷ 2 ∷ 0 ∷ 0 ∷ 0 ∷ at_end ∷ 2 ∷ at_end ∷ []
  -- a refused warp stops the group: its number and WID, the turn as before it
  pub stops : after 9 (group_of 0 (two at_barrier at_nothing)) ≡ 6 ∷ 1 ∷ 1 ∷ 1 ∷ 1 ∷ at_end ∷ 0 ∷ at_nothing ∷ []
  -- so does one whose two lanes clash, here in local memory
  pub clashes : after 9 (group_of 0 (launch_of 2 0 2 0 at_barrier ∷ launch_of 2 0 2 1 at_clash ∷ [])) ≡ 15 ∷ 2 ∷ 1 ∷ 0 ∷ 1 ∷ at_end ∷ 0 ∷ 0x80000020 ∷ []
  -- and one lane alone clashes with none
  pub alone : after 3 (group_of 0 (launch 0 2 0 at_barrier ∷ launch 0 2 1 at_clash ∷ [])) ≡ 0 ∷ 3 ∷ 0 ∷ 0 ∷ 1 ∷ at_end ∷ 0 ∷ 0x80000024 ∷ []
  -- with warp 1's turn first, warp 1 steps first
  pub turns : after 1 (group_of 1 (two at_barrier at_barrier)) ≡ 0 ∷ 1 ∷ 0 ∷ 0 ∷ 0 ∷ at_barrier ∷ 1 ∷ at_end ∷ []
  -- all ended, whatever the turn: 3, and a run of 0 steps answers 0
  pub over3 : after 1 (over 7) ≡ 3 ∷ 0 ∷ 0 ∷ 7 ∷ 2 ∷ at_barrier ∷ 2 ∷ at_barrier ∷ []
  pub over0 : after 0 (over 7) ≡ 0 ∷ 0 ∷ 0 ∷ 7 ∷ 2 ∷ at_barrier ∷ 2 ∷ at_barrier ∷ []
  -- a turn that names no warp: 2
  pub wild : after 1 (group_of 2 (two at_barrier at_barrier)) ≡ 2 ∷ 0 ∷ 0 ∷ 2 ∷ 0 ∷ at_barrier ∷ 0 ∷ at_barrier ∷ []
  -- memories that touch are accepted, ones that overlap are not: 1
  pub touch : launched (launch touching 1 0 at_barrier ∷ []) ≡ 0
  pub overlap : launched (launch 0x100F 1 0 at_barrier ∷ []) ≡ 1
  -- an access across the two: 9, though every byte of it is in one; one behind the data memory is in the local memory
  pub across : after 9 (group_of 0 (launch touching 1 0 at_across ∷ [])) ≡ 9 ∷ 1 ∷ 0 ∷ 0 ∷ 0 ∷ 0x80000010 ∷ []
  pub behind : after 2 (group_of 0 (launch touching 1 0 at_behind ∷ [])) ≡ 0 ∷ 2 ∷ 0 ∷ 0 ∷ 0 ∷ 0x8000001C ∷ []
