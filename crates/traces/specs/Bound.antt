-- A loop with trip counts 1 to 32 opens 31 splits, and closes them all.
use Rattle.std.specs.Prelude.{ℕ, ◌≡◌, List, [], ◌∷◌, replicate}
use Rattle.lanes.specs.Lanes.{file_words}
use Rattle.memory.specs.Memories.{alone}
use Rattle.warp.specs.declared.Launch.{Launch}
use Rattle.warp.specs.Warp.{split_count}
use Rattle.definition.specs.State.{State}
use Rattle.definition.specs.Calls.{Ran, launch_of, run_of}
use Rattle.promises.specs.Reached.{Reached}

-- lane l goes round l + 1 times
abbrev pub loop : List ℕ
loop =
    0x00000297  -- auipc x5, 0
    ∷ 0x0182b05b  -- setrpc x0, x5, 24: the JOIN
    ∷ 0x5208a057  -- vid.v v0
    ∷ 0x0210b0d7  -- vadd.vi v1, v1, 1
    ∷ 0x0010445b  -- vblt v0, v1, 8: out of the loop
    ∷ 0xff9ff06f  -- jal x0, -8: once more
    ∷ 0x0000205b  -- join
    ∷ 0x0000400b  -- endprg
    ∷ []

-- n lanes, those of m launched, the code at 0x80000000
abbrev pub launch_on : ℕ → ℕ → Launch
launch_on n m =
    record {
      fixed =
          record {
            numt = n;
            numw = 1;
            wid = 0;
            launchMask = m;
            codeBase = 0x80000000;
            dataBase = 0;
            knl = 0;
            wgid = 0;
            lds = 0;
            pds = 0;
            gidx = 0;
            gidy = 0;
            gidz = 0;
          };
      entry = 0x80000000;
    }

-- the kernel k launched, with no data memory
abbrev pub start_of : List ℕ → Launch → State
start_of k l = (launch_of k l (replicate file_words 0) (alone [])).left

abbrev pub all32 : Launch
all32 = launch_on 32 0xffffffff

-- a reached state with as many splits open as there is room for
pub record Full (r : Ran) : Type 0 where
  pub reached : Reached loop all32 r.ends.left
  pub steps : r.steps ≡ 95
  pub depth : r.ends.left.warp.depth ≡ split_count

-- the warp ended, all splits closed and all lanes active again
pub record Closed (r : Ran) : Type 0 where
  pub code : r.ends.code ≡ 3
  pub steps : r.steps ≡ 162
  pub depth : r.ends.left.warp.depth ≡ 0
  pub mask : r.ends.left.warp.mask ≡ 0xffffffff

-- ---- promises

-- The bound is reached.
abbrev pub BoundReached : Type 0
BoundReached = Full (run_of loop 95 (start_of loop all32))

abbrev pub LoopCloses : Type 0
LoopCloses = Closed (run_of loop 163 (start_of loop all32))
