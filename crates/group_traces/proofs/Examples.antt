-- An example that meets what the promises of a group's splits ask for, by computing: two warps of two lanes, whose splits open and close side by side.
use Prim.Native.Nat.{ℕ, zero, suc, ◌<◌}
use mathlib.Core.Path.{◌≡◌, refl, sym, ap, subst}
use mathlib.Core.List.{List, [], ◌∷◌, ◌++◌}
use native.Mathlib.Omega.{arith}
use lib.Dec.{lit≤}
use lib.ListN.{get_or, replicate}
use Rattle.memory.specs.Memories.{contents}
use Rattle.warp.specs.declared.Launch.{Launch}
use Rattle.group.specs.Group.{Group, count_of, warp_at, file_start}
use Rattle.group.specs.GroupCalls.{group_step_of, group_launch_of}
use Rattle.group.proofs.GroupComputes.{group_computes}
use Rattle.group_promises.specs.Reached.{GroupGoesOn, steps, GroupReached, launched, goes}
use Rattle.group_promises.specs.Splits.{GroupAbove, here, on}
use Rattle.group_promises.proofs.Splits.{group_restored}
use Rattle.group_promises.proofs.Runs.{answered}

-- setrpc x0, x0, 12; vid.v v1; vbne v1, v0, 4; join; endprg
abbrev kernel : List ℕ
kernel = 0x00C0305B ∷ 0x5208A0D7 ∷ 0x0000925B ∷ 0x0000205B ∷ 0x0000400B ∷ []

abbrev launch : ℕ → Launch
launch i =
    record {
      fixed =
          record {
            numt = 2;
            numw = 2;
            wid = i;
            launchMask = 3;
            codeBase = 0;
            dataBase = 0;
            knl = 0;
            wgid = 0;
            lds = 0;
            pds = 0;
            gidx = 0;
            gidy = 0;
            gidz = 0;
          };
      entry = 0;
    }

abbrev both : List Launch
both = launch 0 ∷ launch 1 ∷ []

abbrev start : Group
start = (group_launch_of kernel both (replicate (file_start 2) 0) (contents [] [])).left

started : GroupReached kernel both start
unfolding group_computes
started = launched (replicate (file_start 2) 0) (contents [] []) refl

-- after so many group steps: warp 0's are the odd ones
unfoldable pub after : ℕ → Group
after zero = start
after (suc n) = (group_step_of kernel (after n)).left

-- of each: its next step's number, and how many splits of warp 0 are open
abbrev told : ℕ → List ℕ
told n = (group_step_of kernel (after n)).code ∷ (warp_at 0 (after n)).depth ∷ []

first : told 0 ++ told 1 ++ told 2 ++ told 3 ++ told 4 ≡ 0 ∷ 0 ∷ 0 ∷ 0 ∷ 0 ∷ 0 ∷ 0 ∷ 0 ∷ 0 ∷ 0 ∷ []
unfolding group_computes after
first = refl

-- warp 0's split opens in step 5, stays open to step 8, and closes in step 9
rest : told 5 ++ told 6 ++ told 7 ++ told 8 ++ told 9 ≡ 0 ∷ 1 ∷ 0 ∷ 1 ∷ 0 ∷ 1 ∷ 0 ∷ 1 ∷ 0 ∷ 0 ∷ []
unfolding group_computes after
rest = refl

at : (i : ℕ) {a b : List ℕ} → a ≡ b → get_or a i 0 ≡ get_or b i 0
at i e = ap (λ (l : List ℕ). get_or l i 0) e

goes_on : (n : ℕ) → (group_step_of kernel (after n)).code ≡ 0 → GroupGoesOn kernel (after n) (after (suc n))
unfolding after
goes_on n z = steps (answered kernel (after n) z)

reached : GroupReached kernel both (after 4)
unfolding after
reached = goes (goes (goes (goes started (goes_on 0 (at 0 first))) (goes_on 1 (at 2 first))) (goes_on 2 (at 4 first))) (goes_on 3 (at 6 first))

between : GroupAbove kernel 0 0 (after 5) (after 8)
between =
    on {n = after 7} (on {n = after 6} (on {n = after 5} (here {m = after 5} (omega (arith, at 1 rest))) (goes_on 5 (at 0 rest)) (omega (arith, at 3 rest))) (goes_on 6 (at 2 rest)) (omega (arith, at 5 rest)))
    (goes_on 7 (at 4 rest)) (omega (arith, at 7 rest))

some : 0 < count_of (after 4)
unfolding group_computes after
some = lit≤ tt

-- what the promise asks for is met, and it gives the mask before the split
pub mask_back : ((warp_at 0 (after 9)).depth ≡ (warp_at 0 (after 4)).depth) × ((warp_at 0 (after 9)).mask ≡ (warp_at 0 (after 4)).mask)
unfolding after
mask_back =
    group_restored kernel both (after 4) (after 5) (after 8) (after 9) 0 reached some (answered kernel (after 4) (at 8 first)) (omega (arith, at 9 first, at 1 rest))
    (subst (λ (d : ℕ). GroupAbove kernel 0 d (after 5) (after 8)) (sym (at 9 first)) between) (goes_on 8 (at 6 rest)) (omega (arith, at 9 first, at 9 rest))
