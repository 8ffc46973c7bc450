-- Demand 3, the splits: over reached states, and over taken steps, answered releases and the host's changes of vector file and memories.
use Rattle.std.specs.Prelude.{ℕ, ◌+◌, ◌≤◌, ◌<◌, ◌≡◌, List}
use Rattle.std.specs.Int.Count.{ones}
use Rattle.answer.specs.Rows.{Iff}
use Rattle.word.specs.declared.Cond.{Cond}
use Rattle.isa.specs.declared.VReg.{VReg}
use Rattle.isa.specs.declared.Instr.TheVariants as I
use Rattle.lanes.specs.declared.Lane.{Lane}
use Rattle.lanes.specs.Mask.{bit_at}
use Rattle.warp.specs.declared.Launch.{Launch}
use Rattle.warp.specs.Warp.{split_count, next_pc}
use Rattle.warp.specs.Splits.{opened, last_split}
use Rattle.warp.specs.Parked.{parked_in, CutInTwo}
use Rattle.definition.specs.State.{State, outcome, pc_by, else_of, instr_at}
use Rattle.definition.specs.Step.{step_of}
use Rattle.promises.specs.Reached.{GoesOn, Reached}

-- the word at the PC is a VBRANCH over which the active lanes disagree: some want the else PC, and not all
pub record Disagree (k : List ℕ) (s : State) : Type 0 where
  pub cond : Cond
  pub left : VReg
  pub right : VReg
  pub offset : ℕ
  pub word : instr_at k s ≡ I.VBranch cond left right offset
  pub some : else_of cond left right s ≡ 0 → ⊥
  pub notall : else_of cond left right s ≡ s.warp.mask → ⊥

-- the step from s to t opens a split
pub record Opens (k : List ℕ) (s t : State) : Type 0 where
  -- rpc from CSR_RPC, full the active mask, and the else mask and else PC of a VBRANCH over which the lanes disagree
  pub by : Disagree k s
  pub split : last_split t.warp ≡ opened (else_of by.cond by.left by.right s) (pc_by 13 by.offset s) s.warp
  -- the active mask is cut in two non-empty masks that share no lane and together are that mask: the else mask, and the mask that runs
  pub cut : CutInTwo s.warp.mask (last_split t.warp).elseMask t.warp.mask
  -- the lanes that go to PC + 4 run first
  pub first : t.warp.pc ≡ next_pc s.warp

-- ---- promises

-- A step, of a reached state or not, opens one split at most and closes one at most.
pub record Near (before after : ℕ) : Type 0 where
  pub most : after ≤ before + 1
  pub least : before ≤ after + 1

abbrev pub OneAtMost : Type 0
OneAtMost = (k : List ℕ) (s : State) → Near s.warp.depth (step_of k s).left.warp.depth

-- A split cuts the active mask in two: wherever the count of open splits rises.
abbrev pub SplitCuts : Type 0
SplitCuts = (k : List ℕ) (l : Launch) (s t : State) → Reached k l s → step_of k s ≡ outcome 0 t → s.warp.depth < t.warp.depth → Opens k s t

-- A taken step opens a split when, and only when, the active lanes disagree over a VBRANCH.
abbrev pub SplitWhen : Type 0
SplitWhen = (k : List ℕ) (l : Launch) (s t : State) → Reached k l s → step_of k s ≡ outcome 0 t → Iff (s.warp.depth < t.warp.depth) (Disagree k s)

-- Each launched lane is active or parked in just one open split, and no other lane is either.
abbrev pub Covered : Type 0
Covered =
    (k : List ℕ) (l : Launch) (s : State) → Reached k l s
    → (i : Lane) → bit_at i.0 s.warp.mask + parked_in i s.warp.splits s.warp.depth ≡ bit_at i.0 l.fixed.launchMask

-- Fewer splits are open than lanes were launched.
abbrev pub Fewer : Type 0
Fewer = (k : List ℕ) (l : Launch) (s : State) → Reached k l s → s.warp.depth < ones l.fixed.launchMask

-- No more splits are open than there are records.
abbrev pub AtMost : Type 0
AtMost = (k : List ℕ) (l : Launch) (s : State) → Reached k l s → s.warp.depth ≤ split_count

-- There is room for every split that opens: where the active lanes disagree over a VBRANCH, a record is free.
abbrev pub Room : Type 0
Room = (k : List ℕ) (l : Launch) (s : State) → Reached k l s → Disagree k s → s.warp.depth < split_count

-- One launched lane never opens a split.
abbrev pub OneLane : Type 0
OneLane = (k : List ℕ) (l : Launch) (s : State) → Reached k l s → ones l.fixed.launchMask ≡ 1 → s.warp.depth ≡ 0

-- any number of taken steps, answered releases and changes by the host from s to t, through all of which more than n splits are open
pub data Above (k : List ℕ) (n : ℕ) : State → State → Type 0 where
  here : {s : State} → n < s.warp.depth → Above k n s s
  on : {s t u : State} → Above k n s t → GoesOn k t u → n < u.warp.depth → Above k n s u

-- When the count of open splits first falls back to what it was before a split, the mask is the one held just before it: from s a step to a opens a split,
-- up to b it stays open, and from b to t the count falls.
abbrev pub Restored : Type 0
Restored =
    (k : List ℕ) (l : Launch) (s a b t : State) → Reached k l s → step_of k s ≡ outcome 0 a → s.warp.depth < a.warp.depth
    → Above k s.warp.depth a b → GoesOn k b t → t.warp.depth ≤ s.warp.depth
    → (t.warp.depth ≡ s.warp.depth) × (t.warp.mask ≡ s.warp.mask)
