-- Splits and joins.
use Rattle.std.specs.Prelude.{ℕ, ◌+◌, ◌-◌, true, false, cond, eqb, get_or, set}
use Rattle.isa.specs.declared.XReg.{XReg}
use Rattle.warp.specs.declared.Split.{Split}
use Rattle.warp.specs.declared.Warp.{Warp}
use Rattle.warp.specs.Warp.{zero_split, with_pc, with_rpc, with_splits, write_x, read_x, next}
use Rattle.word.specs.Word.{add_of, extend_of}

-- the split that opens: the lanes of e want p
abbrev pub opened : ℕ → ℕ → Warp → Split
opened e p w = record { rpc = w.rpc; full = w.mask; elseMask = e; elsePc = p; phaseTwo = false }

-- a split opens; the PC + 4 lanes run first
unfoldable pub open_of : ℕ → ℕ → Warp → Warp
open_of e p w = next (with_splits (set w.splits w.depth (opened e p w)) (w.depth + 1) (w.mask - e) w)

-- VBRANCH, where the lanes of e want the else PC p: all agree, and there is no split, or one opens
unfoldable pub parted : ℕ → ℕ → Warp → Warp
parted e p w = cond (eqb e 0) (next w) (cond (eqb e w.mask) (with_pc p w) (open_of e p w))

-- the last split opened
abbrev pub last_split : Warp → Split
last_split w = get_or w.splits (w.depth - 1) zero_split

-- phase one goes to phase two: the else lanes run at the else PC
abbrev pub turned : Split → Split
turned s = record { rpc = s.rpc; full = s.full; elseMask = s.elseMask; elsePc = s.elsePc; phaseTwo = true }

abbrev pub turn_of : Split → Warp → Warp
turn_of s w = with_pc s.elsePc (with_splits (set w.splits (w.depth - 1) (turned s)) w.depth s.elseMask w)

-- in phase two the split closes: its full mask comes back, and the PC stays on the JOIN, so that splits with one rpc all close (both house rules)
abbrev pub close_of : Split → Warp → Warp
close_of s w = with_splits (set w.splits (w.depth - 1) zero_split) (w.depth - 1) s.full w

-- JOIN: where the PC is the last split's rpc, its next phase; else PC + 4 alone
unfoldable pub join_of : Warp → Warp
join_of w =
    cond (eqb w.depth 0) (next w)
    (cond (eqb w.pc (last_split w).rpc) (cond (last_split w).phaseTwo (close_of (last_split w) w) (turn_of (last_split w) w)) (next w))

-- SETRPC: rs1 + the sign-extended immediate i to RPC and rd
unfoldable pub set_rpc_of : XReg → XReg → ℕ → Warp → Warp
set_rpc_of rd rs1 i w = let y : ℕ = add_of (read_x rs1 w) (extend_of 12 i) in next (write_x rd y (with_rpc y w))
