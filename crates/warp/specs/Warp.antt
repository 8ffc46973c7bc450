-- The state of a warp: its zero values, its setters, and what every word does to it.
use Rattle.std.specs.Prelude.{ℕ, ◌%◌, Bool, false, cond, List, eqb, get_or, set, replicate}
use Rattle.isa.specs.declared.XReg.{XReg}
use Rattle.isa.specs.Bounds.{scalar_registers}
use Rattle.isa.specs.declared.Prefix.{Prefix}
use Rattle.isa.specs.Prefix.{prefix, no_prefix}
use Rattle.warp.specs.declared.Split.{Split}
use Rattle.warp.specs.declared.Fixed.{Fixed}
use Rattle.warp.specs.declared.Launch.{Launch}
use Rattle.warp.specs.declared.Warp.{Warp}
use Rattle.word.specs.Word.{add_of}

-- ---- sizes

-- room for open splits
abbrev pub split_count : ℕ
split_count = 31

-- warps in the group
abbrev pub max_warps : ℕ
max_warps = 32

-- ---- zero values

abbrev pub zero_split : Split
zero_split = record { rpc = 0; full = 0; elseMask = 0; elsePc = 0; phaseTwo = false }

abbrev pub zero_fixed : Fixed
zero_fixed =
    record {
      numt = 0;
      numw = 0;
      wid = 0;
      launchMask = 0;
      codeBase = 0;
      dataBase = 0;
      knl = 0;
      wgid = 0;
      lds = 0;
      pds = 0;
      gidx = 0;
      gidy = 0;
      gidz = 0;
    }

-- what a refused card reading returns
abbrev pub zero_launch : Launch
zero_launch = record { fixed = zero_fixed; entry = 0 }

-- what a refused launch returns
unfoldable pub zero_warp : Warp
zero_warp =
    record {
      x = replicate scalar_registers 0;
      splits = replicate split_count zero_split;
      depth = 0;
      pc = 0;
      mask = 0;
      rpc = 0;
      print = 0;
      ended = false;
      waiting = false;
      prefix = no_prefix;
      fixed = zero_fixed;
    }

-- ---- setters, by what changes together: every definition goes through these

-- registers, PC, RPC and PRINT
abbrev pub with_scalars : List ℕ → ℕ → ℕ → ℕ → Warp → Warp
with_scalars x pc rpc print w =
    record { x = x; splits = w.splits; depth = w.depth; pc = pc; mask = w.mask; rpc = rpc; print = print; ended = w.ended; waiting = w.waiting; prefix = w.prefix; fixed = w.fixed }

abbrev pub with_x : List ℕ → Warp → Warp
with_x x w = with_scalars x w.pc w.rpc w.print w

abbrev pub with_pc : ℕ → Warp → Warp
with_pc p w = with_scalars w.x p w.rpc w.print w

abbrev pub with_rpc : ℕ → Warp → Warp
with_rpc r w = with_scalars w.x w.pc r w.print w

abbrev pub with_print : ℕ → Warp → Warp
with_print p w = with_scalars w.x w.pc w.rpc p w

-- ended and waiting
abbrev pub with_stop : Bool → Bool → Warp → Warp
with_stop e b w =
    record { x = w.x; splits = w.splits; depth = w.depth; pc = w.pc; mask = w.mask; rpc = w.rpc; print = w.print; ended = e; waiting = b; prefix = w.prefix; fixed = w.fixed }

-- the split records, how many are open, and the active mask
abbrev pub with_splits : List Split → ℕ → ℕ → Warp → Warp
with_splits ss d m w =
    record { x = w.x; splits = ss; depth = d; pc = w.pc; mask = m; rpc = w.rpc; print = w.print; ended = w.ended; waiting = w.waiting; prefix = w.prefix; fixed = w.fixed }

-- the pending prefix
abbrev pub with_prefix : Prefix → Warp → Warp
with_prefix p w =
    record { x = w.x; splits = w.splits; depth = w.depth; pc = w.pc; mask = w.mask; rpc = w.rpc; print = w.print; ended = w.ended; waiting = w.waiting; prefix = p; fixed = w.fixed }

-- ---- scalar registers and the PC

-- the registers x with y in r; x0 stays 0
abbrev pub set_x : XReg → ℕ → List ℕ → List ℕ
set_x r y x = cond (eqb r.0 0) x (set x r.0 y)

abbrev pub read_x : XReg → Warp → ℕ
read_x r w = get_or w.x r.0 0

abbrev pub write_x : XReg → ℕ → Warp → Warp
write_x r y w = with_x (set_x r y w.x) w

abbrev pub next_pc : Warp → ℕ
next_pc w = add_of w.pc 4

abbrev pub next : Warp → Warp
next w = with_pc (next_pc w) w

-- a prefix, of kind k with the bits n: it is pending for the next word
abbrev pub pends : ℕ → ℕ → Warp → Warp
pends k n w = next (with_prefix (prefix k n) w)

-- a multiple of 4
abbrev pub aligned : ℕ → Bool
aligned p = eqb (p % 4) 0

-- a jump to p that keeps the next PC in rd, the link; p was computed before rd is written
abbrev pub linked : XReg → ℕ → Warp → Warp
linked rd p w = with_pc p (write_x rd (next_pc w) w)

-- a branch: where it is taken, to p
abbrev pub branched : Bool → ℕ → Warp → Warp
branched t p w = cond t (with_pc p w) (next w)

-- ---- what a call leaves that lends no run: its number (0, or that of the refusal) and the warp

pub record Answered : Type 0 where
  pub code : ℕ
  pub warp : Warp

abbrev pub answered : ℕ → Warp → Answered
answered c w = record { code = c; warp = w }
