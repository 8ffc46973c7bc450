-- The trace cards P1 to P12: one table of words, one of runs and steps.
use Rattle.std.specs.Prelude.{ℕ, ◌≡◌, List, [], ◌∷◌, ◌++◌, get_or, take, drop, replicate}
use Rattle.answer.specs.Rows.{Row, ◌⇒◌}
use Rattle.word.specs.Word.{flag_of}
use Rattle.isa.specs.Fields.{x}
use Rattle.isa.specs.Decode.{decode_of}
use Rattle.isa.specs.declared.Instr.{Instr}
use Rattle.isa.specs.declared.Instr.TheVariants as I
use Rattle.memory.specs.Memories.{alone}
use Rattle.warp.specs.declared.Warp.{Warp}
use Rattle.warp.specs.declared.Split.{Split}
use Rattle.warp.specs.Warp.{zero_split}
use Rattle.definition.specs.State.{state, Outcome}
use Rattle.definition.specs.Calls.{launched_of, Ran}
use Rattle.traces.specs.Bound.{launch_on}
use Rattle.traces.specs.Machine.{Machine, ours}

pub record Case : Type 0 where
  pub got : List ℕ
  pub is : List ℕ

infixr 68 ◌gives◌
abbrev pub ◌gives◌ : List ℕ → List ℕ → Case
a gives b = record { got = a; is = b }

-- ---- the machine of the cards: the launched lanes m of four, code and entry at 80000000, data at 0; FENCE where nothing else stands

abbrev nop : ℕ
nop = 0x0000000F

abbrev warp : ℕ → Warp
warp m = launched_of (launch_on 4 m)

-- v1 and v2 in four lanes
abbrev pub file : List ℕ → List ℕ → List ℕ
file v1 v2 = replicate 32 0 ++ (v1 ++ (replicate 28 0 ++ (v2 ++ replicate 8124 0)))

-- the words of P1 and P2
abbrev join : ℕ
join = 0x0000205B

abbrev endprg : ℕ
endprg = 0x0000400B

abbrev setrpc : ℕ
setrpc = 0x0102B05B

-- ---- P1 to P6 and P12: one kernel, looked at after n steps
-- At 80000008 setrpc x0, x5, 16, x5 being 80000020; at 80000010 VBEQ; at 80000030 `last`, JOIN but for P12; at 80000034 ENDPRG.

abbrev kernel : ℕ → List ℕ
kernel last = 0x00000297 ∷ 0x02028293 ∷ setrpc ∷ nop ∷ 0x0020885B ∷ (replicate 7 nop ++ (last ∷ endprg ∷ []))

-- the answer, the count, PC, mask, open splits, RPC, x0, ended
abbrev view : Ran → List ℕ
view r =
    let w : Warp = r.ends.left.warp in
    r.ends.code ∷ r.steps ∷ w.pc ∷ w.mask ∷ w.depth ∷ w.rpc ∷ get_or w.x 0 1 ∷ flag_of w.ended ∷ []

-- the first split record: rpc, full mask, else mask, else PC, phase two
abbrev split : Ran → List ℕ
split r =
    let s : Split = get_or r.ends.left.warp.splits 0 zero_split in
    s.rpc ∷ s.full ∷ s.elseMask ∷ s.elsePc ∷ flag_of s.phaseTwo ∷ []

-- P1, P2: the words
abbrev pub words : List (Row Instr)
words = join ⇒ I.Join ∷ endprg ⇒ I.EndPrg ∷ setrpc ⇒ I.SetRpc (x 0) (x 5) 16 ∷ []

-- ---- the cases of a machine

module _ (M : Machine) where
  -- P1 to P6 and P12: the kernel after n steps
  abbrev after : ℕ → ℕ → Ran
  after n last = M.run (kernel last) n (state (warp 0xF) (file (0 ∷ 1 ∷ 2 ∷ 3 ∷ []) (2 ∷ 2 ∷ 2 ∷ 2 ∷ [])) (alone []))

  -- a kernel of one word, one step
  abbrev step : ℕ → ℕ → List ℕ → List ℕ → List ℕ → Outcome
  step word m v1 v2 d = M.step (word ∷ []) (state (warp m) (file v1 v2) (alone d))

  -- P7: VBLT and VBLTU v1, v2, 16 with v1 −1 and v2 0 in all lanes
  abbrev compared : ℕ → List ℕ
  compared word =
      let o : Outcome = step word 0xF (replicate 4 0xFFFFFFFF) (replicate 4 0) [] in
      o.code ∷ o.left.warp.pc ∷ []

  -- P8, P9: vadd.vv, vdiv.vv and vrem.vv v2, v2, v1 over two lanes, the answer and v2
  abbrev computed : ℕ → List ℕ → List ℕ → List ℕ
  computed word v2 v1 =
      let o : Outcome = step word 3 v1 v2 [] in
      o.code ∷ take 2 (drop 64 o.left.vector)

  -- P10: VSW12 of v2 at v1's addresses, lane 3's one byte past the end of 16 bytes
  abbrev stored : Outcome
  stored = step 0x0020E07B 0xF (0 ∷ 4 ∷ 8 ∷ 13 ∷ []) (1 ∷ 1 ∷ 1 ∷ 1 ∷ []) (replicate 16 7)

  -- P11: vmv.x.s x5, v1 over two lanes
  abbrev taken : List ℕ → Outcome
  taken v1 = step 0x421022D7 3 v1 (0 ∷ 0 ∷ 0 ∷ 0 ∷ []) []

  -- P3's row, which the duds are tried against
  abbrev pub p3 : Case
  p3 = view (after 5 join) gives (0 ∷ 5 ∷ 0x80000014 ∷ 0xB ∷ 1 ∷ 0x80000030 ∷ 0 ∷ 0 ∷ [])

  -- the table
  abbrev pub cases : List Case
  cases =
      -- P1, P2
      view (after 20 join) gives (0 ∷ 20 ∷ 0x80000034 ∷ 0xF ∷ 0 ∷ 0x80000030 ∷ 0 ∷ 1 ∷ [])
      ∷ view (after 3 join) gives (0 ∷ 3 ∷ 0x8000000C ∷ 0xF ∷ 0 ∷ 0x80000030 ∷ 0 ∷ 0 ∷ [])
      -- P3, P4, P5, P6
      ∷ p3
      ∷ split (after 5 join) gives (0x80000030 ∷ 0xF ∷ 4 ∷ 0x80000020 ∷ 0 ∷ [])
      ∷ view (after 13 join) gives (0 ∷ 13 ∷ 0x80000020 ∷ 4 ∷ 1 ∷ 0x80000030 ∷ 0 ∷ 0 ∷ [])
      ∷ split (after 13 join) gives (0x80000030 ∷ 0xF ∷ 4 ∷ 0x80000020 ∷ 1 ∷ [])
      ∷ view (after 18 join) gives (0 ∷ 18 ∷ 0x80000030 ∷ 0xF ∷ 0 ∷ 0x80000030 ∷ 0 ∷ 0 ∷ [])
      ∷ split (after 18 join) gives (0 ∷ 0 ∷ 0 ∷ 0 ∷ 0 ∷ [])
      ∷ view (after 19 join) gives (0 ∷ 19 ∷ 0x80000034 ∷ 0xF ∷ 0 ∷ 0x80000030 ∷ 0 ∷ 0 ∷ [])
      -- P7, P8, P9
      ∷ compared 0x0020C85B gives (0 ∷ 0x80000010 ∷ [])
      ∷ compared 0x0020E85B gives (0 ∷ 0x80000004 ∷ [])
      ∷ computed 0x02208157 (0xFFFFFFFF ∷ 0xFFFFFFFF ∷ 0 ∷ 0 ∷ []) (1 ∷ 1 ∷ 0 ∷ 0 ∷ []) gives (0 ∷ 0 ∷ 0 ∷ [])
      ∷ computed 0x8620A157 (7 ∷ 0x80000000 ∷ 0 ∷ 0 ∷ []) (0 ∷ 0xFFFFFFFF ∷ 0 ∷ 0 ∷ []) gives (0 ∷ 0xFFFFFFFF ∷ 0x80000000 ∷ [])
      ∷ computed 0x8E20A157 (7 ∷ 0x80000000 ∷ 0 ∷ 0 ∷ []) (0 ∷ 0xFFFFFFFF ∷ 0 ∷ 0 ∷ []) gives (0 ∷ 7 ∷ 0 ∷ [])
      -- P10, P11, P12
      ∷ (stored.code ∷ stored.left.bytes.data_bytes) gives (9 ∷ replicate 16 7)
      ∷ ((taken (5 ∷ 5 ∷ 0 ∷ 0 ∷ [])).code ∷ get_or (taken (5 ∷ 5 ∷ 0 ∷ 0 ∷ [])).left.warp.x 5 0 ∷ []) gives (0 ∷ 5 ∷ [])
      ∷ ((taken (5 ∷ 6 ∷ 0 ∷ 0 ∷ [])).code ∷ []) gives (10 ∷ [])
      ∷ view (after 13 endprg) gives (11 ∷ 12 ∷ 0x80000030 ∷ 0xB ∷ 1 ∷ 0x80000030 ∷ 0 ∷ 0 ∷ [])
      ∷ []

-- a case holds; every case of a table does
abbrev pub CaseHolds : Case → Type 0
CaseHolds c = c.got ≡ c.is

abbrev pub Hold : List Case → Type 0
Hold [] = Unit {0}
Hold (c ∷ cs) = CaseHolds c × Hold cs

-- every word of a table is its instruction's
abbrev pub Decode : List (Row Instr) → Type 0
Decode [] = Unit {0}
Decode (r ∷ rs) = (decode_of r.code ≡ r.is) × Decode rs

-- ---- promises

abbrev pub TraceWords : Type 0
TraceWords = Decode words

-- of a machine
abbrev pub Cards : Machine → Type 0
Cards M = Hold (cases M)

abbrev pub TraceCards : Type 0
TraceCards = Cards ours
