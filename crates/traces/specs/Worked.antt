-- Worked steps, beside the trace cards: stores of each size, stores that clash and that agree, loads of each kind, private accesses taken and refused, divisions, CSRs read and written, words behind prefixes, masked words.
use Rattle.std.specs.Prelude.{ℕ, List, [], ◌∷◌, ◌++◌, get_or, take, drop, replicate}
use Rattle.memory.specs.Memories.{alone}
use Rattle.warp.specs.declared.Launch.{Launch}
use Rattle.warp.specs.declared.Warp.{Warp}
use Rattle.definition.specs.State.{State, state, Outcome}
use Rattle.definition.specs.Calls.{launched_of, Ran}
use Rattle.traces.specs.Machine.{Machine, ours}
use Rattle.traces.specs.Trace.{Case, ◌gives◌, file, Hold}

-- warp 1 of 2 with 4 threads each, so that TID is 4, which enters no private address; lanes 0, 2 and 3 launched; data memory and private memory at 0x1000
abbrev launch : Launch
launch =
    record {
      fixed =
          record {
            numt = 4;
            numw = 2;
            wid = 1;
            launchMask = 0xD;
            codeBase = 0x80000000;
            dataBase = 0x1000;
            knl = 0;
            wgid = 0;
            lds = 0;
            pds = 0x1000;
            gidx = 0;
            gidy = 0;
            gidz = 0;
          };
      entry = 0x80000000;
    }

-- 32 bytes of data: these, and 16 zeros, where the stores go
abbrev low : List ℕ
low = 0x7F ∷ 0x80 ∷ 0x81 ∷ 0xFF ∷ 0x11 ∷ 0x22 ∷ 0x33 ∷ 0x84 ∷ 0x91 ∷ 0x92 ∷ 0x93 ∷ 0x94 ∷ 0x95 ∷ 0x96 ∷ 0x97 ∷ 0x98 ∷ []

abbrev start : List ℕ → List ℕ → State
start v1 v2 = state (launched_of launch) (file v1 v2) (alone (low ++ replicate 16 0))

module _ (M : Machine) where
  -- a scalar word after lui x5, 1 and lw x6, 4(x5), which is 84332211
  abbrev scalar : ℕ → Ran
  scalar word = M.run (0x000012B7 ∷ 0x0042A303 ∷ word ∷ []) 3 (start (replicate 4 0) (replicate 4 0))

  -- the answer, the count, PC, x7, RPC, PRINT
  abbrev seen : ℕ → List ℕ
  seen word =
      let w : Warp = (scalar word).ends.left.warp in
      (scalar word).ends.code ∷ (scalar word).steps ∷ w.pc ∷ get_or w.x 7 0 ∷ w.rpc ∷ w.print ∷ []

  -- the answer, the data
  abbrev kept : ℕ → List ℕ
  kept word = (scalar word).ends.code ∷ (scalar word).ends.left.bytes.data_bytes

  -- a lane word: the answer, PC, v2's four lanes
  abbrev lanes : ℕ → List ℕ → List ℕ → List ℕ
  lanes word v1 v2 =
      let o : Outcome = M.step (word ∷ []) (start v1 v2) in
      o.code ∷ o.left.warp.pc ∷ take 4 (drop 64 o.left.vector)

  -- a lane store of v2: the answer, PC, the data
  abbrev stored_of : ℕ → List ℕ → List ℕ → List ℕ
  stored_of word v1 v2 =
      let o : Outcome = M.step (word ∷ []) (start v1 v2) in
      o.code ∷ o.left.warp.pc ∷ o.left.bytes.data_bytes

  abbrev stored : ℕ → List ℕ → List ℕ
  stored word v1 = stored_of word v1 (0xA1A2A3A4 ∷ 0xB1B2B3B4 ∷ 0xC1C2C3C4 ∷ 0xD1D2D3D4 ∷ [])

  -- loads of v2 at v1 − 1: lane 1, whose address is outside, isn't active and keeps its 9
  abbrev loaded : ℕ → List ℕ
  loaded word = lanes word (0x1002 ∷ 0 ∷ 0x1001 ∷ 0x1005 ∷ []) (replicate 4 9)

  -- words behind prefixes, from the launch on, with v1 = 5, 6, 7, 8 and v2 = 100 in each lane: the answer, the count, what is pending, x7, x40, v2's four lanes
  abbrev behind : List ℕ → List ℕ
  behind words =
      let r : Ran = M.run words 9 (start (5 ∷ 6 ∷ 7 ∷ 8 ∷ []) (replicate 4 100)) in
      let w : Warp = r.ends.left.warp in
      r.ends.code ∷ r.steps ∷ w.prefix.kind ∷ w.prefix.bits ∷ get_or w.x 7 0 ∷ get_or w.x 40 0 ∷ take 4 (drop 64 r.ends.left.vector)

  -- divisions of v2 by v1: −7 by 2, 7 by 0, −2^31 by −1; lane 1 isn't active
  abbrev divided : ℕ → List ℕ
  divided word = lanes word (2 ∷ 1 ∷ 0 ∷ 0xFFFFFFFF ∷ []) (0xFFFFFFF9 ∷ 5 ∷ 7 ∷ 0x80000000 ∷ [])

  abbrev pub worked : List Case
  worked =
      -- SB, SH, SW x6, 17(x5)
      kept 0x006288A3 gives (0 ∷ (low ++ (0 ∷ 0x11 ∷ replicate 14 0)))
      ∷ kept 0x006298A3 gives (0 ∷ (low ++ (0 ∷ 0x11 ∷ 0x22 ∷ replicate 13 0)))
      ∷ kept 0x0062A8A3 gives (0 ∷ (low ++ (0 ∷ 0x11 ∷ 0x22 ∷ 0x33 ∷ 0x84 ∷ replicate 11 0)))
      -- LB, LH, LW, LBU, LHU x7, 1(x5)
      ∷ seen 0x00128383 gives (0 ∷ 3 ∷ 0x8000000C ∷ 0xFFFFFF80 ∷ 0 ∷ 0 ∷ [])
      ∷ seen 0x00129383 gives (0 ∷ 3 ∷ 0x8000000C ∷ 0xFFFF8180 ∷ 0 ∷ 0 ∷ [])
      ∷ seen 0x0012A383 gives (0 ∷ 3 ∷ 0x8000000C ∷ 0x11FF8180 ∷ 0 ∷ 0 ∷ [])
      ∷ seen 0x0012C383 gives (0 ∷ 3 ∷ 0x8000000C ∷ 0x80 ∷ 0 ∷ 0 ∷ [])
      ∷ seen 0x0012D383 gives (0 ∷ 3 ∷ 0x8000000C ∷ 0x8180 ∷ 0 ∷ 0 ∷ [])
      -- DIV, REM x7, x6, x5; CSRRS x7, TID, x0; CSRRW x7, RPC, x6; CSRRSI x7, PRINT, 5
      ∷ seen 0x025343B3 gives (0 ∷ 3 ∷ 0x8000000C ∷ 0xFFF84333 ∷ 0 ∷ 0 ∷ [])
      ∷ seen 0x025363B3 gives (0 ∷ 3 ∷ 0x8000000C ∷ 0xFFFFF211 ∷ 0 ∷ 0 ∷ [])
      ∷ seen 0x800023F3 gives (0 ∷ 3 ∷ 0x8000000C ∷ 4 ∷ 0 ∷ 0 ∷ [])
      ∷ seen 0x80C313F3 gives (0 ∷ 3 ∷ 0x8000000C ∷ 0 ∷ 0x84332211 ∷ 0 ∷ [])
      ∷ seen 0x80B2E3F3 gives (0 ∷ 3 ∷ 0x8000000C ∷ 0 ∷ 0 ∷ 5 ∷ [])
      -- VLB12, VLH12, VLW12, VLBU12, VLHU12 v2, −1(v1)
      ∷ loaded 0xFFF0817B gives (0 ∷ 0x80000004 ∷ 0xFFFFFF80 ∷ 9 ∷ 0x7F ∷ 0x11 ∷ [])
      ∷ loaded 0xFFF0917B gives (0 ∷ 0x80000004 ∷ 0xFFFF8180 ∷ 9 ∷ 0xFFFF807F ∷ 0x2211 ∷ [])
      ∷ loaded 0xFFF0A17B gives (0 ∷ 0x80000004 ∷ 0x11FF8180 ∷ 9 ∷ 0xFF81807F ∷ 0x84332211 ∷ [])
      ∷ loaded 0xFFF0C17B gives (0 ∷ 0x80000004 ∷ 0x80 ∷ 9 ∷ 0x7F ∷ 0x11 ∷ [])
      ∷ loaded 0xFFF0D17B gives (0 ∷ 0x80000004 ∷ 0x8180 ∷ 9 ∷ 0x807F ∷ 0x2211 ∷ [])
      -- VSB12, VSH12, VSW12 v2, 16(v1): bytes at 18, 17 and 21, halves at 19, 17 and 21, words at 25, 17 and 21
      ∷ stored 0x0020F87B (0x1002 ∷ 0 ∷ 0x1001 ∷ 0x1005 ∷ []) gives (0 ∷ 0x80000004 ∷ (low ++ (0 ∷ 0xC4 ∷ 0xA4 ∷ 0 ∷ 0 ∷ 0xD4 ∷ replicate 10 0)))
      ∷ stored 0x0020B87B (0x1003 ∷ 0 ∷ 0x1001 ∷ 0x1005 ∷ []) gives (0 ∷ 0x80000004 ∷ (low ++ (0 ∷ 0xC4 ∷ 0xC3 ∷ 0xA4 ∷ 0xA3 ∷ 0xD4 ∷ 0xD3 ∷ replicate 9 0)))
      ∷ stored 0x0020E87B (0x1009 ∷ 0 ∷ 0x1001 ∷ 0x1005 ∷ []) gives (0 ∷ 0x80000004 ∷ (low ++ (0 ∷ 0xC4 ∷ 0xC3 ∷ 0xC2 ∷ 0xC1 ∷ 0xD4 ∷ 0xD3 ∷ 0xD2 ∷ 0xD1 ∷ 0xA4 ∷ 0xA3 ∷ 0xA2 ∷ 0xA1 ∷ replicate 3 0)))
      -- 15: bytes of lanes 0 and 3 at 17; halves of lanes 0 and 2 that meet in one byte, words that meet in three; with a lane outside, 9
      ∷ stored 0x0020F87B (0x1001 ∷ 0 ∷ 0x1002 ∷ 0x1001 ∷ []) gives (15 ∷ 0x80000000 ∷ (low ++ replicate 16 0))
      ∷ stored 0x0020B87B (0x1002 ∷ 0 ∷ 0x1001 ∷ 0x1005 ∷ []) gives (15 ∷ 0x80000000 ∷ (low ++ replicate 16 0))
      ∷ stored 0x0020E87B (0x1001 ∷ 0 ∷ 0x1002 ∷ 0x1008 ∷ []) gives (15 ∷ 0x80000000 ∷ (low ++ replicate 16 0))
      ∷ stored 0x0020B87B (0x1002 ∷ 0 ∷ 0x1001 ∷ 0x100F ∷ []) gives (9 ∷ 0x80000000 ∷ (low ++ replicate 16 0))
      -- equal bytes pass: words at 17, 18 and 20; lane 1, whose word is another, isn't active
      ∷ stored_of 0x0020E87B (0x1001 ∷ 0x1001 ∷ 0x1002 ∷ 0x1004 ∷ []) (0x55555555 ∷ 0xB1B2B3B4 ∷ 0x66555555 ∷ 0x77886655 ∷ []) gives
      (0 ∷ 0x80000004 ∷ (low ++ (0 ∷ 0x55 ∷ 0x55 ∷ 0x55 ∷ 0x55 ∷ 0x66 ∷ 0x88 ∷ 0x77 ∷ replicate 8 0)))
      -- the private byte load and store, −1(v1), at the places 1, 0, 3 and 4, 6, 7 of lanes 0, 2, 3: a lane's word 0 is at 4·lane, its word 1 at 16 + 4·lane
      ∷ lanes 0x7FF0812B (2 ∷ 7 ∷ 1 ∷ 4 ∷ []) (replicate 4 9) gives (0 ∷ 0x80000004 ∷ 0xFFFFFF80 ∷ 9 ∷ 0xFFFFFF91 ∷ 0xFFFFFF98 ∷ [])
      ∷ stored 0x7E20FFAB (5 ∷ 5 ∷ 7 ∷ 8 ∷ []) gives (0 ∷ 0x80000004 ∷ (low ++ (0xA4 ∷ replicate 9 0 ++ (0xC4 ∷ 0 ∷ 0 ∷ 0 ∷ 0 ∷ 0xD4 ∷ []))))
      -- the private word store, 0(v1): the lanes' words 1 side by side; lane 1, which would cross, isn't active
      ∷ stored 0x0020E02B (4 ∷ 5 ∷ 4 ∷ 4 ∷ []) gives (0 ∷ 0x80000004 ∷ (low ++ (0xA4 ∷ 0xA3 ∷ 0xA2 ∷ 0xA1 ∷ 0 ∷ 0 ∷ 0 ∷ 0 ∷ 0xC4 ∷ 0xC3 ∷ 0xC2 ∷ 0xC1 ∷ 0xD4 ∷ 0xD3 ∷ 0xD2 ∷ 0xD1 ∷ [])))
      -- 14: lane 3's word at place 5; its half at place 3; lane 0's word at place 5, though lane 2's is outside. Lane 2's outside alone: 9
      ∷ stored 0x0020E02B (4 ∷ 4 ∷ 4 ∷ 5 ∷ []) gives (14 ∷ 0x80000000 ∷ (low ++ replicate 16 0))
      ∷ lanes 0x0000912B (2 ∷ 2 ∷ 2 ∷ 3 ∷ []) (replicate 4 9) gives (14 ∷ 0x80000000 ∷ replicate 4 9)
      ∷ stored 0x0020E02B (5 ∷ 4 ∷ 400 ∷ 4 ∷ []) gives (14 ∷ 0x80000000 ∷ (low ++ replicate 16 0))
      ∷ stored 0x0020E02B (4 ∷ 4 ∷ 400 ∷ 4 ∷ []) gives (9 ∷ 0x80000000 ∷ (low ++ replicate 16 0))
      -- vdiv.vv and vrem.vv v2, v2, v1
      ∷ divided 0x8620A157 gives (0 ∷ 0x80000004 ∷ 0xFFFFFFFD ∷ 5 ∷ 0xFFFFFFFF ∷ 0x80000000 ∷ [])
      ∷ divided 0x8E20A157 gives (0 ∷ 0x80000004 ∷ 0xFFFFFFFF ∷ 5 ∷ 7 ∷ 0 ∷ [])
      -- xd, then x2: vadd.vi v65, v1, 3 and vadd.vi v2, v65, 1
      ∷ behind (0x0020200B ∷ 0x0211B0D7 ∷ 0x0800200B ∷ 0x0210B157 ∷ []) gives (5 ∷ 4 ∷ 0 ∷ 0 ∷ 0 ∷ 0 ∷ 9 ∷ 100 ∷ 11 ∷ 12 ∷ [])
      -- xd, then x1: vadd.vi v97, v1, 1 and vsub.vv v2, v1, v97
      ∷ behind (0x0030200B ∷ 0x0210B0D7 ∷ 0x0180200B ∷ 0x0A108157 ∷ []) gives (5 ∷ 4 ∷ 0 ∷ 0 ∷ 0 ∷ 0 ∷ 0xFFFFFFFF ∷ 100 ∷ 0xFFFFFFFF ∷ 0xFFFFFFFF ∷ [])
      -- REGEXTI: vadd.vi v2, v1, -1019, whose bit 10 is its sign; a shift by the low five bits
      ∷ behind (0x8000300B ∷ 0x0212B157 ∷ []) gives (5 ∷ 2 ∷ 0 ∷ 0 ∷ 0 ∷ 0 ∷ 0xFFFFFC0A ∷ 100 ∷ 0xFFFFFC0C ∷ 0xFFFFFC0D ∷ [])
      ∷ behind (0xFC00300B ∷ 0x9610B157 ∷ []) gives (5 ∷ 2 ∷ 0 ∷ 0 ∷ 0 ∷ 0 ∷ 10 ∷ 100 ∷ 14 ∷ 16 ∷ [])
      -- addi x40, x0, 7 and addi x7, x40, 1
      ∷ behind (0x0010200B ∷ 0x00700413 ∷ 0x0080200B ∷ 0x00140393 ∷ []) gives (5 ∷ 4 ∷ 0 ∷ 0 ∷ 8 ∷ 7 ∷ replicate 4 100)
      -- refused, and the prefix stays pending: x72, a prefix on a prefix, REGEXTI on a VV form, lw outside, csrrs of GIDX by x32
      ∷ behind (0x0020200B ∷ 0x00700413 ∷ []) gives (6 ∷ 1 ∷ 1 ∷ 2 ∷ 0 ∷ 0 ∷ replicate 4 100)
      ∷ behind (0x0000200B ∷ 0x0000200B ∷ []) gives (6 ∷ 1 ∷ 1 ∷ 0 ∷ 0 ∷ 0 ∷ replicate 4 100)
      ∷ behind (0x0000300B ∷ 0x02108157 ∷ []) gives (6 ∷ 1 ∷ 2 ∷ 0 ∷ 0 ∷ 0 ∷ replicate 4 100)
      ∷ behind (0x0000200B ∷ 0xFFF02383 ∷ []) gives (9 ∷ 1 ∷ 1 ∷ 0 ∷ 0 ∷ 0 ∷ replicate 4 100)
      ∷ behind (0x0080200B ∷ 0x808023F3 ∷ []) gives (7 ∷ 1 ∷ 1 ∷ 8 ∷ 0 ∷ 0 ∷ replicate 4 100)
      -- masked, behind vmv.v.v v0, v1, by which lanes 0 and 2 of the active 0, 2 and 3 are in v0: vadd.vi v2, v1, 3, v0.t; where no lane is in v0, whose words are 0, it is taken too
      ∷ behind (0x5E008057 ∷ 0x0011B157 ∷ []) gives (5 ∷ 2 ∷ 0 ∷ 0 ∷ 0 ∷ 0 ∷ 8 ∷ 100 ∷ 10 ∷ 100 ∷ [])
      ∷ behind (0x0011B157 ∷ []) gives (5 ∷ 1 ∷ 0 ∷ 0 ∷ 0 ∷ 0 ∷ replicate 4 100)
      -- vid.v v2, v0.t; vmerge.vim v2, v1, -1, v0, which writes lane 3 too; vmseq.vv v0, v1, v1, v0.t, then v0 in v2
      ∷ behind (0x5E008057 ∷ 0x5008A157 ∷ []) gives (5 ∷ 2 ∷ 0 ∷ 0 ∷ 0 ∷ 0 ∷ 0 ∷ 100 ∷ 2 ∷ 100 ∷ [])
      ∷ behind (0x5E008057 ∷ 0x5C1FB157 ∷ []) gives (5 ∷ 2 ∷ 0 ∷ 0 ∷ 0 ∷ 0 ∷ 0xFFFFFFFF ∷ 100 ∷ 0xFFFFFFFF ∷ 8 ∷ [])
      ∷ behind (0x5E008057 ∷ 0x60108057 ∷ 0x5E000157 ∷ []) gives (5 ∷ 3 ∷ 0 ∷ 0 ∷ 0 ∷ 0 ∷ 1 ∷ 100 ∷ 1 ∷ 8 ∷ [])
      -- REGEXTI: vadd.vi v2, v1, -1019, v0.t; vmerge.vim v2, v1, -1019, v0; xd: vadd.vi v32, v1, 3, v0.t, then x2: vadd.vi v2, v32, 1
      ∷ behind (0x5E008057 ∷ 0x8000300B ∷ 0x0012B157 ∷ []) gives (5 ∷ 3 ∷ 0 ∷ 0 ∷ 0 ∷ 0 ∷ 0xFFFFFC0A ∷ 100 ∷ 0xFFFFFC0C ∷ 100 ∷ [])
      ∷ behind (0x5E008057 ∷ 0x8000300B ∷ 0x5C12B157 ∷ []) gives (5 ∷ 3 ∷ 0 ∷ 0 ∷ 0 ∷ 0 ∷ 0xFFFFFC05 ∷ 100 ∷ 0xFFFFFC05 ∷ 8 ∷ [])
      ∷ behind (0x5E008057 ∷ 0x0010200B ∷ 0x0011B057 ∷ 0x0400200B ∷ 0x0200B157 ∷ []) gives (5 ∷ 5 ∷ 0 ∷ 0 ∷ 0 ∷ 0 ∷ 9 ∷ 100 ∷ 11 ∷ 1 ∷ [])
      -- 6: a masked vadd.vi, vid.v and vmerge.vim to v0; masked vmv.x.s and vmv.s.x; vadd.vi to v0 behind a REGEXT whose xd is 0
      ∷ behind (0x5E008057 ∷ 0x0011B057 ∷ []) gives (6 ∷ 1 ∷ 0 ∷ 0 ∷ 0 ∷ 0 ∷ replicate 4 100)
      ∷ behind (0x5E008057 ∷ 0x5008A057 ∷ []) gives (6 ∷ 1 ∷ 0 ∷ 0 ∷ 0 ∷ 0 ∷ replicate 4 100)
      ∷ behind (0x5E008057 ∷ 0x5C1FB057 ∷ []) gives (6 ∷ 1 ∷ 0 ∷ 0 ∷ 0 ∷ 0 ∷ replicate 4 100)
      ∷ behind (0x5E008057 ∷ 0x401023D7 ∷ []) gives (6 ∷ 1 ∷ 0 ∷ 0 ∷ 0 ∷ 0 ∷ replicate 4 100)
      ∷ behind (0x5E008057 ∷ 0x4002E157 ∷ []) gives (6 ∷ 1 ∷ 0 ∷ 0 ∷ 0 ∷ 0 ∷ replicate 4 100)
      ∷ behind (0x5E008057 ∷ 0x0000200B ∷ 0x0011B057 ∷ []) gives (6 ∷ 2 ∷ 1 ∷ 0 ∷ 0 ∷ 0 ∷ replicate 4 100)
      -- VBRANCH doesn't look at v0: lane 3, which isn't in it, wants the else PC by vbne v3, v4, with v3 = 1 there by vmsgtu.vi v3, v1, 7; then vadd.vi v2, v1, 3 in lanes 0 and 2
      ∷ behind (0x5E008057 ∷ 0x7A13B1D7 ∷ 0x0041945B ∷ 0x0211B157 ∷ []) gives (5 ∷ 4 ∷ 0 ∷ 0 ∷ 0 ∷ 0 ∷ 8 ∷ 100 ∷ 10 ∷ 100 ∷ [])
      ∷ []

-- ---- the promise

abbrev pub WorkedSteps : Type 0
WorkedSteps = Hold (worked ours)
