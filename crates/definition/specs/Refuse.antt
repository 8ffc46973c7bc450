-- The refusals: when each call is refused, in the order tested. A row is a number and its test; the first that holds decides.
use Rattle.std.specs.Prelude.{ℕ, ◌+◌, ◌*◌, ◌^◌, Bool, true, not, ◌&&◌, ◌||◌, List, [], ◌∷◌, ◌++◌, eqb, leb, ltb, length}
use Rattle.answer.specs.Rows.{Row, ◌⇒◌, every, between}
use Rattle.word.specs.Word.{holds_of}
use Rattle.isa.specs.declared.CsrOp.{CsrOp}
use Rattle.isa.specs.declared.Instr.{Instr}
use Rattle.isa.specs.declared.Instr.TheVariants as I
use Rattle.isa.specs.declared.Space.{Space}
use Rattle.isa.specs.declared.StoreOp.{StoreOp}
use Rattle.isa.specs.declared.VReg.{VReg}
use Rattle.isa.specs.Masked.{over_mask}
use Rattle.lanes.specs.declared.Lane.{Lane}
use Rattle.lanes.specs.Lanes.{file_words, lane_of, uniform_of}
use Rattle.memory.specs.Memory.{size_of, width_of}
use Rattle.memory.specs.Memories.{Contents, memories_ok_of, inside_one}
use Rattle.memory.specs.LaneAccess.{all_inside, all_in_word, all_agree}
use Rattle.warp.specs.declared.Fixed.{Fixed}
use Rattle.warp.specs.declared.Launch.{Launch}
use Rattle.warp.specs.declared.Warp.{Warp}
use Rattle.warp.specs.Warp.{aligned}
use Rattle.warp.specs.WellFormed.{launch_ok_of, well_formed_of}
use Rattle.warp.specs.Csr.{is_csr, is_print, is_rpc, writes_of}
use Rattle.definition.specs.State.{State, fixed_of, active, x_of, pc_by, even_of, memories_in, memory_of, scalar_at, lane_at, else_of, place_of, instr_at}

-- ---- 1 and 2: the lent runs, and the state handed in

-- the most kernel words
abbrev pub kernel_limit : ℕ
kernel_limit = 16384

-- the sizes of kernel k, vector file v and memories c, their bases plus lengths, and that the memories don't overlap
unfoldable pub runs_ok_of : Fixed → List ℕ → List ℕ → Contents → Bool
runs_ok_of f k v c =
    every
    (between 1 (length k) kernel_limit
    ∷ leb (f.codeBase + 4 * length k) (2 ^ 32)
    ∷ eqb (length v) file_words
    ∷ memories_ok_of (memories_in f c)
    ∷ [])

-- what a step and a run test first
abbrev pub state_tests : List ℕ → State → List (Row Bool)
state_tests k m = 1 ⇒ not (runs_ok_of (fixed_of m) k m.vector m.bytes) ∷ 2 ⇒ not (well_formed_of m.warp) ∷ []

-- ---- 3 to 5: before a word is looked at

abbrev pub on_kernel : List ℕ → Warp → Bool
on_kernel k w = leb w.fixed.codeBase w.pc && ltb (place_of w) (length k)

abbrev pub fetch_tests : List ℕ → Warp → List (Row Bool)
fetch_tests k w = 3 ⇒ w.ended ∷ 4 ⇒ w.waiting ∷ 5 ⇒ not (on_kernel k w) ∷ []

-- ---- 6 to 11, 14 and 15: the word's own, one line an instruction; Refused is a word that isn't in the tables, or that doesn't take the pending prefix; a masked word is 6 too where it would write its mask

-- CSR number outside 0x800 to 0x80C, or a write to one other than PRINT and RPC
abbrev pub no_csr : CsrOp → ℕ → ℕ → Bool
no_csr o n rs1 = not (is_csr n) || (writes_of o rs1 && not (is_print n || is_rpc n))

-- a PC that isn't a multiple of 4
abbrev pub astray : ℕ → Bool
astray p = not (aligned p)

-- a scalar access of n bytes at the address a isn't wholly inside a memory; that of some active lane l, at the address `at l`, isn't
abbrev pub outside : ℕ → ℕ → State → Bool
outside n a m = not (inside_one (memory_of m) n a)

abbrev pub some_outside : ℕ → (Lane → ℕ) → State → Bool
some_outside n at m = not (all_inside (fixed_of m).numt (active m) (inside_one (memory_of m) n) at)

-- some active lane's private access of n bytes, by register a's lane and the offset off, crosses a word boundary of the lane
abbrev pub some_crosses : Space → ℕ → VReg → ℕ → State → Bool
some_crosses s n a off m = not (all_in_word (fixed_of m).numt (active m) s n (lane_of m.vector a) off)

-- an access by lanes, of n bytes each
abbrev pub access_tests : Space → ℕ → VReg → ℕ → State → List (Row Bool)
access_tests s n a off m = 14 ⇒ some_crosses s n a off m ∷ 9 ⇒ some_outside n (lane_at s a off m) m ∷ []

-- two active lanes store different values to one byte: their words in register b, at the addresses `at`
abbrev pub some_clash : StoreOp → (Lane → ℕ) → VReg → State → Bool
some_clash k at b m = not (all_agree (fixed_of m).numt (active m) k at (lane_of m.vector b))

-- a store by lanes
abbrev pub store_tests : Space → StoreOp → VReg → VReg → ℕ → State → List (Row Bool)
store_tests s k a b off m = access_tests s (width_of k) a off m ++ (15 ⇒ some_clash k (lane_at s a off m) b m ∷ [])

-- the active lanes' words differ
abbrev pub mixed : (Lane → ℕ) → State → Bool
mixed f m = not (uniform_of (fixed_of m).numt (active m) f)

-- a split is open; that BARRIER is refused there is a house rule
abbrev pub in_split : State → Bool
in_split m = not (eqb m.warp.depth 0)

unfoldable pub refusals_of : Instr → State → List (Row Bool)
refusals_of I.Refused m = 6 ⇒ true ∷ []
refusals_of (I.Lui r n) m = []
refusals_of (I.Auipc r n) m = []
refusals_of (I.Jal r n) m = 8 ⇒ astray (pc_by 21 n m) ∷ []
refusals_of (I.Jalr r a n) m = 8 ⇒ astray (even_of (scalar_at a n m)) ∷ []
refusals_of (I.Branch c a b n) m = 8 ⇒ (holds_of c (x_of a m) (x_of b m) && astray (pc_by 13 n m)) ∷ []
refusals_of (I.Load k r a n) m = 9 ⇒ outside (size_of k) (scalar_at a n m) m ∷ []
refusals_of (I.Store k a b n) m = 9 ⇒ outside (width_of k) (scalar_at a n m) m ∷ []
refusals_of (I.OpImm o r a n) m = []
refusals_of (I.OpReg o r a b) m = []
refusals_of (I.Fence r a n) m = []
refusals_of (I.Csr o r a n) m = 7 ⇒ no_csr o n a.0 ∷ []
refusals_of (I.CsrImm o r i n) m = 7 ⇒ no_csr o n i ∷ []
refusals_of (I.Vector o a) m = 6 ⇒ over_mask (I.Vector o a) ∷ []
refusals_of (I.VMove r s) m = []
refusals_of (I.VMerge r b s) m = 6 ⇒ over_mask (I.VMerge r b s) ∷ []
refusals_of (I.VMoveXS r b) m = 10 ⇒ mixed (lane_of m.vector b) m ∷ []
refusals_of (I.VMoveSX r a) m = []
refusals_of (I.Vid t r) m = 6 ⇒ over_mask (I.Vid t r) ∷ []
refusals_of (I.VBranch c a b n) m = 8 ⇒ (not (eqb (else_of c a b m) 0) && astray (pc_by 13 n m)) ∷ []
refusals_of I.Join m = []
refusals_of (I.SetRpc r a n) m = []
refusals_of I.EndPrg m = 11 ⇒ in_split m ∷ []
refusals_of (I.Barrier n) m = 11 ⇒ in_split m ∷ []
refusals_of (I.VLoad s k r a n) m = access_tests s (size_of k) a n m
refusals_of (I.VStore s k a b n) m = store_tests s k a b n m
refusals_of (I.RegExt n) m = []
refusals_of (I.RegExtI n) m = []

-- ---- the table of each call

-- a step: 1 and 2, 3 to 5, and the rows of the instruction at the PC
abbrev pub step_tests : List ℕ → State → List (Row Bool)
step_tests k m = state_tests k m ++ fetch_tests k m.warp

abbrev pub tests_of : List ℕ → State → List (Row Bool)
tests_of k m = step_tests k m ++ refusals_of (instr_at k m) m

-- its numbers
abbrev pub step_numbers : List ℕ
step_numbers = 1 ∷ 2 ∷ 3 ∷ 4 ∷ 5 ∷ 6 ∷ 7 ∷ 8 ∷ 9 ∷ 10 ∷ 11 ∷ 14 ∷ 15 ∷ []

-- a launch: 1 for a size, and 1 for a launch value out of range
abbrev pub launch_tests : List ℕ → Launch → List ℕ → Contents → List (Row Bool)
launch_tests k l v c = 1 ⇒ not (runs_ok_of l.fixed k v c) ∷ 1 ⇒ not (launch_ok_of l) ∷ []

-- a release, which lends no run
abbrev pub release_tests : Warp → List (Row Bool)
release_tests w = 2 ⇒ not (well_formed_of w) ∷ 12 ⇒ not w.waiting ∷ []
