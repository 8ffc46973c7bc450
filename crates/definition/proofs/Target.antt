-- What an instruction may overwrite besides the words that every instruction may (PC, mask, depth, RPC, PRINT, ended, waiting, the pending prefix): one place, named here.
use Prim.Native.Nat.{ℕ, ◌+◌, ◌-◌, ◌≤◌, ◌<◌}
use mathlib.Core.Path.{◌≡◌, refl, ◌∙◌, ap}
use mathlib.Core.Bool.{Bool, true}
use mathlib.Core.List.{List}
use native.Mathlib.Omega.{arith}
use lib.Dec.{eqb, lit≤}
use lib.ListN.{length, get_or, set, length-set}
use lib.Seq.{get_or-set_other}
use Rattle.word.specs.Word.{holds_of}
use Rattle.isa.specs.declared.Instr.{Instr}
use Rattle.isa.specs.declared.Instr.TheVariants as I
use Rattle.isa.specs.declared.CsrOp.{CsrOp}
use Rattle.isa.specs.declared.StoreOp.{StoreOp}
use Rattle.isa.specs.declared.StoreOp.TheVariants as S
use Rattle.isa.specs.declared.XReg.{XReg}
use Rattle.isa.specs.declared.VReg.{VReg}
use Rattle.lanes.specs.declared.Lane.{Lane}
use Rattle.lanes.specs.Mask.{lane}
use Rattle.lanes.specs.Lanes.{lanes_max, slot_of}
use Rattle.lanes.proofs.Laws.{write_length, write_other}
use Rattle.memory.specs.Memory.{width_of, index_in}
use Rattle.memory.specs.Memories.{Region, Contents, Memories, bytes_at, memory_at, region_of, store_to}
use Rattle.memory.specs.LaneAccess.{store_lanes}
use Rattle.memory.proofs.Laws.{Same, store_same, to_unwritten, lanes_same, lanes_unwritten}
use Rattle.warp.specs.declared.Split.{Split}
use Rattle.warp.specs.declared.Warp.{Warp}
use Rattle.warp.specs.Warp.{zero_split, set_x, write_x, next}
use Rattle.warp.specs.Splits.{open_of, parted, last_split, join_of, set_rpc_of}
use Rattle.warp.proofs.SplitLaws.{by_cond}
use Rattle.warp.specs.Csr.{is_print, writes_of, csr_at, csr_done}
use Rattle.definition.specs.State.{State, fixed_of, active, written, x_of, memory_of, scalar_at, lane_at}
use Rattle.definition.specs.Exec.{goes, writes, stores, effect, effect_of}

-- nothing; a scalar register; a split record; a register's words in the lanes that `on` picks; of each lane l below n that `on` picks, `width` bytes at the address `at l` of the memories
pub data Target : Type 0 where
  nothing : Target
  scalar : XReg → Target
  split : ℕ → Target
  lanes : (Lane → Bool) → VReg → Target
  bytes : ℕ → (Lane → Bool) → Memories → ℕ → (Lane → ℕ) → Target

unfoldable pub target_of : Instr → State → Target
target_of I.Refused m = nothing
target_of (I.Lui r n) m = scalar r
target_of (I.Auipc r n) m = scalar r
target_of (I.Jal r n) m = scalar r
target_of (I.Jalr r a n) m = scalar r
target_of (I.Branch c a b n) m = nothing
target_of (I.Load k r a n) m = scalar r
target_of (I.Store k a b n) m = bytes 1 (λ l. true) (memory_of m) (width_of k) (λ l. scalar_at a n m)
target_of (I.OpImm o r a n) m = scalar r
target_of (I.OpReg o r a b) m = scalar r
target_of (I.Fence r a n) m = nothing
target_of (I.Csr o r a n) m = scalar r
target_of (I.CsrImm o r i n) m = scalar r
target_of (I.Vector o a) m = lanes (written a.masked m) a.vd
target_of (I.VMove r s) m = lanes (active m) r
target_of (I.VMerge r b s) m = lanes (active m) r
target_of (I.VMoveXS r b) m = scalar r
target_of (I.VMoveSX r a) m = lanes (active m) r
target_of (I.Vid t r) m = lanes (written t m) r
target_of (I.VBranch c a b n) m = split m.warp.depth
target_of I.Join m = split (m.warp.depth - 1)
target_of (I.SetRpc r a n) m = scalar r
target_of I.EndPrg m = nothing
target_of (I.Barrier n) m = nothing
target_of (I.VLoad s k r a n) m = lanes (active m) r
target_of (I.VStore s k a b n) m = bytes (fixed_of m).numt (active m) (memory_of m) (width_of k) (lane_at s a n m)
target_of (I.RegExt n) m = nothing
target_of (I.RegExtI n) m = nothing

-- the target spares scalar register i, split record i, word i of the vector file (of n lanes), byte i of the region r
abbrev pub SparesX : Target → ℕ → Type 0
SparesX (scalar r) i = i ≡ r.0 → ⊥
SparesX nothing i = Unit {0}
SparesX (split j) i = Unit {0}
SparesX (lanes on r) i = Unit {0}
SparesX (bytes n on m width at) i = Unit {0}

abbrev pub SparesSplit : Target → ℕ → Type 0
SparesSplit (split j) i = i ≡ j → ⊥
SparesSplit nothing i = Unit {0}
SparesSplit (scalar r) i = Unit {0}
SparesSplit (lanes on r) i = Unit {0}
SparesSplit (bytes n on m width at) i = Unit {0}

abbrev pub SparesWord : ℕ → Target → ℕ → Type 0
SparesWord n (lanes on r) i = (l : Lane) → l.0 < n → on l ≡ true → i ≡ slot_of r l → ⊥
SparesWord n nothing i = Unit {0}
SparesWord n (scalar r) i = Unit {0}
SparesWord n (split j) i = Unit {0}
SparesWord n (bytes k on m width at) i = Unit {0}

abbrev pub SparesByte : Target → Region → ℕ → Type 0
SparesByte (bytes n on m width at) r i = (l : Lane) → l.0 < n → on l ≡ true → region_of m width (at l) ≡ r → index_in (memory_at r m) (at l) ≤ i → i < index_in (memory_at r m) (at l) + width → ⊥
SparesByte nothing r i = Unit {0}
SparesByte (scalar x) r i = Unit {0}
SparesByte (split j) r i = Unit {0}
SparesByte (lanes on v) r i = Unit {0}

-- from m to n nothing outside the target t changes, and no list its length
pub record Within (m : State) (t : Target) (n : State) : Type 0 where
  pub x : (i : ℕ) → SparesX t i → get_or n.warp.x i 0 ≡ get_or m.warp.x i 0
  pub splits : (i : ℕ) → SparesSplit t i → get_or n.warp.splits i zero_split ≡ get_or m.warp.splits i zero_split
  pub vector : (i : ℕ) → SparesWord (fixed_of m).numt t i → get_or n.vector i 0 ≡ get_or m.vector i 0
  pub memory : (r : Region) (i : ℕ) → SparesByte t r i → get_or (bytes_at r n.bytes) i 0 ≡ get_or (bytes_at r m.bytes) i 0
  pub fixed : n.warp.fixed ≡ m.warp.fixed
  pub scalars : length n.warp.x ≡ length m.warp.x
  pub records : length n.warp.splits ≡ length m.warp.splits
  pub words : length n.vector ≡ length m.vector
  pub size : Same n.bytes m.bytes

put_other : (r : XReg) (y : ℕ) (x : List ℕ) (i : ℕ) → (i ≡ r.0 → ⊥) → get_or (set_x r y x) i 0 ≡ get_or x i 0
put_other r y x i n = by_cond (λ (l : List ℕ). get_or l i 0 ≡ get_or x i 0) (eqb r.0 0) _ _ (λ e. refl) (λ e. get_or-set_other x r.0 i y 0 n)

put_length : (r : XReg) (y : ℕ) (x : List ℕ) → length (set_x r y x) ≡ length x
put_length r y x = by_cond (λ (l : List ℕ). length l ≡ length x) (eqb r.0 0) _ _ (λ e. refl) (λ e. length-set x r.0 y)

module _ (m : State) where
  -- a warp that has the old registers and records
  leaves : (t : Target) (u : Warp) → u.x ≡ m.warp.x → u.splits ≡ m.warp.splits → u.fixed ≡ m.warp.fixed → Within m t (effect (goes u) m)
  leaves t u p q f =
      record {
        x = λ i h. ap (λ (l : List ℕ). get_or l i 0) p;
        splits = λ i h. ap (λ (l : List Split). get_or l i zero_split) q;
        vector = λ i h. refl;
        memory = λ r i h. refl;
        fixed = f;
        scalars = ap length p;
        records = ap length q;
        words = refl;
        size = λ r. refl;
      }

  puts : (r : XReg) (y : ℕ) (u : Warp) → u.x ≡ set_x r y m.warp.x → u.splits ≡ m.warp.splits → u.fixed ≡ m.warp.fixed → Within m (scalar r) (effect (goes u) m)
  puts r y u p q f =
      record {
        x = λ i h. ap (λ (l : List ℕ). get_or l i 0) p ∙ put_other r y m.warp.x i h;
        splits = λ i h. ap (λ (l : List Split). get_or l i zero_split) q;
        vector = λ i h. refl;
        memory = λ r i h. refl;
        fixed = f;
        scalars = ap length p ∙ put_length r y m.warp.x;
        records = ap length q;
        words = refl;
        size = λ r. refl;
      }

  records_at : (j : ℕ) (s : Split) (u : Warp) → u.x ≡ m.warp.x → u.splits ≡ set m.warp.splits j s → u.fixed ≡ m.warp.fixed → Within m (split j) (effect (goes u) m)
  records_at j s u p q f =
      record {
        x = λ i h. ap (λ (l : List ℕ). get_or l i 0) p;
        splits = λ i h. ap (λ (l : List Split). get_or l i zero_split) q ∙ get_or-set_other m.warp.splits j i s zero_split h;
        vector = λ i h. refl;
        memory = λ r i h. refl;
        fixed = f;
        scalars = ap length p;
        records = ap length q ∙ length-set m.warp.splits j s;
        words = refl;
        size = λ r. refl;
      }

  fills : (on : Lane → Bool) (r : VReg) (f : Lane → ℕ) → Within m (lanes on r) (effect (writes on r f) m)
  fills on r f =
      record {
        x = λ i h. refl;
        splits = λ i h. refl;
        vector = λ i h. write_other on r f m.vector (fixed_of m).numt i h;
        memory = λ r i h. refl;
        fixed = refl;
        scalars = refl;
        records = refl;
        words = write_length on r f m.vector (fixed_of m).numt;
        size = λ r. refl;
      }

  kept : (t : Target) (e : Contents) → ((r : Region) (i : ℕ) → SparesByte t r i → get_or (bytes_at r e) i 0 ≡ get_or (bytes_at r m.bytes) i 0) → Same e m.bytes → Within m t (effect (stores e) m)
  kept t e o s =
      record { x = λ i h. refl; splits = λ i h. refl; vector = λ i h. refl; memory = o; fixed = refl; scalars = refl; records = refl; words = refl; size = s }

  stored : (k : StoreOp) (a y : ℕ) → Within m (bytes 1 (λ l. true) (memory_of m) (width_of k) (λ l. a)) (effect (stores (store_to k a y (memory_of m))) m)
  stored k a y = kept _ _ (λ r i h. to_unwritten k a y (memory_of m) r i (h (lane 0) (omega arith) refl)) (store_same k a y (memory_of m))

  lane_stored : (on : Lane → Bool) (k : StoreOp) (at y : Lane → ℕ)
      → Within m (bytes (fixed_of m).numt on (memory_of m) (width_of k) at) (effect (stores (store_lanes (fixed_of m).numt on k at y (memory_of m))) m)
  lane_stored on k at y =
      kept _ _ (lanes_unwritten (fixed_of m).numt on k at y (memory_of m)) (lanes_same (fixed_of m).numt on k at y (memory_of m))

  abbrev G : Target → Warp → Type 0
  G t u = Within m t (effect (goes u) m)

  csr : (o : CsrOp) (n : ℕ) (r : XReg) (rs1 y : ℕ) → G (scalar r) (csr_done o n r rs1 y m.warp)
  unfolding csr_done
  csr o n r rs1 y =
      let old : ℕ = csr_at n m.warp in
      by_cond (λ (u : Warp). G (scalar r) (next (write_x r old u))) (writes_of o rs1) _ _
      (λ e. by_cond (λ (u : Warp). G (scalar r) (next (write_x r old u))) (is_print n) _ _ (λ p. puts r old _ refl refl refl) (λ p. puts r old _ refl refl refl))
      (λ e. puts r old _ refl refl refl)

  vbranch : (e p : ℕ) → G (split m.warp.depth) (parted e p m.warp)
  unfolding parted open_of
  vbranch e p =
      by_cond (G (split m.warp.depth)) (eqb e 0) _ _ (λ z. leaves _ _ refl refl refl)
      (λ z. by_cond (G (split m.warp.depth)) (eqb e m.warp.mask) _ _ (λ q. leaves _ _ refl refl refl) (λ q. records_at _ _ _ refl refl refl))

  joined : G (split (m.warp.depth - 1)) (join_of m.warp)
  unfolding join_of
  joined =
      by_cond (G (split (m.warp.depth - 1))) (eqb m.warp.depth 0) _ _ (λ z. leaves _ _ refl refl refl)
      (λ z. by_cond (G (split (m.warp.depth - 1))) (eqb m.warp.pc (last_split m.warp).rpc) _ _
      (λ q. by_cond (G (split (m.warp.depth - 1))) (last_split m.warp).phaseTwo _ _ (λ s. records_at _ _ _ refl refl refl) (λ s. records_at _ _ _ refl refl refl))
      (λ q. leaves _ _ refl refl refl))

  setrpc : (r a : XReg) (n : ℕ) → G (scalar r) (set_rpc_of r a n m.warp)
  unfolding set_rpc_of
  setrpc r a n = puts r _ _ refl refl refl

  -- Whatever the state, an instruction changes nothing outside its target.
  pub within : (i : Instr) → Within m (target_of i m) (effect (effect_of i m) m)
  unfolding target_of effect_of
  within I.Refused = leaves _ _ refl refl refl
  within (I.Lui r n) = puts r _ _ refl refl refl
  within (I.Auipc r n) = puts r _ _ refl refl refl
  within (I.Jal r n) = puts r _ _ refl refl refl
  within (I.Jalr r a n) = puts r _ _ refl refl refl
  within (I.Branch c a b n) = by_cond (G nothing) (holds_of c (x_of a m) (x_of b m)) _ _ (λ t. leaves _ _ refl refl refl) (λ t. leaves _ _ refl refl refl)
  within (I.Load k r a n) = puts r _ _ refl refl refl
  within (I.Store k a b n) = stored k _ _
  within (I.OpImm o r a n) = puts r _ _ refl refl refl
  within (I.OpReg o r a b) = puts r _ _ refl refl refl
  within (I.Fence r a n) = leaves _ _ refl refl refl
  within (I.Csr o r a n) = csr o n r a.0 _
  within (I.CsrImm o r i n) = csr o n r i i
  within (I.Vector o a) = fills (written a.masked m) a.vd _
  within (I.VMove r s) = fills (active m) r _
  within (I.VMerge r b s) = fills (active m) r _
  within (I.VMoveXS r b) = puts r _ _ refl refl refl
  within (I.VMoveSX r a) = fills (active m) r _
  within (I.Vid t r) = fills (written t m) r _
  within (I.VBranch c a b n) = vbranch _ _
  within I.Join = joined
  within (I.SetRpc r a n) = setrpc r a n
  within I.EndPrg = leaves _ _ refl refl refl
  within (I.Barrier n) = leaves _ _ refl refl refl
  within (I.VLoad s k r a n) = fills (active m) r _
  within (I.VStore s k a b n) = lane_stored (active m) k _ _
  within (I.RegExt n) = leaves _ _ refl refl refl
  within (I.RegExtI n) = leaves _ _ refl refl refl

  pub same : (t : Target) → Within m t m
  same t = leaves t m.warp refl refl refl

-- ---- how much that is

-- at most a store of four bytes by each of the lanes
abbrev pub SmallTarget : Target → Type 0
SmallTarget nothing = Unit {0}
SmallTarget (scalar r) = Unit {0}
SmallTarget (split j) = Unit {0}
SmallTarget (lanes on r) = Unit {0}
SmallTarget (bytes n on m width at) = (n ≤ lanes_max) × (width ≤ 4)

four : (k : StoreOp) → width_of k ≤ 4
four S.B = lit≤ tt
four S.H = lit≤ tt
four S.W = lit≤ tt

pub target_small : (m : State) → (fixed_of m).numt ≤ lanes_max → (i : Instr) → SmallTarget (target_of i m)
unfolding target_of
target_small m h I.Refused = tt
target_small m h (I.Lui r n) = tt
target_small m h (I.Auipc r n) = tt
target_small m h (I.Jal r n) = tt
target_small m h (I.Jalr r a n) = tt
target_small m h (I.Branch c a b n) = tt
target_small m h (I.Load k r a n) = tt
target_small m h (I.Store k a b n) = (lit≤ tt, four k)
target_small m h (I.OpImm o r a n) = tt
target_small m h (I.OpReg o r a b) = tt
target_small m h (I.Fence r a n) = tt
target_small m h (I.Csr o r a n) = tt
target_small m h (I.CsrImm o r i n) = tt
target_small m h (I.Vector o a) = tt
target_small m h (I.VMove r s) = tt
target_small m h (I.VMerge r b s) = tt
target_small m h (I.VMoveXS r b) = tt
target_small m h (I.VMoveSX r a) = tt
target_small m h (I.Vid t r) = tt
target_small m h (I.VBranch c a b n) = tt
target_small m h I.Join = tt
target_small m h (I.SetRpc r a n) = tt
target_small m h I.EndPrg = tt
target_small m h (I.Barrier n) = tt
target_small m h (I.VLoad s k r a n) = tt
target_small m h (I.VStore s k a b n) = (h, four k)
target_small m h (I.RegExt n) = tt
target_small m h (I.RegExtI n) = tt
