-- The promises on lanes at steps that are taken, by lanes 0 and 2 of 4.
use Prim.Native.Nat.{ℕ, zero, suc, ◌+◌, ◌*◌, ◌%◌, ◌≤◌, ◌<◌}
use mathlib.Core.Path.{◌≡◌, refl, sym, ap}
use mathlib.Core.Bool.{true, false, true≢false}
use mathlib.Core.List.{List, [], ◌∷◌}
use mathlib.Core.Logic.{inl, inr, ⊎_elim}
use native.Mathlib.Omega.{arith}
use lib.Dec.{lit≤}
use lib.ListN.{get_or, length-set, replicate, set}
use lib.Seq.{get_or-set_other}
use borrow.Author.Tests.{eqb-false, not-true}
use Rattle.isa.specs.Fields.{x}
use Rattle.answer.specs.Rows.{Iff}
use Rattle.isa.specs.declared.Instr.TheVariants as I
use Rattle.isa.specs.declared.Space.TheVariants.{Plain}
use Rattle.isa.specs.declared.StoreOp.TheVariants as S
use Rattle.isa.specs.declared.VReg.{VReg}
use Rattle.lanes.specs.declared.Lane.{Lane}
use Rattle.lanes.specs.Mask.{lane}
use Rattle.lanes.specs.Lanes.{lanes_max, file_words, slot_of, lane_of, write_lanes, value_of}
use Rattle.memory.specs.Memory.{Has}
use Rattle.memory.specs.Memories.{Data, Local, contents, alone}
use Rattle.warp.specs.WellFormed.{well_formed_of}
use Rattle.definition.specs.State.{State, state, active, memory_of, lane_at, instr_at}
use Rattle.definition.specs.Refuse.{mixed}
use Rattle.definition.specs.Step.{step_of}
use Rattle.definition.specs.Calls.{launched_of}
use Rattle.definition.proofs.Computes.{computes}
use Rattle.traces.specs.Bound.{launch_on}
use Rattle.promises.specs.Lanes.{is_active, SameLane, Agree, all_but, with_file, Alike, Touches}
use Rattle.promises.specs.Lanes as L
use Rattle.promises.specs.Masked as M
use Rattle.promises.specs.Masked.{WritesMask}
use Rattle.promises.specs.Written.{Becomes, LaneLeft}
use Rattle.promises.specs.Clashes.{Agreeing, ByLanes, In, in_order}
use Rattle.promises.specs.Private.{Reaches}
use Rattle.promises.specs.Private as P
use Rattle.promises.proofs.Stores.{active_below}
use Rattle.promises.proofs.Written.{written, lane_words, one_value, move_shares}
use Rattle.promises.proofs.Masked.{masked_off_kept, is_compare_lem, mask_tests}
use Rattle.promises.proofs.Clashes.{clashes, clashes_last, only_lanes_clash, any_order}
use Rattle.promises.proofs.Private.{steps_apart}
use Rattle.promises.proofs.Lanes.{active_mask, kept, unwritten, all_but_lem, unseen, unfelt, lane_alone}

abbrev vreg : ℕ → VReg
vreg r = record { 0 = r }

-- VSB12 v2, 0(v1); VID.V v3; VMV.V.V v3, v1
abbrev storing : List ℕ
storing = 0x0020f07b ∷ []

abbrev numbering : List ℕ
numbering = 0x5208a1d7 ∷ []

abbrev moving : List ℕ
moving = 0x5e0081d7 ∷ []

-- 4 lanes, of which 0 and 2 were launched; v1 = 0, 2, 4, 6, v2 all 7; 8 bytes of data
unfoldable start : State
start =
    state (launched_of (launch_on 4 0b0101)) (write_lanes 4 (λ l. true) (vreg 2) (λ l. 7) (write_lanes 4 (λ l. true) (vreg 1) (λ l. 2 * l.0) (replicate file_words 0)))
    (alone (replicate 8 0))

-- v1's word in lane h changed to x
abbrev changed : Lane → ℕ → List ℕ
changed h x = set start.vector (slot_of (vreg 1) h) x

elsewhere : (h : Lane) (x : ℕ) → h.0 < lanes_max → Agree (all_but h) start.vector (changed h x)
elsewhere h x b = (
  sym (length-set start.vector (slot_of (vreg 1) h) x),
  λ l c t r. sym (get_or-set_other start.vector (slot_of (vreg 1) h) (slot_of r l) x 0 (λ e. eqb-false l.0 h.0 (not-true _ t) (omega arith))),
)

-- active_mask: the warp is well formed
formed : well_formed_of start.warp ≡ true
unfolding computes start
formed = refl

in_mask : (l : Lane) → is_active start l ≡ active start l
in_mask = active_mask start formed

-- kept: VID.V writes lane 2; lane 1 is not active, nor is lane 4, which the warp does not have
numbered : lane_of (step_of numbering start).left.vector (vreg 3) (lane 2) ≡ 2
unfolding computes start
numbered = refl

idle : is_active start (lane 1) ≡ false
unfolding computes start
idle = refl

idle_kept : SameLane (lane 1) (step_of numbering start).left.vector start.vector
idle_kept = kept numbering start (lane 1) (lit≤ tt) idle

beyond_kept : SameLane (lane 4) (step_of numbering start).left.vector start.vector
unfolding start
beyond_kept = kept numbering start (lane 4) (lit≤ tt) refl

-- unwritten: VSB12 stores for lanes 0 and 2; byte 2, at lane 1's address, stays
stored : (step_of storing start).left.bytes ≡ alone (7 ∷ 0 ∷ 0 ∷ 0 ∷ 7 ∷ 0 ∷ 0 ∷ 0 ∷ [])
unfolding computes start
stored = refl

touched : Touches start 4 (instr_at storing start)
unfolding computes start
touched = L.lane Plain S.B (vreg 1) (vreg 2) 0 (lane 2) refl (lit≤ tt, lit≤ tt)

not_two : (l : ℕ) → is_active start (lane l) ≡ true → Has 1 (lane_at Plain (vreg 1) 0 start (lane l)) 2 → ⊥
unfolding computes start
not_two zero a h = let b : 2 < 1 = h.1 in omega arith
not_two (suc zero) a h = true≢false (sym a)
not_two (suc (suc zero)) a h = let b : 4 ≤ 2 = h.0 in omega arith
not_two (suc (suc (suc zero))) a h = true≢false (sym a)
not_two (suc (suc (suc (suc l)))) a h = omega (arith, (active_below start (lane (suc (suc (suc (suc l))))) a).0)

untouched : Touches start 2 (instr_at storing start) → ⊥
unfolding computes start
untouched (L.lane s k x y n l a h) = not_two l.0 a h

stays : get_or (step_of storing start).left.bytes.data_bytes 2 0 ≡ 0
unfolding start
stays = (unwritten storing start Data).1 2 (lit≤ tt) untouched

-- 4 lanes at address 0 of n bytes, of which 0 and 2 are active, with the words f in v2
abbrev all_at_zero : ℕ → (Lane → ℕ) → State
all_at_zero n f = state (launched_of (launch_on 4 0b0101)) (write_lanes 4 (λ l. true) (vreg 2) f (replicate file_words 0)) (alone (replicate n 0))

-- written: lanes 0 and 2 store 12, which lanes 1 and 3, with 13, would not
unfoldable together : State
together = all_at_zero 8 (λ l. 12 + l.0 % 2)

accepted : (step_of storing together).code ≡ 0
unfolding computes together
accepted = refl

byte_of : Becomes together 0 0 12 (instr_at storing together)
unfolding computes together
byte_of = written storing together accepted Data 0 (lit≤ tt)

-- any_order: lane 2 before lane 0
is_storing : instr_at storing together ≡ I.VStore Plain S.B (vreg 1) (vreg 2) 0
unfolding computes together
is_storing = refl

two_first : (l : Lane) → Iff (In l (lane 2 ∷ lane 0 ∷ [])) (is_active together l ≡ true)
unfolding computes together
two_first l = (⊎_elim (λ e. ap (is_active together) e) (λ n. ⊎_elim (λ e. ap (is_active together) e) (λ z. absurd z) n), λ a. by l.0 a)
  where
    by : (l : ℕ) → is_active together (lane l) ≡ true → In (lane l) (lane 2 ∷ lane 0 ∷ [])
    by zero a = inr (inl refl)
    by (suc zero) a = absurd (true≢false (sym a))
    by (suc (suc zero)) a = inl refl
    by (suc (suc (suc zero))) a = absurd (true≢false (sym a))
    by (suc (suc (suc (suc l)))) a = absurd (omega (arith, (active_below together (lane (suc (suc (suc (suc l))))) a).0))

in_that_order : (step_of storing together).left.bytes
    ≡ in_order (lane 2 ∷ lane 0 ∷ []) S.B (lane_at Plain (vreg 1) 0 together) (lane_of together.vector (vreg 2)) (memory_of together)
in_that_order = any_order storing together Plain S.B (vreg 1) (vreg 2) 0 is_storing accepted (lane 2 ∷ lane 0 ∷ []) two_first

-- clashes: lanes 0 and 2 store 10 and 12
unfoldable racing : State
racing = all_at_zero 8 (λ l. 10 + l.0)

clash : (step_of storing racing).code ≡ 15
unfolding computes racing
clash = refl

not_agreeing : Agreeing racing Plain S.B (vreg 1) (vreg 2) 0 → ⊥
unfolding computes racing
not_agreeing = (clashes storing racing Plain S.B (vreg 1) (vreg 2) 0 refl refl).refused.0 refl

by_lanes_lem : ByLanes (instr_at storing racing)
by_lanes_lem = only_lanes_clash storing racing clash

-- clashes_last: with no byte of data the same lanes are outside, and that is said first
unfoldable nowhere : State
nowhere = all_at_zero 0 (λ l. 10 + l.0)

outside_first : (step_of storing nowhere).code ≡ 9
unfolding computes nowhere
outside_first =
    clashes_last storing nowhere Plain S.B (vreg 1) (vreg 2) 0 refl (λ z.
    let y : 9 ≡ 0 = z in
    omega arith)

-- the same in a local memory at address 0, the data memory having no bytes; were both there, they would overlap
near : List ℕ → State
near d = state together.warp together.vector (contents d (replicate 8 0))

near_byte : Becomes (near []) 0 0 12 (instr_at storing (near []))
unfolding computes together near
near_byte = written storing (near []) refl Local 0 (lit≤ tt)

overlapping : (step_of storing (near (0 ∷ []))).code ≡ 1
unfolding computes together near
overlapping = refl

-- steps_apart: the private VSB v2, 0(v1), with all places 0. Lane 0's byte is at 0, which lane 2's access can't have: its byte is at 8
abbrev privately : List ℕ
privately = 0x0020f02b ∷ []

unfoldable side_by_side : State
side_by_side =
    state (launched_of (launch_on 4 0b0101)) (write_lanes 4 (λ l. true) (vreg 2) (λ l. 10 + l.0) (replicate file_words 0)) (alone (replicate 12 0))

own_bytes_lem : (step_of privately side_by_side).left.bytes ≡ alone (10 ∷ 0 ∷ 0 ∷ 0 ∷ 0 ∷ 0 ∷ 0 ∷ 0 ∷ 12 ∷ 0 ∷ 0 ∷ 0 ∷ [])
unfolding computes side_by_side
own_bytes_lem = refl

own : Reaches side_by_side (lane 0) 0 (instr_at privately side_by_side) 1 0
unfolding computes side_by_side
own = P.stores S.B (vreg 1) (vreg 2) 0 (lit≤ tt, lit≤ tt)

not_shared : Reaches side_by_side (lane 2) 0 (instr_at privately side_by_side) 1 0 → ⊥
unfolding computes side_by_side
not_shared r =
    steps_apart privately privately side_by_side side_by_side refl refl refl (lane 0) (lane 2) refl refl (λ e. let z : 0 ≡ 2 = ap (λ (l : Lane). l.0) e in omega arith) 0 1 0 1 0 own r (lit≤ tt) (lit≤ tt)

-- lane_words: VID.V gives lane 2 of v3 its number, and v1 keeps its word there
two_left : LaneLeft start (instr_at numbering start) (lane 2) (step_of numbering start).left.vector
unfolding computes start
two_left = lane_words numbering start refl (lane 2) refl

-- mask_tests: VADD.VI v3, v2, 1, v0.t; in v0 are lanes 0 and 1, and lane 1 isn't active. To v0 it is refused with 6
abbrev masked_add : List ℕ
masked_add = 0x0020b1d7 ∷ []

unfoldable marking : State
marking = with_file (set (set start.vector 0 1) 1 1) start

not_v0 : WritesMask (instr_at masked_add marking) → ⊥
unfolding computes start marking
not_v0 (M.operation o a t n z) =
    let y : (vreg 3).0 ≡ 0 = ap (λ (r : VReg). r.0) z in
    omega arith

masked_taken : (step_of masked_add marking).code ≡ 0
unfolding computes start marking
masked_taken = (mask_tests masked_add marking (M.operation _ _) refl).taken.1 not_v0

masked_refused : (step_of (0x0020b057 ∷ []) marking).code ≡ 6
unfolding computes start marking
masked_refused = (mask_tests (0x0020b057 ∷ []) marking (M.operation _ _) refl).refused.1 (M.operation _ _ refl (λ c. true≢false (sym (is_compare_lem c))) refl)

-- masked_off_kept: lane 0 has its sum, lane 2, which is active, keeps all its words, and so does lane 1, by `kept`
v0_written : lane_of (step_of masked_add marking).left.vector (vreg 3) (lane 0) ≡ 8
unfolding computes start marking
v0_written = refl

two_kept : SameLane (lane 2) (step_of masked_add marking).left.vector marking.vector
unfolding computes start marking
two_kept =
    masked_off_kept masked_add marking (M.operation _ _ refl) (lane 2) (lit≤ tt) (λ e.
    let z : 0 ≡ 1 = e in
    omega arith)

one_kept : SameLane (lane 1) (step_of masked_add marking).left.vector marking.vector
unfolding computes start marking
one_kept = kept masked_add marking (lane 1) (lit≤ tt) refl

-- unfelt: lane 1, which isn't active, with another word in v0
v0_elsewhere : Agree (all_but (lane 1)) marking.vector (set marking.vector 1 0)
v0_elsewhere = (
  sym (length-set marking.vector 1 0),
  λ l c t r. sym (get_or-set_other marking.vector 1 (slot_of r l) 0 0 (λ e. eqb-false l.0 1 (not-true _ t) (omega arith))),
)

unfelt_v0 : Alike (all_but (lane 1)) (step_of masked_add marking) (step_of masked_add (with_file (set marking.vector 1 0) marking))
unfolding computes start marking
unfelt_v0 = unfelt masked_add marking (set marking.vector 1 0) (lane 1) refl v0_elsewhere

-- one_value: the active lanes of v2 hold 7
shared : mixed (lane_of start.vector (vreg 2)) start ≡ false
unfolding computes start
shared = refl

seven : value_of 4 (active start) (lane_of start.vector (vreg 2)) ≡ 7
unfolding computes start
seven = (one_value start (lane_of start.vector (vreg 2))).value shared (lane 2) refl

-- move_shares: VMV.X.S x5, v2
moved_seven : get_or (step_of (0x422022d7 ∷ []) start).left.warp.x 5 0 ≡ 7
unfolding computes start
moved_seven = (move_shares (0x422022d7 ∷ []) start (x 5) (vreg 2) refl).value refl (λ e. omega arith) (lit≤ tt) (lane 2) refl

-- unseen, unfelt: lane 1's address outside the data
unseen_there : Alike (is_active start) (step_of storing start) (step_of storing (with_file (changed (lane 1) 100) start))
unseen_there = unseen storing start (changed (lane 1) 100) ((elsewhere (lane 1) 100 (lit≤ tt)).0, λ l h a. (elsewhere (lane 1) 100 (lit≤ tt)).1 l h (all_but_lem start (lane 1) idle l a))

unfelt_there : Alike (all_but (lane 1)) (step_of storing start) (step_of storing (with_file (changed (lane 1) 100) start))
unfelt_there = unfelt storing start (changed (lane 1) 100) (lane 1) idle (elsewhere (lane 1) 100 (lit≤ tt))

-- lane_alone: VMV.V.V moves another word in lane 2, and the same in lane 0
answers : (step_of moving start).code ≡ (step_of moving (with_file (changed (lane 2) 100) start)).code
unfolding computes start
answers = refl

moved : lane_of (step_of moving (with_file (changed (lane 2) 100) start)).left.vector (vreg 3) (lane 2) ≡ 100
unfolding computes start
moved = refl

alone_there : SameLane (lane 0) (step_of moving start).left.vector (step_of moving (with_file (changed (lane 2) 100) start)).left.vector
alone_there = lane_alone moving start (changed (lane 2) 100) (elsewhere (lane 2) 100 (lit≤ tt)).0 answers (lane 0) (lit≤ tt) ((elsewhere (lane 2) 100 (lit≤ tt)).1 (lane 0) (lit≤ tt) refl)
