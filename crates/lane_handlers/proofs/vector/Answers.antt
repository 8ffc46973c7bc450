use Prim.Native.Nat.{ℕ, ◌%◌}
use mathlib.Core.List.{List}
use mathlib.Core.Bool.{Bool}
use mathlib.Core.Path.{◌≡◌, ◌∙◌, refl, sym, ap}
use native.Mathlib.Omega.{arith}
use Rattle.word.specs.declared.Op.{Op}
use Rattle.isa.specs.declared.Instr.{Instr}
use Rattle.isa.specs.declared.VReg.{VReg}
use Rattle.isa.specs.Fields.{fields_of, is_masked}
use Rattle.isa.specs.Masked.{over_mask}
use Rattle.isa.specs.Prefix.{on_source, on_fields}
use Rattle.isa.specs.Wide.{numbers_in, vd_in, vs2_in}
use Rattle.isa.specs.Kinds.{op_limit, lane_op_word, source_in}
use Rattle.isa.specs.Number.{op_at}
use Rattle.lanes.specs.declared.Lane.{Lane}
use Rattle.lanes.specs.declared.Operand.{Operand}
use Rattle.lanes.specs.Lanes.{op_lane, written_lanes, write_lanes}
use Rattle.lanes.specs.Mask.{bit}
use Rattle.layout.specs.Words.{mask_in, fixed_in, warp_of}
use Rattle.definition.specs.Exec.{effect_of}
use Rattle.definition.specs.Refuse.{refusals_of}
use Rattle.definition.specs.State.{state}
use Rattle.definition.proofs.Immediate.{shift_operand}
use Rattle.handlers.specs.Handles.{lists}
use Rattle.handlers.proofs.Laws.{refused, file_written}
use Rattle.lane_handlers.proofs.Laws.{lanes_fit, by_mask, mask_fits, mask_refuses, mask_passes}
use Rattle.lane_handlers.proofs.vector.Goals as goal
use Rattle.lane_handlers.proofs.vector.Goals.{in-Reg, in-Word}

-- the word's instruction
abbrev word : ℕ → ℕ → Instr
word kind w = on_fields (numbers_in w) (lane_op_word (op_at (kind % op_limit)) (fields_of w))

-- the code's test of its destination
tested : (kind w : ℕ) (o : Op) (r : Bool) → o ≡ op_at (kind % op_limit) → r ≡ over_mask (on_fields (numbers_in w) (lane_op_word o (fields_of w))) → over_mask (word kind w) ≡ r
tested kind w o r e h = sym (h ∙ ap (λ (p : Op). over_mask (on_fields (numbers_in w) (lane_op_word p (fields_of w)))) e)

told : (n : ℕ) (on : Lane → Bool) (d : VReg) (o o' : Op) (v : List ℕ) (a a' : VReg) (b b' : Operand) → o ≡ o' → a ≡ a' → b ≡ b'
    → write_lanes n on d (op_lane o v a b) v ≡ write_lanes n on d (op_lane o' v a' b') v
told n on d o o' v a a' b b' r s t = rw (r, s, t)

pub returns-then-over_mask : goal.returns-then-over_mask
unfolding warp_of refusals_of
returns-then-over_mask c =
    let a = c.args in
    λ r d n. refused (word a.kind a.w) 6 (lists a.g.now a.h.now a.x.now r a.v.now d) (λ z. omega arith) c.requires.long n
    (mask_refuses _ (tested a.kind a.w _ _ c.op_at-op.ensures c.over_mask.ensures ∙ c.if-over_mask.true))

pub op_lanes-requires : goal.op_lanes-requires
op_lanes-requires c =
    let lent = c.requires.at in
    let n = c.threads-n.ensures in
    (lent.file, c.vd-d.ensures.1, c.vs2-a.ensures.1, rw c.in-Reg.is at c.operand-b.ensures.0, (lanes_fit lent n).0, mask_fits _ _ _ _ n c.written-mask.ensures)

pub op_lanes-requires-in-Word : goal.op_lanes-requires-in-Word
op_lanes-requires-in-Word c =
    let lent = c.requires.at in
    let n = c.threads-n.ensures in
    (lent.file, c.vd-d.ensures.1, c.vs2-a.ensures.1, rw c.in-Word.is at c.operand-b.ensures.0, (lanes_fit lent n).0, mask_fits _ _ _ _ n c.written-mask.ensures)

pub returns : goal.returns
unfolding warp_of effect_of refusals_of
returns c =
    let a = c.args in
    let f = fields_of a.w in
    let on : Lane → Bool = written_lanes (is_masked f) a.v.now (mask_in a.h.now) in
    let file : Operand → List ℕ = λ b. write_lanes c.threads-n.result (bit c.written-mask.result) c.vd-d.result (op_lane c.op_at-op.result a.v.now c.vs2-a.result b) a.v.now in
    let given : c.match-b.v ≡ file c.operand-b.result =
    elim c.match-b.branch [
      | in-Reg w ↦ w.v-is ∙ w.op_lanes.ensures ∙ ap file (sym w.in-Reg.is)
      | in-Word w ↦ w.v-is ∙ w.op_lanes-in-Word.ensures ∙ ap file (sym w.in-Word.is)
    ] in
    λ r d n.
    file_written (word a.kind a.w) a.g.now a.h.now a.x.now r a.v.now d _ c.requires.long n c.next.ensures
    (mask_passes _ (tested a.kind a.w _ _ c.op_at-op.ensures c.over_mask.ensures ∙ c.if-over_mask.false)) on _ _ _ refl
    (given
    ∙ told _ _ _ _ _ a.v.now _ _ _ _ c.op_at-op.ensures c.vs2-a.ensures.0 (c.operand-b.ensures.1 a.g.now a.h.now r a.v.now d)
    ∙ by_mask on _ _ _ _ _ _ a.v.now c.threads-n.ensures c.written-mask.ensures c.vd-d.ensures.0
    ∙ ap (λ (e : Lane → ℕ). write_lanes (fixed_in a.g.now).numt on (vd_in a.w) e a.v.now)
    (shift_operand (op_at (a.kind % op_limit)) a.v.now (vs2_in a.w) (on_source (numbers_in a.w) (source_in f)) (state (warp_of a.g.now a.h.now a.x.now r) a.v.now d)))
