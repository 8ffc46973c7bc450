-- Two allowed results of a call on warps are equal: the contract sees all of one but the warps past the count, which are kept.
use Prim.Native.Nat.{ℕ}
use mathlib.Core.Path.{◌≡◌, refl, sym, ◌∙◌, ap, ap₂}
use mathlib.Core.List.{List, ◌++◌}
use lib.ListN.{take, drop, take-append-drop}
use Rattle.std.specs.Prelude.{Result}
use Rattle.answer.specs.declared.Refusal.{Refusal}
use Rattle.answer.proofs.Numbers.{number_one}
use Rattle.memory.specs.Memories.{Contents}
use Rattle.warp.specs.declared.Warp.{Warp}
use Rattle.group.specs.Group as G
use Rattle.group.specs.GroupCalls.{GroupOutcome, GroupRan, group_step_of}
use Rattle.group_machine.specs.declared.Group.{Group}
use Rattle.group_machine.specs.Held.{held, Kept}
use Rattle.promises.proofs.Determined.{determined_whole}
use Rattle.group_call_promises.specs.WarpCalls.{row_seen, HeldStepDetermined, HeldRunDetermined, RowStepDetermined}

-- a kept group's warps: those of its first ones that the contract sees, and the others as they were
kept_warps : (g a : Group) → Kept g a → a.warps ≡ take a.count a.warps ++ drop g.count g.warps
kept_warps g a p = sym (take-append-drop a.count a.warps) ∙ ap (λ (l : List Warp). take a.count a.warps ++ l) (rw p.count p.rest)

kept_one : (g a b : Group) (v u : List ℕ) (c d : Contents) → Kept g a → Kept g b → held a v c ≡ held b u d → a ≡ b
kept_one g a b v u c d p q e =
    let w : a.warps ≡ b.warps = kept_warps g a p ∙ ap (λ (m : G.Group). m.warps ++ drop g.count g.warps) e ∙ sym (kept_warps g b q) in
    let n : a.count ≡ b.count = p.count ∙ sym q.count in
    ap₂ (λ (ws : List Warp) (m : ℕ). record { warps = ws; count = m; turn = a.turn }) w n ∙ ap (λ (m : G.Group). record { warps = b.warps; count = b.count; turn = m.turn }) e

pub held_step_determined : HeldStepDetermined
held_step_determined k g v c r t a b =
    let e = a.is ∙ sym b.is in
    let n : r.result.answer ≡ t.result.answer = number_one tt _ _ (ap (λ (o : GroupOutcome). o.code) e) refl in
    let h : r.result.group ≡ t.result.group = kept_one g _ _ _ _ _ _ a.kept b.kept (ap (λ (o : GroupOutcome). o.left) e) in
    ap₂ (λ (x : Result Unit Refusal) (y : Group). record { result = record { answer = x; stopped = r.result.stopped; group = y }; vector = r.vector; bytes = r.bytes }) n h
    ∙ ap (λ (o : GroupOutcome). record { result = record { answer = t.result.answer; stopped = o.stopped; group = t.result.group }; vector = o.left.vector; bytes = o.left.bytes }) e

pub held_run_determined : HeldRunDetermined
held_run_determined k d g v c r t a b =
    let e = a.is ∙ sym b.is in
    let n : r.result.answer ≡ t.result.answer = number_one tt _ _ (ap (λ (o : GroupRan). o.ends.code) e) refl in
    let h : r.result.group ≡ t.result.group = kept_one g _ _ _ _ _ _ a.kept b.kept (ap (λ (o : GroupRan). o.ends.left) e) in
    ap₂ (λ (x : Result Unit Refusal) (y : Group). record { result = record { answer = x; stopped = r.result.stopped; steps = r.result.steps; group = y }; vector = r.vector; bytes = r.bytes }) n h
    ∙ ap (λ (o : GroupRan). record { result = record { answer = t.result.answer; stopped = o.ends.stopped; steps = o.steps; group = t.result.group }; vector = o.ends.left.vector; bytes = o.ends.left.bytes }) e

pub row_step_determined : RowStepDetermined
row_step_determined k =
    determined_whole row_seen (group_step_of k)
    (λ r t e. ap (λ (o : GroupOutcome). record { result = record { code = o.code; stopped = o.stopped; turn = o.left.turn }; warps = o.left.warps; vector = o.left.vector; bytes = o.left.bytes }) e)
