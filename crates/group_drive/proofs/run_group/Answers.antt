use mathlib.Core.Path.{◌≡◌, sym, ◌∙◌}
use mathlib.Core.Bool.{true, ◌&&◌}
use native.Mathlib.Omega.{arith}
use Rattle.memory.specs.Memories.{contents}
use Rattle.group.specs.GroupRefuse.{formed_of}
use Rattle.group_words.specs.Row.{group_in, all_sound}
use Rattle.group_drive.proofs.Running.{words_size, words_malformed, words_ready, words_none, words_ended, words_run}
use Rattle.group_drive.proofs.run_group.Goals as goal

pub returns-then-not-sizes_ok : goal.returns-then-not-sizes_ok
returns-then-not-sizes_ok c = rw c.no_step.ensures (words_size _ _ _ _ _ _ c.requires (sym c.sizes_ok.ensures ∙ c.if-not-sizes_ok.true))

pub returns-then-not-group_ok : goal.returns-then-not-group_ok
returns-then-not-group_ok c =
    rw c.no_step-then-not-group_ok.ensures
    (words_malformed _ _ _ _ _ _ c.requires (sym c.sizes_ok.ensures ∙ c.if-not-sizes_ok.false) (sym (c.group_ok.ensures c.args.vector.now (contents c.args.bytes.now c.args.local.now)) ∙ c.if-not-group_ok.true))

pub returns-then-budget-eq0 : goal.returns-then-budget-eq0
returns-then-budget-eq0 c =
    let formed : (all_sound c.args.ws.now && formed_of (group_in c.args.turn c.args.ws.now c.args.vector.now (contents c.args.bytes.now c.args.local.now))) ≡ true = sym (c.group_ok.ensures c.args.vector.now (contents c.args.bytes.now c.args.local.now)) ∙ c.if-not-group_ok.false in
    rw c.no_step-then-budget-eq0.ensures (words_none _ _ _ _ _ _ c.requires (sym c.sizes_ok.ensures ∙ c.if-not-sizes_ok.false) formed c.if-ws-turn.true c.if-budget-eq0.true)

pub returns-then-ws-turn : goal.returns-then-ws-turn
returns-then-ws-turn c =
    let formed : (all_sound c.args.ws.now && formed_of (group_in c.args.turn c.args.ws.now c.args.vector.now (contents c.args.bytes.now c.args.local.now))) ≡ true = sym (c.group_ok.ensures c.args.vector.now (contents c.args.bytes.now c.args.local.now)) ∙ c.if-not-group_ok.false in
    rw c.no_step-then-ws-turn.ensures (words_ended _ _ _ _ _ _ c.requires (sym c.sizes_ok.ensures ∙ c.if-not-sizes_ok.false) formed c.if-ws-turn.true c.if-budget-eq0.false)

pub drive_group-requires : goal.drive_group-requires
drive_group-requires c =
    let formed : (all_sound c.args.ws.now && formed_of (group_in c.args.turn c.args.ws.now c.args.vector.now (contents c.args.bytes.now c.args.local.now))) ≡ true = sym (c.group_ok.ensures c.args.vector.now (contents c.args.bytes.now c.args.local.now)) ∙ c.if-not-group_ok.false in
    (omega (arith, c.if-ws-turn.false), words_ready _ _ 0 _ _ _ c.requires (sym c.sizes_ok.ensures ∙ c.if-not-sizes_ok.false) formed)

pub returns : goal.returns
returns c =
    let formed : (all_sound c.args.ws.now && formed_of (group_in c.args.turn c.args.ws.now c.args.vector.now (contents c.args.bytes.now c.args.local.now))) ≡ true = sym (c.group_ok.ensures c.args.vector.now (contents c.args.bytes.now c.args.local.now)) ∙ c.if-not-group_ok.false in
    words_run _ _ _ _ _ _ c.requires (sym c.sizes_ok.ensures ∙ c.if-not-sizes_ok.false) formed (omega (arith, c.if-ws-turn.false)) _ _ _ _ _ _ _ c.drive_group.ensures
