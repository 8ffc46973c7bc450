use mathlib.Core.Path.{◌≡◌, sym, ◌∙◌}
use mathlib.Core.Bool.{true}
use native.Mathlib.Omega.{arith}
use lib.ListN.{length, take}
use lib.Seq.{length-take-le}
use borrow.Author.Rules.{rules}
use Rattle.std.specs.List.{list_all}
use Rattle.warp.proofs.Chain.{mapped}
use Rattle.group.specs.GroupRefuse.{warps_limit}
use Rattle.group_machine.specs.Held.{is_shallow}
use Rattle.group_machine.proofs.Taking.{as_many, rooms_are}
use Rattle.group_machine.proofs.Held.{kept_same, held_many, held_none, held_size, held_deep, held_runs, held_kept}
use Rattle.group_machine.proofs.run.Goals as goal

-- ---- refused
pub returns-then-n-gt-WARPS : goal.returns-then-n-gt-WARPS
returns-then-n-gt-WARPS c =
    (omega arith, rw c.refused.ensures (kept_same _), rw c.refused.ensures (held_many _ _ _ _ _ c.if-n-gt-WARPS.true))

pub returns-then-n-eq0 : goal.returns-then-n-eq0
returns-then-n-eq0 c =
    (omega arith, rw c.refused-then-n-eq0.ensures (kept_same _), rw c.refused-then-n-eq0.ensures (held_none _ _ _ _ _ c.if-n-gt-WARPS.false c.if-n-eq0.true))

pub returns-then-not-sizes_ok : goal.returns-then-not-sizes_ok
returns-then-not-sizes_ok c =
    let full : length c.args.g.warps ≡ warps_limit = search (rules, mapped) in
    let l : length c.fixeds.new.ws ≡ length (take c.args.g.count c.args.g.warps) = as_many _ _ _ full c.if-n-gt-WARPS.false (c.fixeds.auto.ws ∙ length-take-le _ _ c.if-n-gt-WARPS.false) in (
      omega arith,
      rw c.refused-then-not-sizes_ok.ensures (kept_same _),
      rw c.refused-then-not-sizes_ok.ensures (held_size _ _ _ _ _ c.if-n-gt-WARPS.false _ l c.fixeds.ensures (sym c.sizes_ok.ensures ∙ c.if-not-sizes_ok.true)),
    )

pub returns-then-not-shallow : goal.returns-then-not-shallow
returns-then-not-shallow c =
    let full : length c.args.g.warps ≡ warps_limit = search (rules, mapped) in
    let l : length c.fixeds.new.ws ≡ length (take c.args.g.count c.args.g.warps) = as_many _ _ _ full c.if-n-gt-WARPS.false (c.fixeds.auto.ws ∙ length-take-le _ _ c.if-n-gt-WARPS.false) in (
      omega arith,
      rw c.refused-then-not-shallow.ensures (kept_same _),
      rw c.refused-then-not-shallow.ensures
          (held_deep _ _ _ _ _ c.if-n-gt-WARPS.false _ l c.fixeds.ensures (sym c.sizes_ok.ensures ∙ c.if-not-sizes_ok.false) (sym c.shallow.ensures ∙ c.if-not-shallow.true)),
    )

-- ---- run
pub run_group-end-requires : goal.run_group-end-requires
run_group-end-requires c =
    let full : length c.args.g.warps ≡ warps_limit = search (rules, mapped) in
    let l : length c.apart.new.ws ≡ length (take c.args.g.count c.args.g.warps) = as_many _ _ _ full c.if-n-gt-WARPS.false (c.apart.auto.ws ∙ c.fixeds.auto.ws ∙ length-take-le _ _ c.if-n-gt-WARPS.false) in
    let n : length c.apart.new.ws ≡ c.args.g.count = c.apart.auto.ws ∙ c.fixeds.auto.ws ∙ length-take-le _ _ c.if-n-gt-WARPS.false in
    rooms_are _ _ l c.apart.ensures (omega (arith, n, c.if-n-eq0.false)) (omega (arith, n, c.if-n-gt-WARPS.false))

pub returns : goal.returns
returns c =
    let full : length c.args.g.warps ≡ warps_limit = search (rules, mapped) in
    let l : length c.apart.new.ws ≡ length (take c.args.g.count c.args.g.warps) = as_many _ _ _ full c.if-n-gt-WARPS.false (c.apart.auto.ws ∙ c.fixeds.auto.ws ∙ length-take-le _ _ c.if-n-gt-WARPS.false) in
    let shallow : list_all is_shallow (take c.args.g.count c.args.g.warps) ≡ true = sym c.shallow.ensures ∙ c.if-not-shallow.false in (
      omega arith,
      held_kept _ _ _ _ _ c.if-n-gt-WARPS.false _ l c.apart.ensures shallow _ c.wide-turn.ensures _ _ _ _ _ _ _ c.run_group-end.ensures full _ c.together.ensures,
      held_runs _ _ _ _ _ c.if-n-gt-WARPS.false _ l c.apart.ensures shallow _ c.wide-turn.ensures _ _ _ _ _ _ _ c.run_group-end.ensures full _ c.together.ensures,
    )
