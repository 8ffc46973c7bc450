use mathlib.Core.Path.{◌≡◌, sym, ◌∙◌}
use mathlib.Core.Bool.{true}
use native.Mathlib.Omega.{arith}
use Rattle.memory.specs.Memories.{contents}
use Rattle.group_launch.specs.GroupLaunchCall.{cards_in, none_is}
use Rattle.group_launch.proofs.Laws.{number_rest, number_card, number_range, number_state, number_own, code_count, code_not, code_done}
use Rattle.group_launch.proofs.launch_ok.Goals as goal

pub returns-then-cards-ne0 : goal.returns-then-cards-ne0
returns-then-cards-ne0 c =
    let a = c.args in
    number_rest a.cards.now a.kernel.now a.vector.now (contents a.bytes.now a.local.now) a.state.now c.if-cards-ne0.true

pub returns-then-not-none_is : goal.returns-then-not-none_is
returns-then-not-none_is c =
    let a = c.args in
    number_card a.cards.now a.kernel.now a.vector.now (contents a.bytes.now a.local.now) a.state.now c.if-cards-ne0.false (sym c.none_is.ensures ∙ c.if-not-none_is.true)

pub returns-then-not-none_is-2 : goal.returns-then-not-none_is-2
returns-then-not-none_is-2 c =
    let a = c.args in
    number_range a.cards.now a.kernel.now a.vector.now (contents a.bytes.now a.local.now) a.state.now c.if-cards-ne0.false (sym c.none_is.ensures ∙ c.if-not-none_is.false) (sym c.none_is-2.ensures ∙ c.if-not-none_is-2.true)

pub returns-then-not-is_state : goal.returns-then-not-is_state
returns-then-not-is_state c =
    let a = c.args in
    number_state a.cards.now a.kernel.now a.vector.now (contents a.bytes.now a.local.now) a.state.now c.if-cards-ne0.false (sym c.none_is.ensures ∙ c.if-not-none_is.false) (sym c.none_is-2.ensures ∙ c.if-not-none_is-2.false) (sym c.is_state.ensures ∙ c.if-not-is_state.true)

pub returns-then-n-eq0 : goal.returns-then-n-eq0
returns-then-n-eq0 c =
    let a = c.args in
    let read : none_is 13 (cards_in a.cards.now) a.cards.now ≡ true = sym c.none_is.ensures ∙ c.if-not-none_is.false in
    let ranged : none_is 1 (cards_in a.cards.now) a.cards.now ≡ true = sym c.none_is-2.ensures ∙ c.if-not-none_is-2.false in
    number_own a.cards.now a.kernel.now a.vector.now (contents a.bytes.now a.local.now) a.state.now c.if-cards-ne0.false read ranged (sym c.is_state.ensures ∙ c.if-not-is_state.false) 1
    (code_count (cards_in a.cards.now) a.cards.now a.kernel.now a.vector.now (contents a.bytes.now a.local.now) read ranged (λ p q. omega (arith, p, c.if-n-eq0.true)))

pub returns-then-n-gt-WARPS : goal.returns-then-n-gt-WARPS
returns-then-n-gt-WARPS c =
    let a = c.args in
    let read : none_is 13 (cards_in a.cards.now) a.cards.now ≡ true = sym c.none_is.ensures ∙ c.if-not-none_is.false in
    let ranged : none_is 1 (cards_in a.cards.now) a.cards.now ≡ true = sym c.none_is-2.ensures ∙ c.if-not-none_is-2.false in
    number_own a.cards.now a.kernel.now a.vector.now (contents a.bytes.now a.local.now) a.state.now c.if-cards-ne0.false read ranged (sym c.is_state.ensures ∙ c.if-not-is_state.false) 1
    (code_count (cards_in a.cards.now) a.cards.now a.kernel.now a.vector.now (contents a.bytes.now a.local.now) read ranged (λ p q. omega (arith, q, c.if-n-gt-WARPS.true)))

pub returns-then-not-group_ok : goal.returns-then-not-group_ok
returns-then-not-group_ok c =
    let a = c.args in
    let read : none_is 13 (cards_in a.cards.now) a.cards.now ≡ true = sym c.none_is.ensures ∙ c.if-not-none_is.false in
    let ranged : none_is 1 (cards_in a.cards.now) a.cards.now ≡ true = sym c.none_is-2.ensures ∙ c.if-not-none_is-2.false in
    number_own a.cards.now a.kernel.now a.vector.now (contents a.bytes.now a.local.now) a.state.now c.if-cards-ne0.false read ranged (sym c.is_state.ensures ∙ c.if-not-is_state.false) 1
    (code_not (cards_in a.cards.now) a.cards.now a.kernel.now a.vector.now (contents a.bytes.now a.local.now) read ranged (sym c.group_ok.ensures ∙ c.if-not-group_ok.true))

pub returns : goal.returns
returns c =
    let a = c.args in
    let read : none_is 13 (cards_in a.cards.now) a.cards.now ≡ true = sym c.none_is.ensures ∙ c.if-not-none_is.false in
    let ranged : none_is 1 (cards_in a.cards.now) a.cards.now ≡ true = sym c.none_is-2.ensures ∙ c.if-not-none_is-2.false in
    number_own a.cards.now a.kernel.now a.vector.now (contents a.bytes.now a.local.now) a.state.now c.if-cards-ne0.false read ranged (sym c.is_state.ensures ∙ c.if-not-is_state.false) 0
    (code_done (cards_in a.cards.now) a.cards.now a.kernel.now a.vector.now (contents a.bytes.now a.local.now) read ranged (sym c.group_ok.ensures ∙ c.if-not-group_ok.false))
