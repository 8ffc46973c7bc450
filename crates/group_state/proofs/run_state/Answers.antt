use Prim.Native.Nat.{ℕ}
use mathlib.Core.Path.{◌≡◌, ◌∙◌, subst}
use lib.ListN.{length}
use lib.Seq.{length-take-le}
use Rattle.group_state.specs.GroupState.{count_in}
use Rattle.group_state.specs.Got.{Got}
use Rattle.group_state.proofs.Calls.{state_few, rooms_are, turn_is, call_at}
use Rattle.group_state.proofs.run_state.Goals as goal

pub run_group-end-requires : goal.run_group-end-requires
run_group-end-requires c =
    let s = c.args.state.now in
    let e : length c.get_all.new.ws ≡ count_in s = c.get_all.auto.ws ∙ length-take-le _ _ (state_few s c.requires) in
    rooms_are s c.requires _ e (subst (λ (m : ℕ). Got m s c.get_all.new.ws) e c.get_all.ensures)

pub returns : goal.returns
returns c =
    let s = c.args.state.now in
    let e : length c.get_all.new.ws ≡ count_in s = c.get_all.auto.ws ∙ length-take-le _ _ (state_few s c.requires) in
    let n : length c.run_group-end.new.ws ≡ count_in s = c.run_group-end.ensures.count ∙ e in
    let at = turn_is _ _ _ _ _ (rw e at c.run_group-end.ensures.turn) c.wide-turn.ensures c.turn_word-at.ensures in
    rw (c.put_all.ensures, at, n) (call_at s c.requires _ e (subst (λ (m : ℕ). Got m s c.get_all.new.ws) e c.get_all.ensures) _ _ _ _ _ _ _ _ _ _ _ _ c.wide-turn.ensures c.run_group-end.ensures)
