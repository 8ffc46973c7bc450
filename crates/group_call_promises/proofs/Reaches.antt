-- What a group's calls on words reach.
use Prim.Native.Nat.{ℕ, ◌<◌}
use mathlib.Core.Path.{◌≡◌, refl, sym, ap, ◌∙◌, subst}
use mathlib.Core.Bool.{true}
use mathlib.Core.List.{List, [], ◌∷◌}
use lib.ListN.{length}
use lib.Dec.{eqb}
use borrow.Author.Tests.{eqb-true, eqb-false}
use Rattle.memory.specs.Memories.{Contents}
use Rattle.warp.specs.declared.Launch.{Launch}
use Rattle.warp.proofs.Formed.{formed}
use Rattle.promises.specs.Reached.{Sound}
use Rattle.promises.proofs.Refusals.{is_zero}
use Rattle.promises.proofs.Reached.{reached_sound}
use Rattle.group.specs.Group.{Group, count_of, fixeds_of, warp_at, state_at}
use Rattle.group.specs.GroupRefuse.{sizes_ok_of}
use Rattle.group.specs.GroupCalls.{GroupOutcome, group_step_of, group_run_of}
use Rattle.group.proofs.GroupLaws.{by_test}
use Rattle.group_words.specs.StateWords.{state_words_of}
use Rattle.group_launch.specs.GroupLaunchCall.{cards_in, launches_of, cards_launch_of, group_launch_number, group_launch_call_of}
use Rattle.group_launch.proofs.Laws.{number_none}
use Rattle.group_state.specs.GroupState.{is_group, group_in, all_sound_in, group_step_call_of, group_run_call_of}
use Rattle.group_promises.specs.Reached.{GroupReached, launched, goes, steps, launch_at}
use Rattle.group_promises.proofs.Goes.{Fits}
use Rattle.group_promises.proofs.Refusals.{group_keeps, group_launch_refusals}
use Rattle.group_promises.proofs.Reached.{warp_reached, group_reached_fits, group_reached_sound}
use Rattle.group_promises.proofs.Runs.{answered, group_run_reaches, group_never_malformed}
use Rattle.group_call_promises.specs.Reaches.{GroupHolds, held_in, leaving_of, GroupLaunchCallReaches, GroupStepCallReaches, GroupRunCallReaches}
use Rattle.group_call_promises.proofs.Back.{Whole, is_group_lem, stands, all_sound_lem}

holds : (k : List ℕ) (ls : List Launch) (o : GroupOutcome) → GroupReached k ls o.left → GroupHolds k ls (state_words_of o.left) o.left.vector o.left.bytes
holds k ls o r = record { turn = o.left.turn; warps = o.left.warps; words = refl; reached = r }

-- words that pass the tests of a state as words: the call is the definition's
record Passes (s k v : List ℕ) (c : Contents) : Type 0 where
  group : is_group s ≡ true
  sizes : sizes_ok_of k (fixeds_of (group_in s v c)) v c ≡ true
  sound : all_sound_in s ≡ true

step_passes : (s k v : List ℕ) (c : Contents) (t : List ℕ) → Passes s k v c → length t ≡ 1
    → group_step_call_of s k v c t ≡ leaving_of (group_step_of k (group_in s v c)) ((group_step_of k (group_in s v c)).stopped ∷ [])
unfolding group_step_call_of
step_passes s k v c t p l = rw (l, p.group, p.sizes, p.sound)

run_passes : (s k v : List ℕ) (c : Contents) (b : ℕ) (t : List ℕ) → Passes s k v c → length t ≡ 2
    → group_run_call_of s k b v c t ≡ leaving_of (group_run_of k b (group_in s v c)).ends ((group_run_of k b (group_in s v c)).steps ∷ (group_run_of k b (group_in s v c)).ends.stopped ∷ [])
unfolding group_run_call_of
run_passes s k v c b t p l = rw (l, p.group, p.sizes, p.sound)

module _ (k : List ℕ) (ls : List Launch) (m : Group) (r : GroupReached k ls m) where
  fits : Fits k m
  fits = group_reached_fits k ls m r

  each : (i : ℕ) → i < count_of m → Whole (warp_at i m)
  each i h =
      let s : Sound k (launch_at i ls) (state_at i m) = reached_sound k (launch_at i ls) (state_at i m) (warp_reached k ls m i r h) in
      record { registers = s.registers; splits = s.splits; deep = (formed (warp_at i m) s.splits s.formed).deep }

  abbrev S : List ℕ
  S = state_words_of m

  is : group_in S m.vector m.bytes ≡ m
  is = stands m fits.fit.some fits.fit.most each m.vector m.bytes

  pass : Passes S k m.vector m.bytes
  pass =
      record {
        group = is_group_lem m fits.fit.some fits.fit.most each;
        sizes = ap (λ (x : Group). sizes_ok_of k (fixeds_of x) m.vector m.bytes) is ∙ (group_reached_sound k ls m r).sizes;
        sound = all_sound_lem m fits.fit.some fits.fit.most each;
      }

  step_reached : GroupReached k ls (group_step_of k m).left
  step_reached =
      is_zero (group_step_of k m).code (λ z. goes r (steps (answered k m z))) (λ z. subst (GroupReached k ls) (sym (group_keeps k m z)) r)

pub step_reaches : GroupStepCallReaches
step_reaches k ls s v c t h l =
    let m : Group = held_in h in
    let n = group_never_malformed k ls m h.reached in
    rw (h.words, step_passes (state_words_of m) k v c t (pass k ls m h.reached) l, is k ls m h.reached)
    (record { is = refl; leaves = holds k ls (group_step_of k m) (step_reached k ls m h.reached); not1 = n.step1; not2 = n.step2 })

pub run_reaches : GroupRunCallReaches
run_reaches k ls b s v c t h l =
    let m : Group = held_in h in
    let n = group_never_malformed k ls m h.reached in
    rw (h.words, run_passes (state_words_of m) k v c b t (pass k ls m h.reached) l, is k ls m h.reached)
    (record { is = refl; leaves = holds k ls (group_run_of k b m).ends (group_run_reaches k ls b m h.reached); not1 = n.run1 b; not2 = n.run2 b })

-- ---- a launch

pub launch_reaches : GroupLaunchCallReaches
unfolding group_launch_call_of
launch_reaches cs k v c s = by_test (eqb (group_launch_number cs k v c s) 0) (λ e. rw e (λ z. done (number_none cs k v c s (sym (eqb-true _ _ e))).1)) (λ e. rw e (λ z. absurd (eqb-false _ _ e z)))
  where
    done : (cards_launch_of cs k v c).code ≡ 0 → GroupHolds k (launches_of (cards_in cs) cs) (state_words_of (cards_launch_of cs k v c).left) (cards_launch_of cs k v c).left.vector c
    done y = let g = (group_launch_refusals k (launches_of (cards_in cs) cs) v c).gives y in rw g (record { turn = _; warps = _; words = refl; reached = launched v c g })
