-- The promises of a group's calls.
use Prim.Native.Nat.{ℕ, ◌%◌}
use mathlib.Core.Path.{◌≡◌, refl, sym, ap, ◌∙◌, subst}
use mathlib.Core.Bool.{Bool, true, false, not, cond, true≢false}
use mathlib.Core.List.{List, [], ◌∷◌}
use lib.Dec.{eqb}
use lib.ListN.{length}
use borrow.Author.Tests.{eq-eqb, ne_eqb, eqb-true}
use Rattle.answer.specs.Rows.{◌⇒◌, first, one_of}
use Rattle.memory.specs.Memories.{Contents}
use Rattle.answer.proofs.Rows.{passed}
use Rattle.group.specs.Group.{Group, fixeds_of}
use Rattle.group.specs.GroupRefuse.{sizes_ok_of}
use Rattle.group.specs.GroupCalls.{group_step_of, GroupRan, group_run_of}
use Rattle.group.proofs.GroupLaws.{by_test, by_equal}
use Rattle.card.specs.Card.{card_size}
use Rattle.group_launch.specs.GroupLaunchCall.{cards_in, none_is, launches_of, is_group_state, cards_launch_of, group_launch_number, group_launch_call_of}
use Rattle.group_words.specs.StateWords.{state_words_of}
use Rattle.group_state.specs.GroupState.{is_group, group_in, all_sound_in, group_called, group_words_tests, group_step_call_of, group_run_call_of}
use Rattle.group_state.proofs.Calls.{state_back}
use Rattle.promises.proofs.Refusals.{is_zero}
use Rattle.promises.proofs.Determined.{determined_whole}
use Rattle.group_promises.specs.Refusals.{group_numbers}
use Rattle.group_promises.specs.Runs.{group_tested, GroupSteps, start}
use Rattle.group_promises.proofs.Refusals.{group_answers, group_run_answers, group_keeps, group_launch_refusals}
use Rattle.group_promises.proofs.Runs.{group_run_iterates, group_run_tests, group_steps_fixed}
use Rattle.group_call_promises.specs.GroupCalls.{GroupLaunchCallAnswers, GroupStepCallAnswers, GroupRunCallAnswers, GroupLaunchCallKeeps, AsLent, GroupStepCallKeeps, GroupRunCallKeeps, GroupStepCallRoom, GroupRunCallRoom, GroupLaunchCallDetermined, GroupStepCallDetermined, GroupRunCallDetermined, whole}

-- ---- a step and a run

-- the tests of the words: the room of the answer's words r, the state's length g, the sizes z and the words' soundness s
tested : (r g z s : Bool) → one_of (0 ∷ 1 ∷ 2 ∷ []) (first (1 ⇒ not r ∷ 1 ⇒ not g ∷ 1 ⇒ not z ∷ 2 ⇒ not s ∷ [])) ≡ true
tested true true true true = refl
tested true true true false = refl
tested true true false s = refl
tested true false z s = refl
tested false g z s = refl

-- of those numbers, or the definition's where they are 0
answered : (n o : ℕ) → one_of (0 ∷ 1 ∷ 2 ∷ []) n ≡ true → one_of (0 ∷ group_numbers) o ≡ true → one_of (0 ∷ group_numbers) (cond (eqb n 0) o n) ≡ true
answered n o h a =
    by_test (eqb n 0) (λ e. rw e a)
    (λ e. by_test (eqb n 1) (λ f. rw (e, eqb-true n 1 f)) (λ f. by_test (eqb n 2) (λ g. rw (e, eqb-true n 2 g)) (λ g. absurd (none e f g))))
  where
    none : eqb n 0 ≡ false → eqb n 1 ≡ false → eqb n 2 ≡ false → ⊥
    none e f g = let z : false ≡ true = rw (e, f, g) at h in true≢false (sym z)

module _ (s k v : List ℕ) (c : Contents) (t : List ℕ) where
  pub group_step_call_answers : one_of (0 ∷ group_numbers) (group_step_call_of s k v c t).number ≡ true
  unfolding group_step_call_of
  group_step_call_answers =
      let n : ℕ = first (1 ⇒ not (eqb (length t) 1) ∷ group_words_tests s k v c) in
      number (eqb n 0) refl
    where
      number : (z : Bool) → eqb (first (1 ⇒ not (eqb (length t) 1) ∷ group_words_tests s k v c)) 0 ≡ z → one_of (0 ∷ group_numbers) (group_step_call_of s k v c t).number ≡ true
      number true z = rw z (group_answers k (group_in s v c))
      number false z =
          rw z
          (let a = answered (first (1 ⇒ not (eqb (length t) 1) ∷ group_words_tests s k v c)) 0 (tested (eqb (length t) 1) (is_group s) (sizes_ok_of k (fixeds_of (group_in s v c)) v c) (all_sound_in s)) refl in
          rw z at a)

  module _ (b : ℕ) where
    pub group_run_call_answers : one_of (0 ∷ group_numbers) (group_run_call_of s k b v c t).number ≡ true
    unfolding group_run_call_of
    group_run_call_answers = number (eqb (first (1 ⇒ not (eqb (length t) 2) ∷ group_words_tests s k v c)) 0) refl
      where
        number : (z : Bool) → eqb (first (1 ⇒ not (eqb (length t) 2) ∷ group_words_tests s k v c)) 0 ≡ z → one_of (0 ∷ group_numbers) (group_run_call_of s k b v c t).number ≡ true
        number true z = rw z (group_run_answers k b (group_in s v c))
        number false z =
            rw z
            (let a = answered (first (1 ⇒ not (eqb (length t) 2) ∷ group_words_tests s k v c)) 0 (tested (eqb (length t) 2) (is_group s) (sizes_ok_of k (fixeds_of (group_in s v c)) v c) (all_sound_in s)) refl in
            rw z at a)

pub step_answers : GroupStepCallAnswers
step_answers = group_step_call_answers

pub run_answers : GroupRunCallAnswers
run_answers s k b v c t = group_run_call_answers s k v c t b

pub step_room : GroupStepCallRoom
unfolding group_step_call_of
step_room s k v c t z = rw (ne_eqb _ _ z)

pub run_room : GroupRunCallRoom
unfolding group_run_call_of
run_room s k b v c t z = rw (ne_eqb _ _ z)

-- ---- what a refusal leaves

-- a run of no steps leaves its group
still : (k : List ℕ) (b : ℕ) (m : Group) → (group_run_of k b m).steps ≡ 0 → (group_run_of k b m).ends.left ≡ m
still k b m e =
    is_zero (group_tested k m)
    (λ z. group_steps_fixed k 0 m _ m (subst (λ (t : ℕ). GroupSteps k t m (group_run_of k b m).ends.left) e (group_run_iterates k b m z).taken) start)
    (λ z. ap (λ (r : GroupRan). r.ends.left) (group_run_tests k b m z))

module _ (s k v : List ℕ) (c : Contents) where
  abbrev sizes_ok : Bool
  sizes_ok = sizes_ok_of k (fixeds_of (group_in s v c)) v c

  -- words that pass all tests, and the group that they stand for
  as_lent : (room : Bool) → first (1 ⇒ not room ∷ group_words_tests s k v c) ≡ 0 → (m : Group) → m ≡ group_in s v c → (x : ℕ) (t : List ℕ)
      → AsLent s v c (group_called x (state_words_of m) m.vector m.bytes t)
  as_lent room z m e x t =
      let g : is_group s ≡ true = passed (1 ⇒ not room ∷ []) (1 ⇒ not sizes_ok ∷ 2 ⇒ not (all_sound_in s) ∷ []) 1 (is_group s) refl z in
      let q : all_sound_in s ≡ true = passed (1 ⇒ not room ∷ 1 ⇒ not (is_group s) ∷ 1 ⇒ not sizes_ok ∷ []) [] 2 (all_sound_in s) refl z in
      record { state = ap state_words_of e ∙ state_back s g v c q; vector = ap (λ (u : Group). u.vector) e; bytes = ap (λ (u : Group). u.bytes) e }

pub step_keeps : GroupStepCallKeeps
unfolding group_step_call_of
step_keeps s k v c t y = go (eqb (first (1 ⇒ not (eqb (length t) 1) ∷ group_words_tests s k v c)) 0) refl
  where
    go : (z : Bool) → eqb (first (1 ⇒ not (eqb (length t) 1) ∷ group_words_tests s k v c)) 0 ≡ z → AsLent s v c (group_step_call_of s k v c t)
    go true z = rw z (as_lent s k v c (eqb (length t) 1) (eqb-true _ _ z) (group_step_of k (group_in s v c)).left (group_keeps k (group_in s v c) (λ q. y (rw z q))) _ _)
    go false z = rw z (record { state = refl; vector = refl; bytes = refl })

pub run_keeps : GroupRunCallKeeps
unfolding group_run_call_of
run_keeps s k b v c t l e = go (eqb (first (1 ⇒ not (eqb (length t) 2) ∷ group_words_tests s k v c)) 0) refl
  where
    go : (z : Bool) → eqb (first (1 ⇒ not (eqb (length t) 2) ∷ group_words_tests s k v c)) 0 ≡ z → AsLent s v c (group_run_call_of s k b v c t)
    go true z = rw z (as_lent s k v c (eqb (length t) 2) (eqb-true _ _ z) (group_run_of k b (group_in s v c)).ends.left (still k b (group_in s v c) (rw (z, eq-eqb _ _ l) at e)) _ _)
    go false z = rw z (record { state = refl; vector = refl; bytes = refl })

-- ---- a launch

launch_tested : (a b d e : Bool) (o : ℕ) → one_of (0 ∷ 1 ∷ []) o ≡ true → one_of (0 ∷ 1 ∷ 13 ∷ []) (first (13 ⇒ a ∷ 13 ⇒ b ∷ 1 ⇒ d ∷ 1 ⇒ e ∷ o ⇒ not (eqb o 0) ∷ [])) ≡ true
launch_tested true b d e o h = refl
launch_tested false true d e o h = refl
launch_tested false false true e o h = refl
launch_tested false false false true o h = refl
launch_tested false false false false o h =
    by_test (eqb o 0) (λ z. rw z) (λ z. by_test (eqb o 1) (λ f. rw (eqb-true o 1 f)) (λ f. let y : false ≡ true = rw (z, f) at h in absurd (true≢false (sym y))))

pub launch_answers : GroupLaunchCallAnswers
unfolding group_launch_call_of group_launch_number
launch_answers cs k v c s =
    let o : ℕ = (cards_launch_of cs k v c).code in
    number (eqb (group_launch_number cs k v c s) 0) refl
  where
    small : one_of (0 ∷ 1 ∷ []) (cards_launch_of cs k v c).code ≡ true
    small =
        by_equal (cards_launch_of cs k v c).code 0 (λ z. rw z)
        (λ z. rw ((group_launch_refusals k (launches_of (cards_in cs) cs) v c).answers z))

    given : one_of (0 ∷ 1 ∷ 13 ∷ []) (group_launch_number cs k v c s) ≡ true
    given = launch_tested (not (eqb (length cs % card_size) 0)) (not (none_is 13 (cards_in cs) cs)) (not (none_is 1 (cards_in cs) cs)) (not (is_group_state (cards_in cs) s)) (cards_launch_of cs k v c).code small

    number : (z : Bool) → eqb (group_launch_number cs k v c s) 0 ≡ z → one_of (0 ∷ 1 ∷ 13 ∷ []) (group_launch_call_of cs k v c s).number ≡ true
    number true z = rw z
    number false z = rw z given

pub launch_keeps : GroupLaunchCallKeeps
unfolding group_launch_call_of
launch_keeps cs k v c s = by_test (eqb (group_launch_number cs k v c s) 0) (λ z. rw z (λ n. absurd (n refl))) (λ z. rw z (λ n. refl))

-- ---- two results

pub launch_determined : GroupLaunchCallDetermined
launch_determined cs k v c = determined_whole whole _ (λ r t e. e)

pub step_determined : GroupStepCallDetermined
step_determined k v c t = determined_whole whole _ (λ r u e. e)

pub run_determined : GroupRunCallDetermined
run_determined k b v c t = determined_whole whole _ (λ r u e. e)
