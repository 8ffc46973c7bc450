-- What a C host is promised of the calls on a state of 241 words.
use Prim.Native.Nat.{ℕ}
use mathlib.Core.Path.{◌≡◌, refl, sym, ◌∙◌, ap, subst}
use mathlib.Core.Bool.{Bool, true, false, not, cond, ◌||◌}
use mathlib.Core.List.{List, [], ◌∷◌}
use native.Mathlib.Omega.{arith}
use lib.Dec.{eqb}
use lib.ListN.{length, get_or}
use borrow.Author.Tests.{ne_eqb, eqb-true}
use Rattle.answer.specs.Rows.{◌⇒◌, first, one_of}
use Rattle.answer.proofs.Rows.{passed, numbered_first}
use Rattle.isa.specs.declared.Instr.TheVariants.{Refused}
use Rattle.isa.specs.Decode.{decode_of}
use Rattle.isa.specs.Masked.{over_mask}
use Rattle.memory.specs.Memories.{alone, bytes_at}
use Rattle.memory.proofs.Laws.{Same, alone_still}
use Rattle.warp.specs.declared.Launch.{Launch}
use Rattle.warp.specs.declared.Warp.{Warp}
use Rattle.warp.specs.Warp.{Answered, answered}
use Rattle.warp.specs.WellFormed.{launch_ok_of, well_formed_of}
use Rattle.warp.proofs.Formed.{formed}
use Rattle.warp.proofs.SplitLaws.{by_cond}
use Rattle.layout.specs.Words.{state_words, words_of, warp_in, sound_in}
use Rattle.layout.proofs.Words.{warp_words_lem, words_warp, words_sound, words_long}
use Rattle.definition.specs.State.{State, state, Outcome, outcome}
use Rattle.definition.specs.Refuse.{runs_ok_of, step_numbers}
use Rattle.definition.specs.Step.{step_of}
use Rattle.definition.specs.Calls.{launch_of, Ran, run_of, release_of}
use Rattle.definition.proofs.Used.{step_within}
use Rattle.card.specs.Card.{card_size, head_ok_at, launch_at, read_card_of}
use Rattle.saved.specs.Saved.{saving, restore_tests}
use Rattle.capi.specs.Calls.{Called, called, leaving, unless_called, blank_of, launch_call_of, words_tests, step_call_of, run_called, count_in, run_call_of, release_call_of}
use Rattle.capi.proofs.Laws.{run_room}
use Rattle.capi_words.specs.Words.{variant, decode_call_of}
use Rattle.promises.specs.Reached.{Reached, launched, goes, steps, releases, Sound}
use Rattle.promises.specs.Runs.{tested, Steps, start, more}
use Rattle.promises.proofs.Determined.{determined_whole}
use Rattle.promises.proofs.Refusals.{is_zero, step_answers, run_answers, step_keeps, launch_refusals, release_refusals}
use Rattle.promises.proofs.Reached.{reached_sound, never_malformed}
use Rattle.promises.proofs.Runs.{run_iterates, run_tests, steps_fixed, run_reaches}
use Rattle.call_promises.specs.StateCalls.{whole, LaunchCallAnswers, StepCallAnswers, RunCallAnswers, ReleaseCallAnswers, DecodeCallAnswers, LaunchCallKeeps, StepCallKeeps, RunCallKeeps, RunCallRoom, ReleaseCallKeeps, LaunchCallDetermined, StepCallDetermined, RunCallDetermined, ReleaseCallDetermined, DecodeCallDetermined, Holds, CallLeaves, LaunchCallReaches, StepCallReaches, RunCallReaches, ReleaseCallReaches}

-- ---- answers

-- a call that its own tests refuse with n, or that the definition answers
unless_at : (P : ℕ → Type 0) (n : ℕ) (o : Outcome) (s v d : List ℕ) → P n → P o.code → P (unless_called n o s v d).number
unless_at P n o s v d p q = by_cond (λ (r : Called). P r.number) (eqb n 0) (leaving o) (called n s v d) (λ e. q) (λ e. p)

pub step_call_answers : StepCallAnswers
unfolding step_call_of
step_call_answers s k v d =
    let m : State = state (warp_in s) v (alone d) in
    unless_at (λ (n : ℕ). one_of (0 ∷ step_numbers) n ≡ true) (first (words_tests s k v d)) (step_of k m) s v d (numbered_first (one_of (0 ∷ step_numbers)) (words_tests s k v d) refl refl) (step_answers k m)

pub run_call_answers : RunCallAnswers
unfolding run_call_of
run_call_answers s k n v d t =
    let m : State = state (warp_in s) v (alone d) in
    let rows = 1 ⇒ not (eqb (length t) 1) ∷ words_tests s k v d in
    unless_at (λ (c : ℕ). one_of (0 ∷ step_numbers) c ≡ true) (first rows) (run_of k n m).ends s v d (numbered_first (one_of (0 ∷ step_numbers)) rows refl refl) (run_answers k n m)

pub launch_call_answers : LaunchCallAnswers
unfolding launch_call_of read_card_of launch_of
launch_call_answers c k v d s =
    let l : Launch = (read_card_of c).launch in
    go (eqb (length c) card_size) (head_ok_at c) (launch_ok_of (launch_at c)) (eqb (length s) state_words) (runs_ok_of l.fixed k v (alone d)) (launch_ok_of l) (launch_of k l v (alone d)).left (blank_of s) v d
  where
    go : (a b e x f g : Bool) (m : State) (s v d : List ℕ)
        → (let n : ℕ = first (13 ⇒ not a ∷ 13 ⇒ not b ∷ 1 ⇒ not e ∷ []) in
        let i : ℕ = first (1 ⇒ not f ∷ 1 ⇒ not g ∷ []) in
        one_of (0 ∷ 1 ∷ 13 ∷ []) (unless_called (first (n ⇒ not (eqb n 0) ∷ 1 ⇒ not x ∷ i ⇒ not (eqb i 0) ∷ [])) (outcome i m) s v d).number)
        ≡ true
    go false b e x f g m s v d = refl
    go true false e x f g m s v d = refl
    go true true false x f g m s v d = refl
    go true true true false f g m s v d = refl
    go true true true true false g m s v d = refl
    go true true true true true false m s v d = refl
    go true true true true true true m s v d = refl

pub release_call_answers : ReleaseCallAnswers
unfolding release_call_of release_of
release_call_answers s = go (eqb (length s) state_words) (sound_in s) (well_formed_of (warp_in s)) (warp_in s).waiting _
  where
    go : (a b e f : Bool) (u : List ℕ)
        → (let n : ℕ = first (1 ⇒ not a ∷ 2 ⇒ not b ∷ []) in
        one_of (0 ∷ 1 ∷ 2 ∷ 12 ∷ []) (cond (eqb n 0) (saving (first (2 ⇒ not e ∷ 12 ⇒ not f ∷ [])) u) (saving n s)).number)
        ≡ true
    go false b e f u = refl
    go true false e f u = refl
    go true true false f u = refl
    go true true true false u = refl
    go true true true true u = refl

pub decode_call_answers : DecodeCallAnswers
unfolding decode_call_of
decode_call_answers w = by_cond (λ (n : ℕ). one_of (0 ∷ 6 ∷ []) n ≡ true) (eqb (variant (decode_of w)) (variant Refused) || over_mask (decode_of w)) 6 0 (λ e. refl) (λ e. refl)

-- ---- what a refusal leaves

-- where the tests of a state pass, its words are those of the warp that they stand for
back : (s : List ℕ) → eqb (length s) state_words ≡ true → sound_in s ≡ true → words_of (warp_in s) ≡ s
back s l o = warp_words_lem s (eqb-true _ _ l) o

tested_back : (s k v d : List ℕ) → first (words_tests s k v d) ≡ 0 → words_of (warp_in s) ≡ s
tested_back s k v d z =
    let a = eqb (length s) state_words in
    let b = runs_ok_of (warp_in s).fixed k v (alone d) in
    back s (passed [] (1 ⇒ not b ∷ 2 ⇒ not (sound_in s) ∷ []) 1 a refl z) (passed (1 ⇒ not a ∷ 1 ⇒ not b ∷ []) [] 2 (sound_in s) refl z)

-- what the definition refuses leaves the words as they were; so a refused call does
refusal : (n : ℕ) (o : Outcome) (s v d : List ℕ) → (n ≡ 0 → (o.code ≡ 0 → ⊥) → leaving o ≡ called o.code s v d)
    → ((unless_called n o s v d).number ≡ 0 → ⊥) → unless_called n o s v d ≡ called (unless_called n o s v d).number s v d
refusal n o s v d h = is_zero n (λ z. rw z (h z)) (λ z. rw (ne_eqb n 0 z) (λ y. refl))

-- the state as it was handed in
as_lent : (s k v d : List ℕ) (o : Outcome) → first (words_tests s k v d) ≡ 0 → o.left ≡ state (warp_in s) v (alone d) → leaving o ≡ called o.code s v d
as_lent s k v d o z h =
    ap (λ (m : State). leaving (outcome o.code m)) h ∙ ap (λ (u : List ℕ). called o.code u v d) (tested_back s k v d z)

pub step_call_keeps : StepCallKeeps
unfolding step_call_of
step_call_keeps s k v d =
    let m : State = state (warp_in s) v (alone d) in
    refusal (first (words_tests s k v d)) (step_of k m) s v d (λ z y. as_lent s k v d (step_of k m) z (ap (λ (o : Outcome). o.left) (step_keeps k m y)))

-- a run of no steps leaves its state
still : (k : List ℕ) (n : ℕ) (m : State) → (run_of k n m).steps ≡ 0 → (run_of k n m).ends.left ≡ m
still k n m e =
    is_zero (tested k m)
    (λ z. steps_fixed k 0 m _ m (subst (λ (t : ℕ). Steps k t m (run_of k n m).ends.left) e (run_iterates k n m z).taken) start)
    (λ z. ap (λ (r : Ran). r.ends.left) (run_tests k n m z))

counted : (c q : ℕ) (t : List ℕ) → c ≡ 0 → length t ≡ 1 → count_in (cond (eqb c 0) q 0) t ≡ 0 ∷ [] → q ≡ 0
counted c q t z l e = let f : q ∷ [] ≡ 0 ∷ [] = rw (z, l) at e in ap (λ (u : List ℕ). get_or u 0 0) f

pub run_call_keeps : RunCallKeeps
unfolding run_call_of
run_call_keeps s k n v d t y e =
    let m : State = state (warp_in s) v (alone d) in
    let one = eqb (length t) 1 in
    let rows = 1 ⇒ not one ∷ words_tests s k v d in
    refusal (first rows) (run_of k n m).ends s v d
    (λ z y.
    let p : one ≡ true = passed [] (words_tests s k v d) 1 one refl z in
    as_lent s k v d (run_of k n m).ends (rw p at z) (still k n m (counted (first rows) (run_of k n m).steps t z (eqb-true _ _ p) e)))
    y

pub run_call_room : RunCallRoom
run_call_room s k n v d t h = sym (run_room s k n v d t h)

-- where neither the card nor the length refuses a launch, and it answers 0, so does the definition
last_zero : (n i : ℕ) (x : Bool) → first (n ⇒ not (eqb n 0) ∷ 1 ⇒ not x ∷ i ⇒ not (eqb i 0) ∷ []) ≡ 0 → i ≡ 0
last_zero n i x = is_zero n (λ z. rw z (go x)) (λ z. rw (ne_eqb n 0 z) (λ y. absurd (z y)))
  where
    go : (x : Bool) → first (1 ⇒ not x ∷ i ⇒ not (eqb i 0) ∷ []) ≡ 0 → i ≡ 0
    go true = is_zero i (λ z y. z) (λ z. rw (ne_eqb i 0 z) (λ y. y))
    go false = λ y. absurd (omega arith)

pub launch_call_keeps : LaunchCallKeeps
unfolding launch_call_of
launch_call_keeps c k v d s =
    let o : Outcome = launch_of k (read_card_of c).launch v (alone d) in
    refusal _ o (blank_of s) v d (λ z y. absurd (y (last_zero (read_card_of c).number o.code (eqb (length s) state_words) z)))

-- a release that its own tests refuse with n, or that the definition answers with c and the words u
release_kept : (s : List ℕ) (n c : ℕ) (u : List ℕ) → (n ≡ 0 → (c ≡ 0 → ⊥) → u ≡ s)
    → ((cond (eqb n 0) (saving c u) (saving n s)).number ≡ 0 → ⊥) → cond (eqb n 0) (saving c u) (saving n s) ≡ saving (cond (eqb n 0) (saving c u) (saving n s)).number s
release_kept s n c u h = is_zero n (λ z. rw z (λ y. ap (saving c) (h z y))) (λ z. rw (ne_eqb n 0 z) (λ y. refl))

pub release_call_keeps : ReleaseCallKeeps
unfolding release_call_of
release_call_keeps s =
    let w : Warp = warp_in s in
    let a = eqb (length s) state_words in
    release_kept s (first (restore_tests s)) (release_of w).code (words_of (release_of w).warp)
    (λ z y. ap (λ (b : Answered). words_of b.warp) ((release_refusals w).keeps y)
    ∙ back s (passed [] (2 ⇒ not (sound_in s) ∷ []) 1 a refl z) (passed (1 ⇒ not a ∷ []) [] 2 (sound_in s) refl z))

-- ---- two results that a contract allows are equal

pub launch_call_determined : LaunchCallDetermined
launch_call_determined c k v d = determined_whole whole _ (λ r t e. e)

pub step_call_determined : StepCallDetermined
step_call_determined k v d = determined_whole whole _ (λ r t e. e)

pub run_call_determined : RunCallDetermined
run_call_determined k n v d t = determined_whole whole _ (λ r u e. e)

pub release_call_determined : ReleaseCallDetermined
release_call_determined = determined_whole whole release_call_of (λ r t e. e)

pub decode_call_determined : DecodeCallDetermined
decode_call_determined = determined_whole whole decode_call_of (λ r t e. e)

-- ---- from reached state to reached state

-- where a launch is answered 0, its own tests refuse nothing
accepted : (n : ℕ) (o : Outcome) (s v d : List ℕ) → (unless_called n o s v d).number ≡ 0 → unless_called n o s v d ≡ leaving o
accepted n o s v d = is_zero n (λ z. rw z (λ y. refl)) (λ z. rw (ne_eqb n 0 z) (λ y. absurd (z y)))

-- the data memory's bytes tell a single warp's memories
holds : (k : List ℕ) (l : Launch) (d : List ℕ) (o : Outcome) → Same o.left.bytes (alone d) → Reached k l o.left → CallLeaves k l (leaving o)
holds k l d o e r = record { warp = o.left.warp; words = refl; reached = rw (alone_still o.left.bytes d e) r }

-- steps and runs keep the memories' sizes
steps_same : (k : List ℕ) (t : ℕ) (m u : State) → Steps k t m u → Same u.bytes m.bytes
steps_same k t m u start = λ r. refl
steps_same k t m u (more {t = n} {u = x} p q) = λ r. ap (λ (o : Outcome). length (bytes_at r o.left.bytes)) (sym q) ∙ (step_within k x).size r ∙ steps_same k n m x p r

run_same : (k : List ℕ) (n : ℕ) (m : State) → Same (run_of k n m).ends.left.bytes m.bytes
run_same k n m =
    is_zero (tested k m)
    (λ z. steps_same k (run_of k n m).steps m _ (run_iterates k n m z).taken)
    (λ z r. ap (λ (a : Ran). length (bytes_at r a.ends.left.bytes)) (run_tests k n m z))

-- an outcome answered 0
done : (o : Outcome) → o.code ≡ 0 → o ≡ outcome 0 o.left
done o z = ap (λ (c : ℕ). outcome c o.left) z

pub launch_call_reaches : LaunchCallReaches
unfolding launch_call_of
launch_call_reaches c k v d s z =
    let o : Outcome = launch_of k (read_card_of c).launch v (alone d) in
    let n : ℕ = (read_card_of c).number in
    let e = accepted (first (n ⇒ not (eqb n 0) ∷ 1 ⇒ not (eqb (length s) state_words) ∷ o.code ⇒ not (eqb o.code 0) ∷ [])) o (blank_of s) v d z in
    let y : o.code ≡ 0 = sym (ap (λ (r : Called). r.number) e) ∙ z in
    let g = (launch_refusals k (read_card_of c).launch v (alone d)).gives y in
    subst (CallLeaves k (read_card_of c).launch) (sym e)
    (holds k (read_card_of c).launch d o (λ r. ap (λ (o : Outcome). length (bytes_at r o.left.bytes)) g) (launched v (alone d) (done o y)))

module _ (k : List ℕ) (l : Launch) (s v d : List ℕ) (h : Holds k l s v d) where
  abbrev w : Warp
  w = h.warp

  abbrev m : State
  m = state w v (alone d)

  sound : Sound k l m
  sound = reached_sound k l m h.reached

  long : length s ≡ state_words
  long = ap length h.words ∙ words_long w sound.registers sound.splits

  stands : warp_in s ≡ w
  stands = ap warp_in h.words ∙ words_warp w sound.registers sound.splits

  sure : sound_in s ≡ true
  sure = ap sound_in h.words ∙ words_sound w sound.registers sound.splits (formed w sound.splits sound.formed).deep

  fits : runs_ok_of (warp_in s).fixed k v (alone d) ≡ true
  fits = ap (λ (u : Warp). runs_ok_of u.fixed k v (alone d)) stands ∙ sound.runs

  step_is : step_call_of s k v d ≡ leaving (step_of k m)
  unfolding step_call_of
  step_is = rw (long, fits, sure, stands)

  step_reached : Reached k l (step_of k m).left
  step_reached =
      is_zero (step_of k m).code (λ z. goes h.reached (steps (done (step_of k m) z)))
      (λ z. subst (Reached k l) (sym (ap (λ (o : Outcome). o.left) (step_keeps k m z))) h.reached)

  run_is : (n : ℕ) (t : List ℕ) → length t ≡ 1 → run_call_of s k n v d t ≡ run_called (leaving (run_of k n m).ends) ((run_of k n m).steps ∷ [])
  unfolding run_call_of
  run_is n t o = rw (o, long, fits, sure, stands)

  release_is : release_call_of s ≡ saving (release_of w).code (words_of (release_of w).warp)
  unfolding release_call_of
  release_is = rw (long, sure, stands)

  release_reached : Reached k l (state (release_of w).warp v (alone d))
  release_reached =
      is_zero (release_of w).code (λ z. goes h.reached (releases (ap (λ (c : ℕ). answered c (release_of w).warp) z)))
      (λ z. subst (λ (u : Warp). Reached k l (state u v (alone d))) (sym (ap (λ (a : Answered). a.warp) ((release_refusals w).keeps z))) h.reached)

pub step_call_reaches : StepCallReaches
step_call_reaches k l s v d h =
    let q = never_malformed k l (m k l s v d h) h.reached in
    rw (step_is k l s v d h)
    (record { is = refl; leaves = holds k l d (step_of k (m k l s v d h)) (step_within k (m k l s v d h)).size (step_reached k l s v d h); not1 = q.step1; not2 = q.step2 })

pub run_call_reaches : RunCallReaches
run_call_reaches k l n s v d t h o =
    let r = run_reaches k l n (m k l s v d h) h.reached in
    rw (run_is k l s v d h n t o)
    (record { is = refl; leaves = holds k l d (run_of k n (m k l s v d h)).ends (run_same k n (m k l s v d h)) r.reached; not1 = r.passes.not1; not2 = r.passes.not2 })

-- a release answers no 1
freed_not1 : (a b : Bool) → first (2 ⇒ not a ∷ 12 ⇒ not b ∷ []) ≡ 1 → ⊥
freed_not1 false b e = omega arith
freed_not1 true false e = omega arith
freed_not1 true true e = omega arith

release_not1 : (w : Warp) → (release_of w).code ≡ 1 → ⊥
unfolding release_of
release_not1 w e = freed_not1 (well_formed_of w) w.waiting e

pub release_call_reaches : ReleaseCallReaches
release_call_reaches k l s v d h =
    let q = never_malformed k l (m k l s v d h) h.reached in
    rw (release_is k l s v d h)
    (record {
      is = refl;
      leaves = record { warp = (release_of h.warp).warp; words = refl; reached = release_reached k l s v d h };
      not1 = release_not1 h.warp;
      not2 = q.release2;
    })
