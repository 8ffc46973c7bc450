-- From the machine's calls on a warp to the calls on a state.
use Prim.Native.Nat.{ℕ, ◌≤◌}
use mathlib.Core.Path.{◌≡◌, refl, sym, ap, ◌∙◌}
use mathlib.Core.Bool.{Bool, true, false, not, cond}
use mathlib.Core.List.{List, [], ◌∷◌, ◌++◌}
use native.Mathlib.Omega.{arith}
use lib.Dec.{eqb}
use lib.ListN.{length, replicate, set}
use borrow.Author.Tests.{eq-eqb, ne_eqb, eqb-true, eqb-false}
use Rattle.answer.specs.Rows.{◌⇒◌, first}
use Rattle.answer.specs.Answer.{number_of}
use Rattle.answer.proofs.Rows.{passed}
use Rattle.memory.specs.Memories.{Contents, alone}
use Rattle.warp.specs.declared.Launch.{Launch}
use Rattle.warp.specs.declared.Warp.{Warp}
use Rattle.warp.specs.Warp.{split_count, zero_warp, Answered, answered, with_stop}
use Rattle.warp.proofs.SplitLaws.{by_cond}
use Rattle.layout.specs.Words.{state_words, scalar_part, split_part, moving_part, fixed_part, warp_of, words_of, warp_in, sound_in}
use Rattle.layout.specs.declared.WarpWords.{WarpWords}
use Rattle.layout.specs.Parts.{parts_in, state_from}
use Rattle.layout.proofs.Words.{together_words, parts_whole, fixed_long, warp_words_lem}
use Rattle.definition.specs.State.{State, state, Outcome, outcome}
use Rattle.definition.specs.Refuse.{runs_ok_of, launch_tests, release_tests}
use Rattle.definition.specs.Calls.{launched_of, launch_of, Ran, ran, run_of, release_of}
use Rattle.definition.proofs.Calls.{run_size, run_one}
use Rattle.handlers.specs.Handles.{Lists, lists, lent_state}
use Rattle.drive.specs.Drives.{run_words_of, RunsWords}
use Rattle.drive.proofs.Runs.{run_sound}
use Rattle.card.specs.Card.{reading, reading_of, read_card_of}
use Rattle.saved.specs.Saved.{Saving, saving, save_of, restore_tests, restore_of}
use Rattle.saved.proofs.SaveLaws.{zero_words, save_size, save_done, warp_deep}
use Rattle.capi.specs.Calls.{called, leaving, unless_called, blank_of, launch_call_of, words_tests, step_call_of, RunCalled, run_called, run_call_of, release_call_of}

-- ---- states

save_blank : (s : List ℕ) → (save_of zero_warp s).state ≡ blank_of s
unfolding zero_warp
save_blank s = go (eqb (length s) state_words) refl
  where
    go : (b : Bool) → eqb (length s) state_words ≡ b → (save_of zero_warp s).state ≡ cond b (replicate state_words 0) s
    go true e = ap (λ (t : Saving). t.state) (sym (save_done zero_warp s (eqb-true _ _ e) (omega arith))) ∙ zero_words
    go false e = ap (λ (t : Saving). t.state) (sym (save_size zero_warp s (eqb-false _ _ e)))

pub blanked : (n : ℕ) (w : Warp) (s s' : List ℕ) → w ≡ zero_warp → saving n s' ≡ save_of w s → s' ≡ blank_of s
blanked n w s s' ew es = ap (λ (t : Saving). t.state) es ∙ ap (λ (w : Warp). (save_of w s).state) ew ∙ save_blank s

-- ---- a run of the state's words

-- a state's words as they are lent
abbrev parts_of : List ℕ → List ℕ → List ℕ → Lists
parts_of s v d = lists (fixed_part s) (moving_part s) (scalar_part s) (split_part s) v (alone d)

-- and put back
abbrev put_back : Lists → List ℕ
put_back b = b.scalars ++ b.splits ++ b.moving ++ b.fixed

module _ (s k : List ℕ) (n : ℕ) (v d : List ℕ) (l : length s ≡ state_words) where
  abbrev m : State
  m = state (warp_in s) v (alone d)

  -- what a run leaves, of words that are a warp's
  abbrev left : Ran → RunCalled
  left r = run_called (leaving r.ends) (r.steps ∷ [])

  sound_run : sound_in s ≡ true → (r : Bool) → runs_ok_of (warp_in s).fixed k v (alone d) ≡ r → left (run_of k n m) ≡ run_call_of s k n v d (0 ∷ [])
  unfolding run_call_of
  sound_run o true r = rw (l, r, o)
  sound_run o false r = rw (l, r, run_size k n m r, warp_words_lem s l o)

  other_run : sound_in s ≡ false → (r : Bool) → runs_ok_of (warp_in s).fixed k v (alone d) ≡ r → run_called (called (cond r 2 1) s v d) (0 ∷ []) ≡ run_call_of s k n v d (0 ∷ [])
  unfolding run_call_of
  other_run o true r = rw (l, r, o)
  other_run o false r = rw (l, r)

  module _ (c t : ℕ) (b : Lists) (q : RunsWords k n c t (parts_of s v d) b) where
    abbrev is : RunCalled
    is = run_called (called c (put_back b) b.vector b.bytes.data_bytes) (t ∷ [])

    -- a warp's words are those of the warp that they stand for
    as_warp : b.fixed ≡ fixed_part s → sound_in s ≡ true → is ≡ left (ran t (outcome c (lent_state b)))
    as_warp eg o =
        ap (λ (u : List ℕ). run_called (called c u b.vector b.bytes.data_bytes) (t ∷ []))
        (sym (together_words b.fixed b.moving b.scalars b.splits (ap length eg ∙ fixed_long s l) q.long q.room (q.sound o)))

    other : sound_in s ≡ false → is ≡ run_called (called (cond (runs_ok_of (warp_in s).fixed k v (alone d)) 2 1) s v d) (0 ∷ [])
    unfolding run_words_of warp_of
    other o =
        let e : ran t (outcome c (lent_state b)) ≡ ran 0 (outcome (cond (runs_ok_of (warp_in s).fixed k v (alone d)) 2 1) m) = q.runs ∙ rw o in
        ap (λ (b : Lists). run_called (called c (put_back b) b.vector b.bytes.data_bytes) (t ∷ [])) (q.kept o)
        ∙ ap (λ (u : List ℕ). run_called (called c u v d) (t ∷ [])) (parts_whole s l)
        ∙ ap (λ (r : Ran). run_called (called r.ends.code s v d) (r.steps ∷ [])) e

    ran_is : b.fixed ≡ fixed_part s → is ≡ run_call_of s k n v d (0 ∷ [])
    ran_is eg = by (sound_in s) refl
      where
        by : (o : Bool) → sound_in s ≡ o → is ≡ run_call_of s k n v d (0 ∷ [])
        by true o = as_warp eg o ∙ ap left (q.runs ∙ run_sound k n (parts_of s v d) o) ∙ sound_run o (runs_ok_of (warp_in s).fixed k v (alone d)) refl
        by false o = other o ∙ other_run o (runs_ok_of (warp_in s).fixed k v (alone d)) refl

  -- the words are copied from the state, and put back into it
  pub state_run : (p : WarpWords) → p ≡ parts_in s → (c t : ℕ) (p' : WarpWords) (v' : List ℕ) (e : Contents) → p'.fixed ≡ p.fixed
      → RunsWords k n c t (lists p.fixed p.moving p.scalars p.splits v (alone d)) (lists p'.fixed p'.moving p'.scalars p'.splits v' e)
      → (s' : List ℕ) → s' ≡ state_from p' → run_called (called c s' v' e.data_bytes) (t ∷ []) ≡ run_call_of s k n v d (0 ∷ [])
  state_run p ep c t p' v' e ef r s' es = rw es (ran_is c t (lists p'.fixed p'.moving p'.scalars p'.splits v' e) (rw ep at r) (ef ∙ ap (λ (w : WarpWords). w.fixed) ep))

-- ---- step

module _ (s k v d : List ℕ) where
  pub step_size : (length s ≡ state_words → ⊥) → called 1 s v d ≡ step_call_of s k v d
  unfolding step_call_of
  step_size h = rw (ne_eqb _ _ h)

  -- a step is a run of one
  pub step_call : (c t : ℕ) (s' v' d' : List ℕ) → run_called (called c s' v' d') (t ∷ []) ≡ run_call_of s k 1 v d (0 ∷ []) → called c s' v' d' ≡ step_call_of s k v d
  unfolding step_call_of run_call_of
  step_call c t s' v' d' e =
      ap (λ (r : RunCalled). r.call) e ∙ ap (λ (o : Outcome). unless_called (first (words_tests s k v d)) o s v d) (run_one k (state (warp_in s) v (alone d)))

-- ---- run

one : (t : List ℕ) (n : ℕ) → length t ≡ 1 → set t 0 n ≡ n ∷ []
one [] n h = absurd (omega arith)
one (a ∷ []) n h = refl
one (a ∷ b ∷ t) n h = absurd (omega arith)

module _ (s k : List ℕ) (n : ℕ) (v d t : List ℕ) where
  pub run_room : (length t ≡ 1 → ⊥) → run_called (called 1 s v d) t ≡ run_call_of s k n v d t
  unfolding run_call_of
  run_room h = rw (ne_eqb _ _ h)

  module _ (o : length t ≡ 1) where
    pub run_short : (length s ≡ state_words → ⊥) → run_called (called 1 s v d) (set t 0 0) ≡ run_call_of s k n v d t
    unfolding run_call_of
    run_short h = rw (one t 0 o, o, ne_eqb _ _ h)

    -- where the count fits
    pub run_call : (c i : ℕ) (s' v' d' : List ℕ) → run_called (called c s' v' d') (i ∷ []) ≡ run_call_of s k n v d (0 ∷ []) → run_called (called c s' v' d') (set t 0 i) ≡ run_call_of s k n v d t
    unfolding run_call_of
    run_call c i s' v' d' e = rw (one t i o, o) e

-- ---- release

release_depth : (w : Warp) → (release_of w).warp.depth ≡ w.depth
unfolding release_of
release_depth w = by_cond (λ (u : Warp). u.depth ≡ w.depth) (eqb (first (release_tests w)) 0) (with_stop false false w) w (λ e. refl) (λ e. refl)

module _ (s : List ℕ) (n : ℕ) (w : Warp) (e : answered n w ≡ restore_of s) where
  -- the tests are those of restoring
  tests : n ≡ first (restore_tests s)
  unfolding restore_of
  tests = ap (λ (a : Answered). a.code) e ∙ by (eqb (first (restore_tests s)) 0) refl
    where
      by : (z : Bool) → eqb (first (restore_tests s)) 0 ≡ z → (cond z (answered 0 (warp_in s)) (answered (first (restore_tests s)) zero_warp)).code ≡ first (restore_tests s)
      by true z = sym (eqb-true _ _ z)
      by false z = refl

  pub release_refused : (n ≡ 0 → ⊥) → saving n s ≡ release_call_of s
  unfolding release_call_of
  release_refused z = rw (← tests, ne_eqb n 0 z)

  module _ (z : n ≡ 0) where
    restored : w ≡ warp_in s
    unfolding restore_of
    restored = ap (λ (a : Answered). a.warp) e ∙ rw (eq-eqb _ _ (sym tests ∙ z))

    answers : first (restore_tests s) ≡ 0
    answers = sym tests ∙ z

    long : length s ≡ state_words
    long = eqb-true _ _ (passed [] (2 ⇒ not (sound_in s) ∷ []) 1 (eqb (length s) state_words) refl answers)

    deep : (release_of (warp_in s)).warp.depth ≤ split_count
    deep = rw (release_depth (warp_in s)) (warp_deep s (passed (1 ⇒ not (eqb (length s) state_words) ∷ []) [] 2 (sound_in s) refl answers))

    pub release_call : (c m : ℕ) (u : Warp) (s' : List ℕ) → answered c u ≡ release_of w → saving m s' ≡ save_of u s → saving c s' ≡ release_call_of s
    unfolding release_call_of
    release_call c m u s' ea es =
        ap (λ (t : Saving). saving c t.state) es ∙ ap (λ (a : Answered). saving a.code (save_of a.warp s).state) (ea ∙ ap release_of restored)
        ∙ ap (λ (t : Saving). saving (release_of (warp_in s)).code t.state) (sym (save_done (release_of (warp_in s)).warp s long deep))
        ∙ rw answers

    pub release_saved : (m : ℕ) (u : Warp) (s' : List ℕ) → answered 0 u ≡ release_of w → saving m s' ≡ save_of u s → saving m s' ≡ release_call_of s
    release_saved m u s' ea es =
        let zero : m ≡ 0 = ap (λ (t : Saving). t.number) (es ∙ ap (λ (a : Answered). save_of a.warp s) (ea ∙ ap release_of restored) ∙ sym (save_done (release_of (warp_in s)).warp s long deep)) in
        rw zero (release_call 0 m u s' ea es)

    -- a refused release leaves the words as they were
    pub release_stays : (c : ℕ) → answered c w ≡ release_of w → saving c s ≡ release_call_of s
    unfolding release_call_of
    release_stays c e =
        let f : answered c (warp_in s) ≡ release_of (warp_in s) = rw restored at e in
        ap (saving c) (sym (warp_words_lem s long (passed (1 ⇒ not (eqb (length s) state_words) ∷ []) [] 2 (sound_in s) refl answers)))
        ∙ ap (λ (a : Answered). saving a.code (words_of a.warp)) f ∙ rw answers

-- ---- launch

module _ (c k v d s : List ℕ) (n : ℕ) (a : Launch) (er : reading n a ≡ read_card_of c) where
  pub launch_card : (n ≡ 0 → ⊥) → called n (blank_of s) v d ≡ launch_call_of c k v d s
  unfolding launch_call_of
  launch_card h = rw (← er, ne_eqb n 0 h, ne_eqb n 0 h)

  module _ (z : n ≡ 0) where
    pub launch_short : (length s ≡ state_words → ⊥) → called 1 s v d ≡ launch_call_of c k v d s
    unfolding launch_call_of
    launch_short h = rw (← er, z, ne_eqb _ _ h)

    module _ (l : length s ≡ state_words) where
      launch_cases : (b : Bool) → eqb (first (launch_tests k a v (alone d))) 0 ≡ b
          → called (launch_of k a v (alone d)).code (save_of (launch_of k a v (alone d)).left.warp s).state (launch_of k a v (alone d)).left.vector d ≡ launch_call_of c k v d s
      unfolding launch_call_of launch_of
      launch_cases true e = rw (← er, z, l, e, ← save_done (launched_of a) s l (omega arith))
      launch_cases false e = rw (← er, z, l, e, e) (ap (λ (t : List ℕ). called (first (launch_tests k a v (alone d))) t v d) (save_blank s ∙ rw l))

      pub launch_call : (r m : ℕ) (u : Warp) (s' v' : List ℕ) → outcome r (state u v' (alone d)) ≡ launch_of k a v (alone d) → saving m s' ≡ save_of u s → called r s' v' d ≡ launch_call_of c k v d s
      launch_call r m u s' v' eo es =
          ap (λ (t : Saving). called r t.state v' d) es ∙ ap (λ (o : Outcome). called o.code (save_of o.left.warp s).state o.left.vector d) eo
          ∙ launch_cases (eqb (first (launch_tests k a v (alone d))) 0) refl
