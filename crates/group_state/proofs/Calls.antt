-- From a run on the words of a state's warps to the call on the state.
use Prim.Native.Nat.{ℕ, zero, suc, ◌+◌, ◌*◌, ◌≤◌, ◌<◌}
use mathlib.Core.Path.{◌≡◌, refl, sym, ap, ap₂, ◌∙◌, subst}
use mathlib.Core.Bool.{Bool, true, false, cond}
use mathlib.Core.List.{List, [], ◌∷◌, ◌++◌, append_assoc, append-nil}
use native.Mathlib.Omega.{arith}
use lib.Dec.{eqb, leb, ltb}
use lib.ListN.{length, get_or, drop, length-drop, take-append-drop, drop_of_length-le}
use lib.Seq.{length-take-le, drop-drop}
use borrow.Author.Tests.{eqb-true, leb-true, ltb-false}
use Rattle.answer.specs.Rows.{first, between}
use Rattle.answer.proofs.Rows.{both}
use Rattle.lanes.proofs.Laws.{below_at, below_all}
use Rattle.memory.specs.Memories.{Contents}
use Rattle.warp.specs.declared.Warp.{Warp}
use Rattle.warp.specs.Warp.{zero_warp}
use Rattle.layout.specs.Words.{state_words, words_of, warp_in as warpOn, sound_in}
use Rattle.layout.proofs.Words.{together_words, parts_whole, split_long, moving_long, fixed_long, warp_words_lem}
use Rattle.group.specs.Group.{Group, group, fixeds_of}
use Rattle.group.specs.GroupRefuse.{warps_limit, sizes_ok_of}
use Rattle.group.specs.GroupCalls.{group_outcome, GroupRan, group_ran, group_run_of}
use Rattle.group.proofs.GroupLaws.{by_test, refute}
use Rattle.group.proofs.GroupCases.{group_run_size, group_run_one}
use Rattle.layout.specs.declared.WarpWords.{WarpWords}
use Rattle.layout.specs.Parts.{warp_from, sound_from, state_from}
use Rattle.group_words.specs.Row.{words_at, tabulate, warps_in, group_in as rowGroup, Rooms, FixedKept, all_sound, fixeds_in}
use Rattle.group_drive.specs.GroupDrives.{group_words_run_of, GroupRuns}
use Rattle.group_words.specs.StateWords.{joined, state_words_of}
use Rattle.group_words.proofs.StateWords.{joined_same}
use Rattle.group_words.proofs.Tabulate.{tab_length, tab_at, tab_is}
use Rattle.group_words.proofs.Words.{warps_long, warp_is}
use Rattle.group_words.proofs.Sound.{sound_at, at_sound, fixeds_are}
use Rattle.group_state.specs.GroupState.{count_in, is_group, words_in, group_in, all_sound_in, GroupCalled, group_called, group_words_tests, group_step_call_of, group_run_call_of}
use Rattle.group_state.specs.Got.{Got, put_at}

-- ---- a state that has a group's length

module _ (s : List ℕ) (o : is_group s ≡ true) where
  abbrev N : ℕ
  N = count_in s

  sized : (length s ≡ 1 + N * state_words) × (1 ≤ N) × (N ≤ warps_limit)
  sized =
      let p = both (eqb (length s) (1 + N * state_words)) (between 1 N warps_limit) o in
      let q = both (leb 1 N) (leb N warps_limit) p.1 in
      (eqb-true _ _ p.0, leb-true _ _ q.0, leb-true _ _ q.1)

  pub state_long : length s ≡ 1 + N * state_words
  state_long = sized.0

  pub state_some : 1 ≤ N
  state_some = sized.1

  pub state_few : N ≤ warps_limit
  state_few = sized.2

  word_long : (i : ℕ) → i < N → length (words_in i s) ≡ state_words
  word_long i h = length-take-le state_words (drop (1 + i * state_words) s) (let d = length-drop (1 + i * state_words) s in omega (arith, d, state_long))

  -- the words of the warps one after another are the state's, but for the turn
  fronts : (i : ℕ) → joined i (λ j. words_in j s) ++ drop (1 + i * state_words) s ≡ drop 1 s
  unfolding joined
  fronts zero = refl
  fronts (suc i) =
      let a : ℕ = 1 + i * state_words in
      let e : a + state_words ≡ 1 + suc i * state_words = omega arith in
      append_assoc (joined i (λ j. words_in j s)) (words_in i s) (drop (1 + suc i * state_words) s)
      ∙ ap (λ (r : List ℕ). joined i (λ j. words_in j s) ++ (words_in i s ++ r)) (ap (λ (m : ℕ). drop m s) (sym e) ∙ sym (drop-drop state_words a s))
      ∙ ap (λ (r : List ℕ). joined i (λ j. words_in j s) ++ r) (take-append-drop state_words (drop a s))
      ∙ fronts i

  headed : (u : List ℕ) → 1 ≤ length u → get_or u 0 0 ∷ drop 1 u ≡ u
  headed [] h = absurd (omega arith)
  headed (x ∷ u) h = refl

  pub whole : get_or s 0 0 ∷ joined N (λ i. words_in i s) ≡ s
  whole =
      ap (λ (r : List ℕ). get_or s 0 0 ∷ r)
      (sym (ap (λ (r : List ℕ). joined N (λ j. words_in j s) ++ r) (drop_of_length-le s {i = 1 + N * state_words} (omega (arith, state_long))) ∙ append-nil (joined N (λ j. words_in j s))) ∙ fronts N)
      ∙ headed s (omega (arith, state_long))

  -- words of warps are those of the group that they stand for
  pub state_back : (v : List ℕ) (c : Contents) → all_sound_in s ≡ true → state_words_of (group_in s v c) ≡ s
  state_back v c y =
      let f : ℕ → Warp = λ i. warpOn (words_in i s) in
      ap (λ (l : List ℕ). get_or s 0 0 ∷ l)
      (ap (λ (m : ℕ). joined m (λ i. words_of (get_or (tabulate N f) i zero_warp))) (tab_length N f)
      ∙ joined_same N (λ i. words_of (get_or (tabulate N f) i zero_warp)) (λ i. words_in i s)
      (λ i h. ap words_of (tab_at N f zero_warp i h) ∙ warp_words_lem (words_in i s) (word_long i h) (below_at N (λ j. sound_in (words_in j s)) y i h)))
      ∙ whole

  -- ---- the words that were copied out of it
  module _ (a : List WarpWords) (l : length a ≡ N) (g : Got N s a) where
    pub group_is : (v : List ℕ) (c : Contents) → rowGroup (get_or s 0 0) a v c ≡ group_in s v c
    group_is v c =
        ap (λ (ws : List Warp). group (get_or s 0 0) ws v c)
        (tab_is N (λ i. warpOn (words_in i s)) zero_warp (warps_in a) (warps_long a ∙ l) (λ i h. warp_is a i (rw l h) ∙ ap warp_from (g i h)))

    sound_is : all_sound a ≡ all_sound_in s
    sound_is =
        by_test (all_sound_in s) (λ y. at_sound a (λ i h. let b : i < N = rw l at h in rw (g i b) (below_at N (λ j. sound_in (words_in j s)) y i b)) ∙ sym y)
        (λ y.
        by_test (all_sound a) (λ z. refute (below_all N (λ j. sound_in (words_in j s)) (λ i h. ap sound_from (sym (g i h)) ∙ sound_at a z i (rw l h))) y) (λ z. z ∙ sym y))

    pub rooms_are : Rooms a
    rooms_are =
        record {
          some = rw l state_some;
          few = rw l state_few;
          long = λ i h. let b : i < N = rw l at h in ap (λ (w : WarpWords). length w.moving) (g i b) ∙ moving_long (words_in i s) (word_long i b);
          room = λ i h. let b : i < N = rw l at h in ap (λ (w : WarpWords). length w.splits) (g i b) ∙ split_long (words_in i s) (word_long i b);
        }

    -- put back as they are, they are the state
    pub put_same : get_or s 0 0 ∷ joined N (put_at a) ≡ s
    put_same =
        ap (λ (r : List ℕ). get_or s 0 0 ∷ r) (joined_same N (put_at a) (λ i. words_in i s) (λ i h. ap state_from (g i h) ∙ parts_whole (words_in i s) (word_long i h))) ∙ whole

    -- words of warps are the words of the group that they stand for
    words_of_lem : (t : ℕ) (b : List WarpWords) (v : List ℕ) (c : Contents) → length b ≡ N → FixedKept a b → Rooms b → all_sound b ≡ true → t ∷ joined N (put_at b) ≡ state_words_of (rowGroup t b v c)
    words_of_lem t b v c m e r q =
        ap (λ (l : List ℕ). t ∷ l)
        (joined_same N (put_at b) (λ i. words_of (get_or (warps_in b) i zero_warp))
        (λ i h.
        let o : i < length b = rw m h in
        let w : WarpWords = words_at b i in
        sym
        (ap words_of (warp_is b i o)
        ∙ together_words w.fixed w.moving w.scalars w.splits
        (ap length (e i) ∙ ap (λ (w : WarpWords). length w.fixed) (g i h) ∙ fixed_long (words_in i s) (word_long i h)) (r.long i o) (r.room i o) (sound_at b q i o)))
        ∙ ap (λ (m : ℕ). joined m (λ i. words_of (get_or (warps_in b) i zero_warp))) (sym (warps_long b ∙ m)))

    -- ---- the call
    module _ (k : List ℕ) (n c w u t : ℕ) (v : List ℕ) (d : Contents) (b : List WarpWords) (v' : List ℕ) (d' : Contents)
        (q : GroupRuns k (get_or s 0 0) n c w u t a v d b v' d') where
      abbrev told : ℕ → ℕ → List ℕ
      told x y = x ∷ y ∷ []

      abbrev Is : GroupCalled
      Is = group_called c (t ∷ joined N (put_at b)) v' d' (told u w)

      abbrev leaves : GroupRan → GroupCalled
      leaves r = group_called r.ends.code (state_words_of r.ends.left) r.ends.left.vector r.ends.left.bytes (told r.steps r.ends.stopped)

      sizes_are : sizes_ok_of k (fixeds_of (group_in s v d)) v d ≡ sizes_ok_of k (fixeds_in a) v d
      sizes_are = ap (λ (m : Group). sizes_ok_of k (fixeds_of m) v d) (sym (group_is v d)) ∙ ap (λ (fs : List _). sizes_ok_of k fs v d) (fixeds_are a (get_or s 0 0) v d)

      -- what the words' run is, of warps' words and of others
      runs_words : all_sound a ≡ true → group_words_run_of k (get_or s 0 0) n a v d ≡ group_run_of k n (rowGroup (get_or s 0 0) a v d)
      unfolding group_words_run_of
      runs_words y = rw y

      other_words : all_sound a ≡ false
          → group_words_run_of k (get_or s 0 0) n a v d ≡ group_ran 0 (group_outcome (cond (sizes_ok_of k (fixeds_in a) v d) 2 1) 0 (rowGroup (get_or s 0 0) a v d))
      unfolding group_words_run_of
      other_words y = rw y

      abbrev Sizes : Bool
      Sizes = sizes_ok_of k (fixeds_of (group_in s v d)) v d

      same : all_sound a ≡ true → state_words_of (group_in s v d) ≡ s
      same y = state_back v d (sym sound_is ∙ y)

      sound_leaves : all_sound a ≡ true → (z : Bool) → Sizes ≡ z → leaves (group_run_of k n (group_in s v d)) ≡ group_run_call_of s k n v d (told 0 0)
      unfolding group_run_call_of
      sound_leaves y true z = rw (o, z, ← sound_is, y)
      sound_leaves y false z = rw (o, z, group_run_size k n (group_in s v d) z, same y)

      other_leaves : all_sound a ≡ false → (z : Bool) → Sizes ≡ z → group_called (cond z 2 1) s v d (told 0 0) ≡ group_run_call_of s k n v d (told 0 0)
      unfolding group_run_call_of
      other_leaves y true z = rw (o, z, ← sound_is, y)
      other_leaves y false z = rw (o, z)

      sound_call : all_sound a ≡ true → Is ≡ group_run_call_of s k n v d (told 0 0)
      sound_call y =
          ap (λ (l : List ℕ). group_called c l v' d' (told u w)) (words_of_lem t b v' d' (q.count ∙ l) q.fixed q.rooms (q.sound y))
          ∙ ap leaves (q.runs ∙ runs_words y ∙ ap (group_run_of k n) (group_is v d))
          ∙ sound_leaves y Sizes refl

      other_call : all_sound a ≡ false → Is ≡ group_run_call_of s k n v d (told 0 0)
      other_call y =
          let p = q.kept y in
          let x : ℕ = cond (sizes_ok_of k (fixeds_in a) v d) 2 1 in
          ap (λ (r : GroupRan). group_called r.ends.code (t ∷ joined N (put_at b)) v' d' (told r.steps r.ends.stopped)) (q.runs ∙ other_words y)
          ∙ ap (λ (l : List ℕ). group_called x l v' d' (told 0 0)) (ap₂ (λ (m : ℕ) (z : List WarpWords). m ∷ joined N (put_at z)) p.1 p.0 ∙ put_same)
          ∙ ap₂ (λ (l : List ℕ) (z : Contents). group_called x s l z (told 0 0)) p.2 p.3
          ∙ ap (λ (z : Bool). group_called (cond z 2 1) s v d (told 0 0)) (sym sizes_are)
          ∙ other_leaves y Sizes refl

      pub call_is : Is ≡ group_run_call_of s k n v d (told 0 0)
      call_is = by_test (all_sound a) sound_call other_call

-- the turn that is put back is the run's
pub turn_is : (t n old turn at : ℕ) → ((t < n → ⊥) → t ≡ turn) → turn ≡ old → at ≡ cond (ltb t n) t old → at ≡ t
turn_is t n old turn at h e p =
    by_test (ltb t n) (λ q. p ∙ ap (λ (b : Bool). cond b t old) q)
    (λ q. p ∙ ap (λ (b : Bool). cond b t old) q ∙ sym e ∙ sym (h (λ l. let z = ltb-false t n q in omega (arith, z, l))))

-- the call, where the run was handed the turn t₀
pub call_at : (s : List ℕ) (o : is_group s ≡ true) (a : List WarpWords) → length a ≡ count_in s → Got (count_in s) s a → (k : List ℕ) (n c w u t t₀ : ℕ) (v : List ℕ) (d : Contents) (b : List WarpWords) (v' : List ℕ) (d' : Contents)
    → t₀ ≡ get_or s 0 0 → GroupRuns k t₀ n c w u t a v d b v' d'
    → group_called c (t ∷ joined (count_in s) (put_at b)) v' d' (u ∷ w ∷ []) ≡ group_run_call_of s k n v d (0 ∷ 0 ∷ [])
call_at s o a l g k n c w u t t₀ v d b v' d' z q = call_is s o a l g k n c w u t v d b v' d' (subst (λ (m : ℕ). GroupRuns k m n c w u t a v d b v' d') z q)

-- ---- the calls for C

-- a step is a run of one step, and tells the WID alone
pub step_call : (s k v : List ℕ) (c : Contents) (n : ℕ) (s' v' : List ℕ) (c' : Contents) (u w : ℕ)
    → group_called n s' v' c' (u ∷ w ∷ []) ≡ group_run_call_of s k 1 v c (0 ∷ 0 ∷ []) → group_called n s' v' c' (w ∷ []) ≡ group_step_call_of s k v c (0 ∷ [])
unfolding group_run_call_of group_step_call_of
step_call s k v c n s' v' c' u w e =
    ap (λ (g : GroupCalled). group_called g.number g.state g.vector g.bytes (get_or g.told 1 0 ∷ [])) e ∙ by (eqb (first (group_words_tests s k v c)) 0) refl
  where
    by : (z : Bool) → eqb (first (group_words_tests s k v c)) 0 ≡ z →
        let g : GroupCalled = group_run_call_of s k 1 v c (0 ∷ 0 ∷ []) in
        group_called g.number g.state g.vector g.bytes (get_or g.told 1 0 ∷ []) ≡ group_step_call_of s k v c (0 ∷ [])
    by true z = rw (z, group_run_one k (group_in s v c))
    by false z = rw z
