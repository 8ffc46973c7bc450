-- Marking and writing the model sheet, case by case.
use Prim.Native.Nat.{ℕ, ◌≤◌, ◌<◌}
use mathlib.Core.Path.{◌≡◌, refl, sym, ap, ap₂, ◌∙◌}
use mathlib.Core.Bool.{Bool, true, false, not, ◌&&◌, true≢false}
use mathlib.Core.List.{List, [], ◌∷◌, ◌++◌, flatten}
use native.Mathlib.Omega.{arith}
use lib.Dec.{lit<}
use lib.ListN.{length, drop}
use lib.Seq.{sets, length-sets}
use borrow.Author.Tests.{eq-eqb, ne_eqb, le-leb, lt-leb}
use Rattle.answer.specs.Rows.{Row, ◌⇒◌, first}
use Rattle.memory.specs.Memories.{alone}
use Rattle.warp.specs.declared.Launch.{Launch}
use Rattle.warp.specs.WellFormed.{launch_ok_of}
use Rattle.definition.specs.State.{State}
use Rattle.definition.specs.Refuse.{runs_ok_of, launch_tests}
use Rattle.definition.specs.Step.{step_of}
use Rattle.definition.specs.Calls.{Ran, run_of}
use Rattle.definition.proofs.Calls.{turn_off, run_counted}
use Rattle.sheet_lines.specs.declared.Marks.{Marks}
use Rattle.sheet_lines.specs.declared.Marks.TheVariants.{NoMarks}
use Rattle.sheet_lines.specs.Sheet.{head_size, step_limit, sheet_size, lines_of, head_of, sheet_of, sheet_ok_of, lines_at, lines_in}
use Rattle.sheet_lines.specs.Compare.{compare_of}
use Rattle.sheet_lines.proofs.Lines.{Lines, own_lines}
use Rattle.sheet_lines.proofs.Sheets.{sheet_length, lines_put, sheet_put}
use Rattle.sheet.specs.Traces.{Traces}
use Rattle.sheet.proofs.Tracing.{lines_on}
use Rattle.sheet.specs.Mark.{own_start, own_of, own_end, no_steps, LentRuns, lent_runs, lent_runs_of, marking, mark_tests, mark_of, sheet_room, modelling, model_tests, model_of}

-- ---- a trace

pub trace_from : (k : List ℕ) (m a : State) (n : ℕ) (v d t u : List ℕ) → m ≡ a → Traces k m n v d t u → Traces k a n v d t u
trace_from k m a n v d t u e r = rw (← e) r

-- the target keeps its length
pub trace_length : (k : List ℕ) (m : State) (n : ℕ) (v d t u : List ℕ) → Traces k m n v d t u → length u ≡ length t
trace_length k m n v d t u r = rw (r.lines, length-sets)

-- ---- the tests of a launch, before others

launch_fails : (a b : Bool) (rs : List (Row Bool)) → (a && b) ≡ false → first (1 ⇒ not a ∷ 1 ⇒ not b ∷ rs) ≡ 1
launch_fails false b rs e = refl
launch_fails true false rs e = refl
launch_fails true true rs e = absurd (true≢false e)

launch_passes : (a b : Bool) (rs : List (Row Bool)) → (a && b) ≡ true → first (1 ⇒ not a ∷ 1 ⇒ not b ∷ rs) ≡ first rs
launch_passes false b rs e = absurd (true≢false (sym e))
launch_passes true false rs e = absurd (true≢false (sym e))
launch_passes true true rs e = refl

length_none : (ls : List (List ℕ)) → length ls ≡ 0 → ls ≡ []
length_none [] e = refl
length_none (a ∷ ls) e = absurd (omega arith)

-- ---- a run of no steps leaves what it found

module _ (k : List ℕ) (m : State) (none : length (lines_of k step_limit m) ≡ 0) where
  first_refused : (step_of k m).code ≡ 0 → ⊥
  first_refused z = let e = ap length (lines_on k 0 m (lit< tt) z) in omega arith

  step_left : (step_of k m).left ≡ m
  unfolding step_of
  step_left = rw (ne_eqb _ _ first_refused)

  run_left : (run_of k step_limit m).ends.left ≡ m
  run_left = ap (λ (r : Ran). r.ends.left) (run_counted k 4095 m ∙ turn_off k 4095 0 m first_refused) ∙ step_left

module _ (k : List ℕ) (l : Launch) (v d : List ℕ) where
  abbrev own : List (List ℕ)
  own = lines_of k step_limit (own_start k l v d)

  -- the tests of a launch, before the rows rs
  module _ (rs : List (Row Bool)) where
    fails : (runs_ok_of l.fixed k v (alone d) && launch_ok_of l) ≡ false → first (launch_tests k l v (alone d) ++ rs) ≡ 1
    fails a = launch_fails (runs_ok_of l.fixed k v (alone d)) (launch_ok_of l) rs a

    passes : (runs_ok_of l.fixed k v (alone d) && launch_ok_of l) ≡ true → first (launch_tests k l v (alone d) ++ rs) ≡ first rs
    passes a = launch_passes (runs_ok_of l.fixed k v (alone d)) (launch_ok_of l) rs a

  -- ---- what a trace of the run leaves

  module _ (n : ℕ) (v' d' t u : List ℕ) (r : Traces k (own_start k l v d) n v' d' t u) where
    left_ran : lent_runs v' d' ≡ lent_runs_of 0 k l v d
    unfolding lent_runs_of own_end
    left_ran = ap₂ lent_runs r.vector r.bytes

    left_still : n ≡ 0 → lent_runs v' d' ≡ lent_runs_of 17 k l v d
    unfolding lent_runs_of
    left_still z =
        let e = run_left k (own_start k l v d) (sym r.count ∙ z) in
        ap₂ lent_runs (r.vector ∙ ap (λ (m : State). m.vector) e) (r.bytes ∙ ap (λ (m : State). m.bytes.data_bytes) e)

    steps_none : n ≡ 0 → no_steps k l v d ≡ true
    unfolding own_of
    steps_none z = eq-eqb _ _ (sym r.count ∙ z)

    steps_some : (n ≡ 0 → ⊥) → no_steps k l v d ≡ false
    unfolding own_of
    steps_some z = ne_eqb _ _ (λ e. z (r.count ∙ e))

    fits : sheet_room ≤ length t → sheet_size (length own) ≤ length t
    fits h = omega (arith, r.few, r.count)

    own_back : sheet_room ≤ length t → lines_at n u head_size ≡ own
    own_back h = ap₂ (λ (i : ℕ) (x : List ℕ). lines_at i x head_size) r.count r.lines ∙ lines_put t own (own_lines k step_limit (own_start k l v d)) (fits h)

  -- ---- marking

  module _ (s : List ℕ) where
    abbrev mark_rows : List (Row Bool)
    mark_rows = drop 2 (mark_tests k l v d s)

    mark_refused : (c : ℕ) → (c ≡ 0 → ⊥) → first (mark_tests k l v d s) ≡ c → (e : LentRuns) → e ≡ lent_runs_of c k l v d → marking c NoMarks 0 e ≡ mark_of k l v d s
    unfolding mark_of
    mark_refused c z h e f = rw (f, h, ne_eqb c 0 z)

    pub mark_launch : (runs_ok_of l.fixed k v (alone d) && launch_ok_of l) ≡ false → marking 1 NoMarks 0 (lent_runs v d) ≡ mark_of k l v d s
    unfolding lent_runs_of
    mark_launch a = mark_refused 1 (λ z. omega arith) (fails mark_rows a) (lent_runs v d) refl

    module _ (a : (runs_ok_of l.fixed k v (alone d) && launch_ok_of l) ≡ true) where
      pub mark_sheet : sheet_ok_of s ≡ false → marking 16 NoMarks 0 (lent_runs v d) ≡ mark_of k l v d s
      unfolding lent_runs_of
      mark_sheet b = mark_refused 16 (λ z. omega arith) (passes mark_rows a ∙ rw b) (lent_runs v d) refl

      module _ (b : sheet_ok_of s ≡ true) (n : ℕ) (v' d' t u : List ℕ) (r : Traces k (own_start k l v d) n v' d' t u) where
        pub mark_none : n ≡ 0 → marking 17 NoMarks 0 (lent_runs v' d') ≡ mark_of k l v d s
        mark_none z = mark_refused 17 (λ y. omega arith) (passes mark_rows a ∙ rw (b, steps_none n v' d' t u r z)) (lent_runs v' d') (left_still n v' d' t u r z)

        pub mark_done : (n ≡ 0 → ⊥) → sheet_room ≤ length t → (g : Marks) → g ≡ compare_of 1 (lines_at n u head_size) (lines_in s) → marking 0 g n (lent_runs v' d') ≡ mark_of k l v d s
        unfolding mark_of own_of
        mark_done z h g e =
            let c : first (mark_tests k l v d s) ≡ 0 = passes mark_rows a ∙ rw (b, steps_some n v' d' t u r z) in
            rw (c, left_ran n v' d' t u r, e, own_back n v' d' t u r h, r.count)

  -- ---- the model sheet

  module _ (t : List ℕ) where
    abbrev model_rows : List (Row Bool)
    model_rows = drop 2 (model_tests k l v d t)

    model_refused : (c : ℕ) → (c ≡ 0 → ⊥) → first (model_tests k l v d t) ≡ c → (e : LentRuns) → e ≡ lent_runs_of c k l v d → modelling c 0 t e ≡ model_of k l v d t
    unfolding model_of
    model_refused c z h e f = rw (f, h, ne_eqb c 0 z)

    pub model_launch : (runs_ok_of l.fixed k v (alone d) && launch_ok_of l) ≡ false → modelling 1 0 t (lent_runs v d) ≡ model_of k l v d t
    unfolding lent_runs_of
    model_launch a = model_refused 1 (λ z. omega arith) (fails model_rows a) (lent_runs v d) refl

    module _ (a : (runs_ok_of l.fixed k v (alone d) && launch_ok_of l) ≡ true) where
      pub model_room : length t < sheet_room → modelling 1 0 t (lent_runs v d) ≡ model_of k l v d t
      unfolding lent_runs_of
      model_room b = model_refused 1 (λ z. omega arith) (passes model_rows a ∙ rw (lt-leb _ _ b)) (lent_runs v d) refl

      module _ (b : sheet_room ≤ length t) (n : ℕ) (v' d' u : List ℕ) (r : Traces k (own_start k l v d) n v' d' t u) where
        -- nothing is put
        untouched : n ≡ 0 → u ≡ t
        unfolding flatten
        untouched z = r.lines ∙ ap (λ (ls : List (List ℕ)). sets t head_size (flatten ls)) (length_none own (sym r.count ∙ z))

        pub model_none : n ≡ 0 → modelling 17 0 u (lent_runs v' d') ≡ model_of k l v d t
        model_none z =
            ap (λ (x : List ℕ). modelling 17 0 x (lent_runs v' d')) (untouched z)
            ∙ model_refused 17 (λ y. omega arith) (passes model_rows a ∙ rw (le-leb _ _ b, steps_none n v' d' t u r z)) (lent_runs v' d') (left_still n v' d' t u r z)

        pub model_done : (n ≡ 0 → ⊥) → (w : ℕ) → w ≡ sheet_size n → (x : List ℕ) → x ≡ sets u 0 (head_of n) → modelling 0 w x (lent_runs v' d') ≡ model_of k l v d t
        unfolding model_of own_of
        model_done z w e x f =
            let c : first (model_tests k l v d t) ≡ 0 = passes model_rows a ∙ rw (le-leb _ _ b, steps_some n v' d' t u r z) in
            let ls : Lines own = own_lines k step_limit (own_start k l v d) in
            let y : x ≡ sets t 0 (sheet_of own) = f ∙ ap₂ (λ (p : List ℕ) (i : ℕ). sets p 0 (head_of i)) r.lines r.count ∙ sheet_put t own ls (fits n v' d' t u r b) in
            let q : w ≡ length (sheet_of own) = e ∙ ap sheet_size r.count ∙ sym (sheet_length own ls) in
            rw (c, left_ran n v' d' t u r, y, q)
