-- What marking promises.
use Prim.Native.Nat.{ℕ, ◌+◌, ◌≤◌}
use mathlib.Core.Path.{◌≡◌, refl, sym, ap, ap₂, ◌∙◌, subst}
use mathlib.Core.Bool.{Bool, true, false, not, true≢false}
use mathlib.Core.List.{List, [], ◌∷◌, ◌++◌}
use native.Mathlib.Omega.{arith}
use native.Mathlib.Nat.{zero-add}
use lib.Dec.{eqb, leb}
use lib.ListN.{length, take, drop, replicate, length-append}
use lib.Seq.{sets-eq, take_at, length-take-le}
use borrow.Author.Tests.{eqb-false, ne_eqb, leb-true, le-leb}
use Rattle.std.specs.Prelude.{Result}
use Rattle.answer.specs.declared.Refusal.{Refusal}
use Rattle.answer.specs.Rows.{◌⇒◌, first, Iff}
use Rattle.answer.proofs.Rows.{passed}
use Rattle.answer.proofs.Numbers.{number_one}
use Rattle.lanes.specs.Lanes.{file_words}
use Rattle.memory.specs.Memories.{alone}
use Rattle.warp.proofs.SplitLaws.{by_cond}
use Rattle.warp.specs.declared.Launch.{Launch}
use Rattle.warp.specs.WellFormed.{launch_ok_of}
use Rattle.definition.specs.State.{Outcome, outcome, state}
use Rattle.definition.specs.Refuse.{runs_ok_of}
use Rattle.definition.specs.Calls.{launched_of, launch_of}
use Rattle.definition.proofs.Calls.{launch_done}
use Rattle.promises.proofs.Refusals.{is_zero}
use Rattle.promises.proofs.Determined.{determined_whole}
use Rattle.promises.specs.Determined.{ShowsAll}
use Rattle.sheet_lines.specs.declared.Marks.TheVariants.{NoMarks, Full}
use Rattle.sheet_lines.specs.Sheet.{head_size, step_limit, sheet_size, sheet_of, sheet_ok_of, steps_in, lines_in}
use Rattle.sheet_lines.specs.Compare.{marks_number, compare_of}
use Rattle.sheet_lines.proofs.Lines.{Lines, own_lines, lines_few}
use Rattle.sheet_lines.proofs.Sheets.{sheet_length}
use Rattle.sheet.specs.declared.Marked.{Marked}
use Rattle.sheet.specs.Mark.{own_start, own_of, own_end, no_steps, LentRuns, lent_runs, lent_runs_of, unmarked, Marking, marking, mark_of, Modelling, model_of, sheet_room}
use Rattle.sheet_promises.specs.Marks.{written_of, FullExactly, ModelFull, EmptyRefused, EmptyNever, NoStepsNever, CutNever, Says, MarkSays, MarkAnswers, ModelAnswers, LeftBy, MarkLeaves, ModelLeaves, TargetKept, TargetWritten, mark_seen, model_seen, MarkDetermined, ModelDetermined}
use Rattle.sheet_promises.proofs.RoundTrip.{sheet_says, lines_long, sheet_back, sheet_formed, sheet_lines}
use Rattle.sheet_promises.proofs.Compares.{says}

-- ---- the numbers, by the tests: a and b a launch's, c the sheet's or the target's with its number n, e that of a run of no steps

abbrev launch_number : Bool → Bool → ℕ
launch_number a b = first (1 ⇒ not a ∷ 1 ⇒ not b ∷ [])

abbrev number_by : ℕ → Bool → Bool → Bool → Bool → ℕ
number_by n a b c e = first (1 ⇒ not a ∷ 1 ⇒ not b ∷ n ⇒ not c ∷ 17 ⇒ e ∷ [])

zero_by : (n : ℕ) → (n ≡ 0 → ⊥) → (a b c e : Bool) → Iff (number_by n a b c e ≡ 0) ((launch_number a b ≡ 0) × (c ≡ true) × (e ≡ false))
zero_by n z false b c e = (λ q. absurd (omega arith), λ q. absurd (omega (arith, q.0)))
zero_by n z true false c e = (λ q. absurd (omega arith), λ q. absurd (omega (arith, q.0)))
zero_by n z true true false e = (λ q. absurd (z q), λ q. absurd (true≢false (sym q.1)))
zero_by n z true true true true = (λ q. absurd (omega arith), λ q. absurd (true≢false q.2))
zero_by n z true true true false = (λ q. (refl, refl, refl), λ q. refl)

none_by : (n : ℕ) → (n ≡ 17 → ⊥) → (a b c e : Bool) → Iff (number_by n a b c e ≡ 17) ((launch_number a b ≡ 0) × (c ≡ true) × (e ≡ true))
none_by n z false b c e = (λ q. absurd (omega arith), λ q. absurd (omega (arith, q.0)))
none_by n z true false c e = (λ q. absurd (omega arith), λ q. absurd (omega (arith, q.0)))
none_by n z true true false e = (λ q. absurd (z q), λ q. absurd (true≢false (sym q.1)))
none_by n z true true true true = (λ q. (refl, refl, refl), λ q. refl)
none_by n z true true true false = (λ q. absurd (omega arith), λ q. absurd (true≢false (sym q.2)))

sheet_by : (a b c e : Bool) → Iff (number_by 16 a b c e ≡ 16) ((launch_number a b ≡ 0) × (c ≡ false))
sheet_by false b c e = (λ q. absurd (omega arith), λ q. absurd (omega (arith, q.0)))
sheet_by true false c e = (λ q. absurd (omega arith), λ q. absurd (omega (arith, q.0)))
sheet_by true true false e = (λ q. (refl, refl), λ q. refl)
sheet_by true true true true = (λ q. absurd (omega arith), λ q. absurd (true≢false q.1))
sheet_by true true true false = (λ q. absurd (omega arith), λ q. absurd (true≢false q.1))

size_by : (a b c e : Bool) → Iff (number_by 16 a b c e ≡ 1) (launch_number a b ≡ 1)
size_by false b c e = (λ q. refl, λ q. refl)
size_by true false c e = (λ q. refl, λ q. refl)
size_by true true false e = (λ q. absurd (omega arith), λ q. absurd (omega arith))
size_by true true true true = (λ q. absurd (omega arith), λ q. absurd (omega arith))
size_by true true true false = (λ q. absurd (omega arith), λ q. absurd (omega arith))

others_by : (a b c e : Bool) → (number_by 1 a b c e ≡ 0 → ⊥) → (number_by 1 a b c e ≡ 17 → ⊥) → number_by 1 a b c e ≡ 1
others_by false b c e y z = refl
others_by true false c e y z = refl
others_by true true false e y z = refl
others_by true true true true y z = absurd (z refl)
others_by true true true false y z = absurd (y refl)

module _ (k : List ℕ) (l : Launch) (v d : List ℕ) where
  abbrev sizes : Bool
  sizes = runs_ok_of l.fixed k v (alone d)

  abbrev own : List (List ℕ)
  own = own_of k l v d

  abbrev none : Bool
  none = no_steps k l v d

  launch_number_lem : (launch_of k l v (alone d)).code ≡ launch_number sizes (launch_ok_of l)
  unfolding launch_of
  launch_number_lem = refl

  -- what a launch that isn't refused leaves
  launched : (launch_of k l v (alone d)).code ≡ 0 → launch_of k l v (alone d) ≡ outcome 0 (state (launched_of l) (replicate file_words 0) (alone d))
  launched z =
      let y = sym launch_number_lem ∙ z in
      launch_done k l v (alone d) (passed [] (1 ⇒ not (launch_ok_of l) ∷ []) 1 sizes refl y) (passed (1 ⇒ not sizes ∷ []) [] 1 (launch_ok_of l) refl y)

  own_sized : Lines own
  unfolding own_of
  own_sized = own_lines k step_limit (own_start k l v d)

  own_few : length own ≤ step_limit
  unfolding own_of
  own_few = lines_few k step_limit (own_start k l v d)

  -- the number n, and what is left
  leaves : (n : ℕ) (e : LentRuns) → e ≡ lent_runs_of n k l v d → (n ≡ 17 → (launch_of k l v (alone d)).code ≡ 0) → LeftBy k l v d n e
  unfolding lent_runs_of own_end
  leaves n e is h =
      record {
        done = λ z. is ∙ ap (λ (i : ℕ). lent_runs_of i k l v d) z;
        size = λ z. is ∙ ap (λ (i : ℕ). lent_runs_of i k l v d) z;
        sheet = λ z. is ∙ ap (λ (i : ℕ). lent_runs_of i k l v d) z;
        none = λ z. is ∙ ap (λ (i : ℕ). lent_runs_of i k l v d) z ∙ ap (λ (o : Outcome). lent_runs o.left.vector o.left.bytes.data_bytes) (launched (h z));
      }

  -- ---- marking the sheet s

  module _ (s : List ℕ) where
    abbrev marked : Marking
    marked = mark_of k l v d s

    abbrev mark_number : ℕ
    mark_number = number_by 16 sizes (launch_ok_of l) (sheet_ok_of s) none

    pub mark_number_lem : marked.number ≡ mark_number
    unfolding mark_of
    mark_number_lem = by_cond (λ (r : Marking). r.number ≡ mark_number) (eqb mark_number 0) _ _ (λ z. refl) (λ z. refl)

    mark_left : marked.left ≡ lent_runs_of marked.number k l v d
    unfolding mark_of
    mark_left = by_cond (λ (r : Marking). r.left ≡ lent_runs_of r.number k l v d) (eqb mark_number 0) _ _ (λ z. refl) (λ z. refl)

    mark_taken : marked.number ≡ 0 → marked.marks ≡ compare_of 1 own (lines_in s)
    unfolding mark_of
    mark_taken z = let y = sym mark_number_lem ∙ z in rw y

    mark_refused : (n : ℕ) → (n ≡ 0 → ⊥) → mark_number ≡ n → marked ≡ marking n NoMarks 0 (lent_runs_of n k l v d)
    unfolding mark_of
    mark_refused n h y = rw (y, ne_eqb n 0 h)

    pub refused_unmarked : (marked.number ≡ 0 → ⊥) → marked.marks ≡ NoMarks
    refused_unmarked z = ap (λ (r : Marking). r.marks) (mark_refused mark_number (λ y. z (mark_number_lem ∙ y)) refl)

    mark_zero : Iff (marked.number ≡ 0) (((launch_of k l v (alone d)).code ≡ 0) × (sheet_ok_of s ≡ true) × (none ≡ false))
    mark_zero = rw (mark_number_lem, launch_number_lem) (zero_by 16 (λ z. omega arith) sizes (launch_ok_of l) (sheet_ok_of s) none)

    mark_sheet : Iff (marked.number ≡ 16) (((launch_of k l v (alone d)).code ≡ 0) × (sheet_ok_of s ≡ false))
    mark_sheet = rw (mark_number_lem, launch_number_lem) (sheet_by sizes (launch_ok_of l) (sheet_ok_of s) none)

    full_number : marked.marks ≡ Full → marked.number ≡ 0
    full_number e = is_zero marked.number (λ z. z) (λ z. absurd (omega (arith, ap marks_number (sym (refused_unmarked z) ∙ e))))

    full_lines : marked.marks ≡ Full → own ≡ lines_in s
    full_lines e = (says own (lines_in s)).full.0 (sym (mark_taken (full_number e)) ∙ e)

    -- a sheet with full marks has the model sheet's length, and some steps
    full_size : marked.marks ≡ Full → (length s ≡ sheet_size (length own)) × (length own ≡ 0 → ⊥)
    full_size e =
        let q = mark_zero.0 (full_number e) in
        let n : length own ≡ steps_in s = ap length (full_lines e) ∙ lines_long (steps_in s) s head_size in
        ((sheet_says s q.1).total ∙ ap sheet_size (sym n), eqb-false _ _ q.2)

  -- the model sheet gets full marks
  own_full : (launch_of k l v (alone d)).code ≡ 0 → none ≡ false → (mark_of k l v d (sheet_of own)).marks ≡ Full
  own_full z e =
      mark_taken (sheet_of own) ((mark_zero (sheet_of own)).1 (z, sheet_formed own own_sized own_few, e))
      ∙ (says own (lines_in (sheet_of own))).full.1 (sym (sheet_lines own own_sized own_few))

  -- ---- the model sheet into the target t

  module _ (t : List ℕ) where
    abbrev modelled : Modelling
    modelled = model_of k l v d t

    abbrev room : Bool
    room = leb sheet_room (length t)

    abbrev model_number : ℕ
    model_number = number_by 1 sizes (launch_ok_of l) room none

    pub model_number_lem : modelled.number ≡ model_number
    unfolding model_of
    model_number_lem = by_cond (λ (r : Modelling). r.number ≡ model_number) (eqb model_number 0) _ _ (λ z. refl) (λ z. refl)

    model_left : modelled.left ≡ lent_runs_of modelled.number k l v d
    unfolding model_of
    model_left = by_cond (λ (r : Modelling). r.left ≡ lent_runs_of r.number k l v d) (eqb model_number 0) _ _ (λ z. refl) (λ z. refl)

    model_zero : Iff (modelled.number ≡ 0) (((launch_of k l v (alone d)).code ≡ 0) × (room ≡ true) × (none ≡ false))
    model_zero = rw (model_number_lem, launch_number_lem) (zero_by 1 (λ z. omega arith) sizes (launch_ok_of l) room none)

    pub model_unwritten : (modelled.number ≡ 0 → ⊥) → modelled.written ≡ 0
    unfolding model_of
    model_unwritten z = rw (ne_eqb model_number 0 (λ y. z (model_number_lem ∙ y)))

    model_kept : (modelled.number ≡ 0 → ⊥) → modelled.target ≡ t
    unfolding model_of
    model_kept z = rw (ne_eqb model_number 0 (λ y. z (model_number_lem ∙ y)))

    module _ (z : modelled.number ≡ 0) where
      taken : model_number ≡ 0
      taken = sym model_number_lem ∙ z

      model_size : modelled.written ≡ length (sheet_of own)
      unfolding model_of
      model_size = rw taken

      fits : length (sheet_of own) ≤ length t
      fits = omega (arith, leb-true sheet_room (length t) (model_zero.0 z).1, sheet_length own own_sized, own_few)

      model_target : modelled.target ≡ sheet_of own ++ drop (length (sheet_of own)) t
      unfolding model_of
      model_target = rw taken (sets-eq (sheet_of own) t 0 (omega (arith, fits)) ∙ ap (λ (i : ℕ). sheet_of own ++ drop i t) (zero-add (length (sheet_of own))))

      model_bytes : written_of modelled ≡ sheet_of own
      model_bytes = ap₂ (λ (n : ℕ) (x : List ℕ). take n x) model_size model_target ∙ take_at (sheet_of own) _ (length (sheet_of own)) refl

-- ---- full marks

pub model_full : ModelFull
model_full k l v d t z =
    let q = (model_zero k l v d t).0 z in
    ap (λ (s : List ℕ). (mark_of k l v d s).marks) (model_bytes k l v d t z) ∙ own_full k l v d q.0 q.2

pub full_exactly : FullExactly
full_exactly k l v d s t h room = (
  λ e.
      let q = (mark_zero k l v d s).0 (full_number k l v d s e) in
      let z = (model_zero k l v d t).1 (q.0, le-leb _ _ room, q.2) in
      (z, sym (model_bytes k l v d t z ∙ ap sheet_of (full_lines k l v d s e) ∙ sheet_back s h q.1)),
  λ p. ap (λ (x : List ℕ). (mark_of k l v d x).marks) p.1 ∙ model_full k l v d t p.0,
)

pub empty_never : EmptyNever
empty_never k l v d e = let q = (full_size k l v d [] e).0 in omega arith

empty_malformed : sheet_ok_of [] ≡ false
unfolding sheet_ok_of
empty_malformed = refl

pub empty_refused : EmptyRefused
unfolding lent_runs_of
empty_refused k l v d z =
    let y = sym (mark_number_lem k l v d []) ∙ (mark_sheet k l v d []).1 (z, empty_malformed) in
    mark_refused k l v d [] 16 (λ e. omega arith) y

pub no_steps_never : NoStepsNever
no_steps_never k l v d s h e = let q = full_size k l v d s e in q.1 (omega (arith, q.0))

pub cut_never : CutNever
cut_never k l v d t n z h e =
    let b = fits k l v d t z in
    let w = model_size k l v d t z in
    let x : List ℕ = sheet_of (own_of k l v d) in
    let c : length (model_of k l v d t).target ≡ length x + length (drop (length x) t) = ap length (model_target k l v d t z) ∙ length-append x (drop (length x) t) in
    let q = (full_size k l v d (take n (model_of k l v d t).target) e).0 in
    omega (arith, q, length-take-le n (model_of k l v d t).target (omega arith), sheet_length (own_of k l v d) (own_sized k l v d))

-- ---- each mark and each number, when and only when

pub mark_says : MarkSays
mark_says k l v d s z = subst (Says (own_of k l v d) (lines_in s)) (sym (mark_taken k l v d s z)) (says (own_of k l v d) (lines_in s))

pub mark_answers : MarkAnswers
mark_answers k l v d s =
    let a = sizes k l v d in
    let b = launch_ok_of l in
    let e = none k l v d in
    record {
      done = mark_zero k l v d s;
      size = rw (mark_number_lem k l v d s, launch_number_lem k l v d) (size_by a b (sheet_ok_of s) e);
      sheet = mark_sheet k l v d s;
      none = rw (mark_number_lem k l v d s, launch_number_lem k l v d) (none_by 16 (λ z. omega arith) a b (sheet_ok_of s) e);
    }

pub model_answers : ModelAnswers
model_answers k l v d t =
    let i = model_zero k l v d t in
    let j = rw (← model_number_lem k l v d t, ← launch_number_lem k l v d) at (none_by 1 (λ z. omega arith) (sizes k l v d) (launch_ok_of l) (leb sheet_room (length t)) (none k l v d)) in
    record {
      done = (λ z. let q = i.0 z in (q.0, leb-true _ _ q.1, q.2), λ q. i.1 (q.0, le-leb _ _ q.1, q.2));
      none = (λ z. let q = j.0 z in (q.0, leb-true _ _ q.1, q.2), λ q. j.1 (q.0, le-leb _ _ q.1, q.2));
      others = rw (model_number_lem k l v d t) (others_by (sizes k l v d) (launch_ok_of l) (leb sheet_room (length t)) (none k l v d));
    }

-- ---- what is left

pub mark_leaves : MarkLeaves
mark_leaves k l v d s = leaves k l v d _ _ (mark_left k l v d s) (λ z. ((mark_answers k l v d s).none.0 z).0)

pub model_leaves : ModelLeaves
model_leaves k l v d t = leaves k l v d _ _ (model_left k l v d t) (λ z. ((model_answers k l v d t).none.0 z).0)

pub target_kept : TargetKept
target_kept k l v d t z = model_kept k l v d t z

pub target_written : TargetWritten
target_written k l v d t z = model_target k l v d t z

-- ---- determinacy

all_mark : ShowsAll mark_seen
all_mark r t e =
    ap₂ (λ (a : Result Marked Refusal) (q : Marking). record { result = a; left = q.left })
    (number_one unmarked _ _ (ap (λ (q : Marking). q.number) e) (ap (λ (q : Marking). record { marks = q.marks; steps = q.steps }) e)) e

all_model : ShowsAll model_seen
all_model r t e =
    ap₂ (λ (a : Result ℕ Refusal) (q : Modelling). record { result = a; target = q.target; left = q.left })
    (number_one 0 _ _ (ap (λ (q : Modelling). q.number) e) (ap (λ (q : Modelling). q.written) e)) e

pub mark_determined : MarkDetermined
mark_determined k v d s = determined_whole mark_seen (λ (l : Launch). mark_of k l v d s) all_mark

pub model_determined : ModelDetermined
model_determined k v d t = determined_whole model_seen (λ (l : Launch). model_of k l v d t) all_model
