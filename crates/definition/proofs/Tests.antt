-- The refusal table of a step: which row answers, what a refusal leaves, and a step test by test.
use Prim.Native.Nat.{ℕ, ◌≤◌}
use mathlib.Core.Path.{◌≡◌, refl, sym, subst}
use mathlib.Core.Bool.{Bool, true, false, not, ◌&&◌, cond, or-true, true≢false}
use mathlib.Core.List.{List, [], ◌∷◌, ◌++◌}
use native.Mathlib.Omega.{arith}
use lib.Dec.{eqb, leb}
use lib.ListN.{take}
use borrow.Author.Tests.{leb-true, ne_eqb}
use Rattle.answer.specs.Rows.{Row, ◌⇒◌, first, one_of, Iff}
use Rattle.answer.specs.Answer.{last_step_number}
use Rattle.answer.proofs.Rows.{both, silent, without, first_silent, first_kept, zero_silent, numbered, row_answers, numbered_first, numbered_without, numbered_under, one_holds}
use Rattle.isa.specs.declared.Instr.{Instr}
use Rattle.isa.specs.declared.Instr.TheVariants as I
use Rattle.isa.specs.declared.Space.{Space}
use Rattle.isa.specs.declared.VReg.{VReg}
use Rattle.isa.specs.Decode.{decode_of}
use Rattle.isa.specs.Prefix.{prefixed}
use Rattle.warp.specs.WellFormed.{well_formed_of}
use Rattle.definition.specs.State.{State, Outcome, outcome, unless, fixed_of, lane_at, instr_at, used_up}
use Rattle.definition.specs.Refuse.{runs_ok_of, on_kernel, fetch_tests, some_outside, some_crosses, access_tests, refusals_of, step_tests, tests_of, step_numbers}
use Rattle.definition.specs.Exec.{effect, effect_of}
use Rattle.definition.specs.Step.{carried_out, step_of, exec_of, fetch_of}
use Rattle.definition.proofs.Used.{tests_used}

-- The answer of a step is the number of the first row that holds, 0 where none does.
pub step_rows : (k : List ℕ) (m : State) → (step_of k m).code ≡ first (tests_of k m)
unfolding step_of
step_rows k m = refl

-- A refused step leaves all as it was handed in.
pub step_kept : (k : List ℕ) (m : State) → ((step_of k m).code ≡ 0 → ⊥) → step_of k m ≡ outcome (step_of k m).code m
unfolding step_of
step_kept k m n = rw (ne_eqb _ _ n)

-- ---- the numbers

-- one of a table's numbers, from 6 on: an instruction's own
abbrev is_own : ℕ → Bool
is_own n = leb 6 n && one_of step_numbers n

pub rows_numbered : (i : Instr) (m : State) → numbered is_own (refusals_of i m) ≡ true
unfolding refusals_of
rows_numbered I.Refused m = refl
rows_numbered (I.Lui r n) m = refl
rows_numbered (I.Auipc r n) m = refl
rows_numbered (I.Jal r n) m = refl
rows_numbered (I.Jalr r a n) m = refl
rows_numbered (I.Branch c a b n) m = refl
rows_numbered (I.Load k r a n) m = refl
rows_numbered (I.Store k a b n) m = refl
rows_numbered (I.OpImm o r a n) m = refl
rows_numbered (I.OpReg o r a b) m = refl
rows_numbered (I.Fence r a n) m = refl
rows_numbered (I.Csr o r a n) m = refl
rows_numbered (I.CsrImm o r i n) m = refl
rows_numbered (I.Vector o a) m = refl
rows_numbered (I.VMove r s) m = refl
rows_numbered (I.VMerge r b s) m = refl
rows_numbered (I.VMoveXS r b) m = refl
rows_numbered (I.VMoveSX r a) m = refl
rows_numbered (I.Vid t r) m = refl
rows_numbered (I.VBranch c a b n) m = refl
rows_numbered I.Join m = refl
rows_numbered (I.SetRpc r a n) m = refl
rows_numbered I.EndPrg m = refl
rows_numbered (I.Barrier n) m = refl
rows_numbered (I.VLoad s k r a n) m = refl
rows_numbered (I.VStore s k a b n) m = refl
rows_numbered (I.RegExt n) m = refl
rows_numbered (I.RegExtI n) m = refl

-- A step's answer is 0 or one of its table's numbers, which are refusals' numbers.
pub step_known : (k : List ℕ) (m : State) → one_of (0 ∷ step_numbers) (step_of k m).code ≡ true
unfolding step_of
step_known k m =
    numbered_first (one_of (0 ∷ step_numbers)) (tests_of k m) refl
    (numbered_under is_own (one_of (0 ∷ step_numbers)) (λ n h. rw ((both (leb 6 n) (one_of step_numbers n) h).1, or-true)) (refusals_of (instr_at k m) m) (rows_numbered (instr_at k m) m))

pub step_last : (k : List ℕ) (m : State) → (step_of k m).code ≤ last_step_number
step_last k m = leb-true _ _ (one_holds (λ n. leb n last_step_number) (0 ∷ step_numbers) refl (step_of k m).code (step_known k m))

-- An access by lanes that crosses a word boundary is refused for that, wherever its lanes' accesses lie and whatever else is tested.
pub crosses_first : (s : Space) (n : ℕ) (a : VReg) (off : ℕ) (m : State) (rs : List (Row Bool)) → some_crosses s n a off m ≡ true → first (access_tests s n a off m ++ rs) ≡ 14
crosses_first s n a off m rs e = rw e

-- Where none crosses, 9 decides, and then what else is tested.
pub crosses_not : (s : Space) (n : ℕ) (a : VReg) (off : ℕ) (m : State) (rs : List (Row Bool)) → some_crosses s n a off m ≡ false
    → first (access_tests s n a off m ++ rs) ≡ first (9 ⇒ some_outside n (lane_at s a off m) m ∷ rs)
crosses_not s n a off m rs e = rw e

-- ---- 'when, and only when', row by row

-- wherever a step's table is parted
pub step_row : (k : List ℕ) (m : State) (rs us : List (Row Bool)) (n : ℕ) (t : Bool) → tests_of k m ≡ rs ++ (n ⇒ t ∷ us) → (n ≡ 0 → ⊥) → without n rs ≡ true → without n us ≡ true
    → Iff ((step_of k m).code ≡ n) ((silent rs ≡ true) × (t ≡ true))
unfolding step_of
step_row k m rs us n t e z a b = subst (λ (l : List (Row Bool)). Iff (first l ≡ n) ((silent rs ≡ true) × (t ≡ true))) (sym e) (row_answers rs us n t z a b)

late : (a b c d e : Bool) (rs : List (Row Bool)) (n : ℕ) → 6 ≤ n
    → Iff (first (1 ⇒ not a ∷ 2 ⇒ not b ∷ 3 ⇒ c ∷ 4 ⇒ d ∷ 5 ⇒ not e ∷ rs) ≡ n) ((silent (1 ⇒ not a ∷ 2 ⇒ not b ∷ 3 ⇒ c ∷ 4 ⇒ d ∷ 5 ⇒ not e ∷ []) ≡ true) × (first rs ≡ n))
late false b c d e rs n h = (λ p. absurd (omega arith), λ p. absurd (true≢false (sym p.0)))
late true false c d e rs n h = (λ p. absurd (omega arith), λ p. absurd (true≢false (sym p.0)))
late true true true d e rs n h = (λ p. absurd (omega arith), λ p. absurd (true≢false (sym p.0)))
late true true false true e rs n h = (λ p. absurd (omega arith), λ p. absurd (true≢false (sym p.0)))
late true true false false false rs n h = (λ p. absurd (omega arith), λ p. absurd (true≢false (sym p.0)))
late true true false false true rs n h = (λ p. (refl, p), λ p. p.1)

module _ (k : List ℕ) (m : State) where
  abbrev own : List (Row Bool)
  own = refusals_of (instr_at k m) m

  not_own : (n : ℕ) → is_own n ≡ false → without n own ≡ true
  not_own n h = numbered_without n is_own own h (rows_numbered (instr_at k m) m)

  abbrev t1 : Bool
  t1 = not (runs_ok_of (fixed_of m) k m.vector m.bytes)

  abbrev t2 : Bool
  t2 = not (well_formed_of m.warp)

  abbrev t5 : Bool
  t5 = not (on_kernel k m.warp)

  abbrev before : ℕ → List (Row Bool)
  before n = take n (step_tests k m)

  pub row1 : Iff ((step_of k m).code ≡ 1) ((silent (before 0) ≡ true) × (t1 ≡ true))
  row1 = step_row k m (before 0) (2 ⇒ t2 ∷ 3 ⇒ m.warp.ended ∷ 4 ⇒ m.warp.waiting ∷ 5 ⇒ t5 ∷ own) 1 t1 refl (λ z. omega arith) refl (not_own 1 refl)

  pub row2 : Iff ((step_of k m).code ≡ 2) ((silent (before 1) ≡ true) × (t2 ≡ true))
  row2 = step_row k m (before 1) (3 ⇒ m.warp.ended ∷ 4 ⇒ m.warp.waiting ∷ 5 ⇒ t5 ∷ own) 2 t2 refl (λ z. omega arith) refl (not_own 2 refl)

  pub row3 : Iff ((step_of k m).code ≡ 3) ((silent (before 2) ≡ true) × (m.warp.ended ≡ true))
  row3 = step_row k m (before 2) (4 ⇒ m.warp.waiting ∷ 5 ⇒ t5 ∷ own) 3 m.warp.ended refl (λ z. omega arith) refl (not_own 3 refl)

  pub row4 : Iff ((step_of k m).code ≡ 4) ((silent (before 3) ≡ true) × (m.warp.waiting ≡ true))
  row4 = step_row k m (before 3) (5 ⇒ t5 ∷ own) 4 m.warp.waiting refl (λ z. omega arith) refl (not_own 4 refl)

  pub row5 : Iff ((step_of k m).code ≡ 5) ((silent (before 4) ≡ true) × (t5 ≡ true))
  row5 = step_row k m (before 4) own 5 t5 refl (λ z. omega arith) refl (not_own 5 refl)

  -- from 6 on: the instruction's own table says
  pub row_own : (n : ℕ) → 6 ≤ n → Iff ((step_of k m).code ≡ n) ((silent (step_tests k m) ≡ true) × (first own ≡ n))
  unfolding step_of
  row_own n h = late (runs_ok_of (fixed_of m) k m.vector m.bytes) (well_formed_of m.warp) m.warp.ended m.warp.waiting (on_kernel k m.warp) own n h

-- ---- a step, test by test

module _ (k : List ℕ) (m : State) where
  pub step_runs : runs_ok_of (fixed_of m) k m.vector m.bytes ≡ false → step_of k m ≡ outcome 1 m
  unfolding step_of
  step_runs r = rw r

  module _ (r : runs_ok_of (fixed_of m) k m.vector m.bytes ≡ true) where
    pub step_malformed : well_formed_of m.warp ≡ false → step_of k m ≡ outcome 2 m
    unfolding step_of
    step_malformed f = rw (r, f)

-- ---- a step by its word

-- what an instruction alone leaves, and where it is refused m
abbrev pub keeping : Outcome → State → Outcome
keeping o m = unless o.code o.left m

kept_once : (n : ℕ) (new used m : State) → unless n new m ≡ keeping (unless n new used) m
kept_once n new used m = go (eqb n 0)
  where
    go : (b : Bool) → outcome n (cond b new m) ≡ outcome n (cond b (cond b new used) m)
    go true = refl
    go false = refl

module _ (k : List ℕ) (m : State) (r : runs_ok_of (fixed_of m) k m.vector m.bytes ≡ true) (f : well_formed_of m.warp ≡ true) where
  pub step_unfetched : ((fetch_of k m.warp).code ≡ 0 → ⊥) → step_of k m ≡ outcome (fetch_of k m.warp).code m
  unfolding step_of fetch_of
  step_unfetched z = rw (r, f, first_kept (fetch_tests k m.warp) (refusals_of (instr_at k m) m) z, ne_eqb _ _ z)

  -- the instruction alone, on the state whose prefix it uses up
  pub step_fetched : (fetch_of k m.warp).code ≡ 0
      → step_of k m ≡ keeping (exec_of (prefixed m.warp.prefix (decode_of (fetch_of k m.warp).word)) (used_up m)) m
  unfolding step_of fetch_of exec_of
  step_fetched z =
      rw (r, f, first_silent (fetch_tests k m.warp) (refusals_of (instr_at k m) m) (zero_silent (fetch_tests k m.warp) refl z), z, tests_used m (instr_at k m))
      (kept_once (first (refusals_of (instr_at k m) m)) (carried_out (instr_at k m) (used_up m)) (used_up m) m)

-- ---- an instruction alone

module _ (i : Instr) (m : State) where
  pub exec_refused : (n : ℕ) → (n ≡ 0 → ⊥) → first (refusals_of i m) ≡ n → exec_of i m ≡ outcome n m
  unfolding exec_of
  exec_refused n z e = rw (e, ne_eqb n 0 z)

  pub exec_taken : first (refusals_of i m) ≡ 0 → exec_of i m ≡ outcome 0 (effect (effect_of i m) m)
  unfolding exec_of
  exec_taken e = rw e
