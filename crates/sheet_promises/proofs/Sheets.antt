-- What a run's own sheet is: its steps, one by one, in 13 bytes each.
use Prim.Native.Nat.{ℕ, zero, suc, ◌+◌, ◌-◌, ◌≤◌, ◌<◌}
use mathlib.Core.Path.{◌≡◌, refl, sym, ap, ◌∙◌}
use mathlib.Core.List.{List, [], ◌∷◌, ◌++◌}
use native.Mathlib.Omega.{arith}
use native.Mathlib.Nat.{sub-zero}
use lib.ListN.{length, get_or, length-append}
use lib.Seq.{append_snoc, get_or_at}
use Rattle.big_endian.proofs.LayoutLaws.{bytes_values, values_bytes}
use Rattle.definition.specs.State.{State, Outcome, outcome}
use Rattle.definition.specs.Step.{step_of}
use Rattle.definition.specs.Calls.{Ran, steps_of}
use Rattle.definition.proofs.Calls.{turn_end, turn_on, turn_off, run_counted}
use Rattle.promises.specs.Runs.{Steps, start, more}
use Rattle.promises.proofs.Refusals.{is_zero}
use Rattle.sheet_lines.specs.Sheet.{line, line_values, line_bytes, lines_of}
use Rattle.sheet_lines.proofs.Lines.{lines_taken, lines_refused}
use Rattle.sheet_promises.specs.Sheets.{LineBack, LineForth, LinesCount, LineOfStep}

pub line_back : LineBack
line_back pc word mask splits p w m s = values_bytes (line_values pc word mask splits) (p, (w, (m, (s, record {})))) []

pub line_forth : LineForth
line_forth b h e = bytes_values b h line 0 (sym e)

-- ---- as many lines as steps

steps_count : (k : List ℕ) (n t : ℕ) (m : State) → (steps_of k n t m).steps ≡ t + length (lines_of k n m)
unfolding lines_of
steps_count k zero t m = ap (λ (r : Ran). r.steps) (turn_end k t m) ∙ omega arith
steps_count k (suc n) t m =
    is_zero (step_of k m).code
    (λ z. ap (λ (r : Ran). r.steps) (turn_on k n t m z) ∙ steps_count k n (t + 1) (step_of k m).left ∙ omega (arith, ap length (lines_taken k n m z)))
    (λ z. ap (λ (r : Ran). r.steps) (turn_off k n t m z) ∙ omega (arith, ap length (lines_refused k n m z)))

pub lines_count : LinesCount
lines_count k zero m h = absurd (omega arith)
lines_count k (suc n) m h = sym (ap (λ (r : Ran). r.steps) (run_counted k n m) ∙ steps_count k (suc n) 0 m ∙ omega arith)

-- ---- line by line

-- the lines of t taken steps, before those of the rest
record Front (k : List ℕ) (n t : ℕ) (m u : State) : Type 0 where
  taken : List (List ℕ)
  long : length taken ≡ t
  is : lines_of k n m ≡ taken ++ lines_of k (n - t) u

next_line : (k : List ℕ) (n t : ℕ) (u x : State) → t < n → step_of k u ≡ outcome 0 x → lines_of k (n - t) u ≡ line_bytes k u x ∷ lines_of k (n - (t + 1)) x
next_line k n t u x l e =
    let i : n - t ≡ suc (n - (t + 1)) = omega arith in
    rw i (lines_taken k (n - (t + 1)) u (ap (λ (o : Outcome). o.code) e) ∙ ap (λ (o : Outcome). line_bytes k u o.left ∷ lines_of k (n - (t + 1)) o.left) e)

front : (k : List ℕ) (n t : ℕ) (m u : State) → t ≤ n → Steps k t m u → Front k n t m u
front k n t m u l start = record { taken = []; long = refl; is = rw sub-zero }
front k n t m u l (more {t = i} {u = w} p e) =
    let f = front k n i m w (omega arith) p in
    record {
      taken = f.taken ++ (line_bytes k w u ∷ []);
      long = length-append f.taken (line_bytes k w u ∷ []) ∙ omega (arith, f.long);
      is = f.is ∙ ap (λ (ls : List (List ℕ)). f.taken ++ ls) (next_line k n i w u (omega arith) e) ∙ sym (append_snoc f.taken (line_bytes k w u) _);
    }

pub line_of_step : LineOfStep
line_of_step k n t m u x l p e =
    let f = front k n t m u (omega arith) p in
    ap (λ (ls : List (List ℕ)). get_or ls t []) (f.is ∙ ap (λ (ls : List (List ℕ)). f.taken ++ ls) (next_line k n t u x l e))
    ∙ get_or_at f.taken (line_bytes k u x) _ [] t f.long
