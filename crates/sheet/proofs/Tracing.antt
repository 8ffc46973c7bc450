-- The loop over steps that puts each one's line into a target.
use Prim.Native.Nat.{ℕ, suc, ◌+◌, ◌*◌, ◌-◌, ◌<◌, ◌≤◌}
use mathlib.Core.Path.{◌≡◌, refl, sym, ap, ap₂, ◌∙◌}
use mathlib.Core.List.{List, [], ◌∷◌, ◌++◌, flatten, append-nil}
use native.Mathlib.Omega.{arith}
use lib.ListN.{length, get_or, length-append}
use lib.Seq.{sets, append_snoc}
use Rattle.text.proofs.Laws.{sets_append}
use Rattle.big_endian.specs.Layout.{bytes_of}
use Rattle.memory.specs.Memories.{Data}
use Rattle.definition.specs.State.{State, Outcome, place_of}
use Rattle.definition.specs.Step.{step_of}
use Rattle.definition.specs.Calls.{Ran, steps_of, run_of}
use Rattle.definition.proofs.Used.{step_within}
use Rattle.definition.proofs.Calls.{steps_end, steps_on, steps_stop, run_counted}
use Rattle.sheet_lines.specs.Sheet.{head_size, line_size, step_limit, line_values, line_bytes, lines_of}
use Rattle.sheet.specs.Traces.{Traces}
use Rattle.sheet_lines.proofs.Lines.{Lines, flatten_length, flatten_append, line_length, line_is, lines_taken, lines_refused}

lines_snoc : (ls : List (List ℕ)) (a : List ℕ) → Lines ls → length a ≡ line_size → Lines (ls ++ (a ∷ []))
lines_snoc [] a h e = (e, record {})
lines_snoc (b ∷ ls) a h e = (h.0, lines_snoc ls a h.1 e)

-- what holds at each turn, from the state a to the state b: n steps are taken, their lines stand in the target, t before and u now, and the rest of the run from here is the run from the start
pub record Tracing (k : List ℕ) (a b : State) (n : ℕ) (t u : List ℕ) : Type 0 where
  pub few : n ≤ step_limit
  pub done : List (List ℕ)
  pub long : length done ≡ n
  pub sized : Lines done
  pub lines : lines_of k step_limit a ≡ done ++ lines_of k (step_limit - n) b
  pub text : u ≡ sets t head_size (flatten done)
  pub goes : steps_of k step_limit 0 a ≡ steps_of k (step_limit - n) n b
  pub vector : length b.vector ≡ length a.vector
  pub bytes : length b.bytes.data_bytes ≡ length a.bytes.data_bytes

pub tracing_start : (k : List ℕ) (a : State) (t : List ℕ) → Tracing k a a 0 t t
unfolding flatten
tracing_start k a t = record { few = omega arith; done = []; long = refl; sized = record {}; lines = refl; text = refl; goes = refl; vector = refl; bytes = refl }

-- with n lines of step_limit made
module _ (k : List ℕ) (n : ℕ) (m : State) where
  lines_end : step_limit ≤ n → lines_of k (step_limit - n) m ≡ []
  unfolding lines_of
  lines_end h = let z : step_limit - n ≡ 0 = omega arith in rw z

  module _ (l : n < step_limit) where
    more : step_limit - n ≡ suc (step_limit - (n + 1))
    more = omega arith

    pub lines_on : (step_of k m).code ≡ 0 → lines_of k (step_limit - n) m ≡ line_bytes k m (step_of k m).left ∷ lines_of k (step_limit - (n + 1)) (step_of k m).left
    lines_on z = rw more (lines_taken k (step_limit - (n + 1)) m z)

    lines_stop : ((step_of k m).code ≡ 0 → ⊥) → lines_of k (step_limit - n) m ≡ []
    lines_stop z = rw more (lines_refused k (step_limit - (n + 1)) m z)

module _ (k : List ℕ) (a b : State) (n : ℕ) (t u : List ℕ) (r : Tracing k a b n t u) where
  -- where the rest of the lines is empty, and the rest of the run leaves what q does
  ended : (q : Ran) → lines_of k (step_limit - n) b ≡ [] → steps_of k (step_limit - n) n b ≡ q → Traces k a n q.ends.left.vector q.ends.left.bytes.data_bytes t u
  ended q h s =
      let e : lines_of k step_limit a ≡ r.done = r.lines ∙ ap (λ (x : List (List ℕ)). r.done ++ x) h ∙ append-nil r.done in
      let f : run_of k step_limit a ≡ q = run_counted k 4095 a ∙ r.goes ∙ s in
      record {
        few = r.few;
        count = sym (ap length e ∙ r.long);
        lines = r.text ∙ ap (λ (x : List (List ℕ)). sets t head_size (flatten x)) (sym e);
        vector = ap (λ (x : Ran). x.ends.left.vector) (sym f);
        bytes = ap (λ (x : Ran). x.ends.left.bytes.data_bytes) (sym f);
      }

  pub tracing_end : step_limit ≤ n → Traces k a n b.vector b.bytes.data_bytes t u
  tracing_end h = ended _ (lines_end k n b h) (steps_end k step_limit n b h)

  -- a step from such a turn
  module _ (l : n < step_limit) (o : Outcome) (e : o ≡ step_of k b) where
    pub step_lengths : (length o.left.vector ≡ length a.vector) × (length o.left.bytes.data_bytes ≡ length a.bytes.data_bytes)
    step_lengths = rw e ((step_within k b).words ∙ r.vector, (step_within k b).size Data ∙ r.bytes)

    pub tracing_stop : (o.code ≡ 0 → ⊥) → Traces k a n o.left.vector o.left.bytes.data_bytes t u
    tracing_stop z =
        let y : (step_of k b).code ≡ 0 → ⊥ = λ h. z (ap (λ (x : Outcome). x.code) e ∙ h) in
        rw e (ended _ (lines_stop k n b l y) (steps_stop k step_limit n b l y))

    -- w is the word that was read
    pub tracing_on : o.code ≡ 0 → (w : ℕ) → w ≡ get_or k (place_of b.warp) 0 → (u' : List ℕ)
        → u' ≡ sets u (head_size + line_size * n) (bytes_of (line_values b.warp.pc w o.left.warp.mask o.left.warp.depth)) → Tracing k a o.left (n + 1) t u'
    unfolding flatten
    tracing_on z w f u' h =
        let y : (step_of k b).code ≡ 0 = sym (ap (λ (x : Outcome). x.code) e) ∙ z in
        let x : List ℕ = line_bytes k b o.left in
        let i : head_size + line_size * n ≡ head_size + length (flatten r.done) = omega (arith, flatten_length r.done r.sized, r.long) in
        record {
          few = omega arith;
          done = r.done ++ (x ∷ []);
          long = length-append r.done (x ∷ []) ∙ omega (arith, r.long);
          sized = lines_snoc r.done x r.sized (line_length k b o.left);
          lines = r.lines
              ∙ ap (λ (ls : List (List ℕ)). r.done ++ ls) (lines_on k n b l y ∙ ap (λ (p : Outcome). line_bytes k b p.left ∷ lines_of k (step_limit - (n + 1)) p.left) (sym e))
              ∙ sym (append_snoc r.done x _);
          text = h ∙ ap (sets u (head_size + line_size * n)) (line_is k b o.left w f) ∙ ap₂ (λ (s : List ℕ) (j : ℕ). sets s j x) r.text i ∙ sets_append (flatten r.done) t head_size x
              ∙ ap (sets t head_size) (sym (flatten_append r.done (x ∷ []) ∙ ap (λ (s : List ℕ). flatten r.done ++ s) (append-nil x)));
          goes = r.goes ∙ steps_on k step_limit n b l y ∙ ap (λ (p : Outcome). steps_of k (step_limit - (n + 1)) (n + 1) p.left) (sym e);
          vector = step_lengths.0;
          bytes = step_lengths.1;
        }
