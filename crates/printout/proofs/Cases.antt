-- The printout by cases, in the order in which the files are tested; and what follows of the call.
use Prim.Native.Nat.{ℕ, ◌≤◌}
use mathlib.Core.Path.{◌≡◌, refl, sym, ap, ◌∙◌}
use mathlib.Core.Bool.{Bool, true, false, cond}
use mathlib.Core.List.{List}
use native.Mathlib.Omega.{arith}
use native.Mathlib.Nat.{zero-add}
use lib.Dec.{eqb, leb}
use borrow.Author.Tests.{ne_eqb, leb-true}
use lib.ListN.{length, replicate, length-replicate}
use lib.Seq.{length-sets, length-take-le}
use Rattle.io.specs.Counts.{IsPrefixLen}
use Rattle.answer.proofs.Rows.{both}
use Rattle.lanes.specs.Lanes.{file_words}
use Rattle.memory.specs.Memories.{alone}
use Rattle.warp.specs.declared.Launch.{Launch}
use Rattle.warp.specs.WellFormed.{launch_ok_of}
use Rattle.card.specs.Card.{Reading}
use Rattle.definition.specs.State.{Outcome}
use Rattle.definition.specs.Refuse.{runs_ok_of}
use Rattle.definition.specs.Calls.{launch_of, run_of}
use Rattle.definition.proofs.Sizes.{sizes_kept}
use Rattle.launch_files.specs.LaunchFiles.{kernel_words_of, read_files_of}
use Rattle.text.specs.Puts.{Puts}
use Rattle.lines.specs.Lines.{code_line, room_needed}
use Rattle.printout.specs.Printout.{budget, Report, report, ran_report, kernel_report, report_of, printout_of, Printed, printed, put_into, buffers_ok_of, print_files_of}

-- ---- the files

module _ (c k v d : List ℕ) (r : Reading) (e : r ≡ read_files_of c k d) (n : ℕ) (is : n ≡ r.number) where
  pub files_refused : (n ≡ 0 → ⊥) → report_of c k v d ≡ report (code_line n) v d
  unfolding report_of
  files_refused h = rw (← e, ← is, ne_eqb n 0 h)

  pub files_taken : n ≡ 0 → report_of c k v d ≡ kernel_report (kernel_words_of k) r.launch v d
  unfolding report_of
  files_taken h = rw (← e, ← is, h)

-- ---- the launch

module _ (k : List ℕ) (l : Launch) (v d : List ℕ) (o : Outcome) (e : o ≡ launch_of k l v (alone d)) (n : ℕ) (is : n ≡ o.code) where
  pub launch_refused : (n ≡ 0 → ⊥) → kernel_report k l v d ≡ report (code_line n) o.left.vector o.left.bytes.data_bytes
  unfolding kernel_report
  launch_refused h = rw (← e, ← is, ne_eqb n 0 h)

  pub launch_ran : n ≡ 0 → kernel_report k l v d ≡ ran_report (run_of k budget o.left)
  unfolding kernel_report
  launch_ran h = rw (← e, ← is, h)

-- ---- the call

-- lines put at a buffer's start
pub put_report : {o w p v d : List ℕ} {r : ℕ} {x : Report} → Puts o 0 w p r → x ≡ report w v d → printed r p v d ≡ put_into o x
put_report s e = rw (e, s.text, s.end, zero-add)

module _ (c k d v o : List ℕ) where
  pub print_short : buffers_ok_of v o ≡ false → printed 0 o v d ≡ print_files_of c k d v o
  unfolding print_files_of
  print_short e = rw e

  pub print_done : buffers_ok_of v o ≡ true → put_into o (report_of c k v d) ≡ print_files_of c k d v o
  unfolding print_files_of
  print_done e = rw e

pub buffer_room : (v o : List ℕ) → buffers_ok_of v o ≡ true → room_needed ≤ length o
unfolding buffers_ok_of
buffer_room v o e = leb-true _ _ (both (eqb (length v) file_words) (leb room_needed (length o)) e).1

pub counted : (o p v d : List ℕ) (r : ℕ) (x : Report) → printed r p v d ≡ put_into o x → r ≤ room_needed → room_needed ≤ length o → IsPrefixLen r p
counted o p v d r x e a b =
    let n : length p ≡ length o = ap (λ (q : Printed). length q.out) e ∙ length-sets o 0 x.lines in
    (omega arith, sym (length-take-le r p (omega arith)))

-- Two results that the contract allows are equal: the size, and what each lent run holds.
pub print_determined : (c k d v o : List ℕ) (a b : Printed) → a ≡ print_files_of c k d v o → b ≡ print_files_of c k d v o → a ≡ b
print_determined c k d v o a b p q = p ∙ sym q

-- ---- the vector file that is lent doesn't matter

module _ (v d : List ℕ) (h : length v ≡ file_words) where
  abbrev zeros : List ℕ
  zeros = replicate file_words 0

  zeros_long : length zeros ≡ length v
  zeros_long = length-replicate {A = ℕ} file_words 0 ∙ sym h

  kernel_lines : (k : List ℕ) (l : Launch) (a b : Bool) → runs_ok_of l.fixed k v (alone d) ≡ a → launch_ok_of l ≡ b → (kernel_report k l v d).lines ≡ (kernel_report k l zeros d).lines
  unfolding kernel_report launch_of
  kernel_lines k l false b p q = rw (sizes_kept l.fixed k v (alone d) zeros (alone d) zeros_long (λ r. refl), p)
  kernel_lines k l true false p q = rw (sizes_kept l.fixed k v (alone d) zeros (alone d) zeros_long (λ r. refl), p, q)
  kernel_lines k l true true p q = rw (sizes_kept l.fixed k v (alone d) zeros (alone d) zeros_long (λ r. refl), p, q)

  pub printout_is : (c k : List ℕ) → (report_of c k v d).lines ≡ printout_of c k d
  unfolding report_of printout_of
  printout_is c k = go (read_files_of c k d) (eqb (read_files_of c k d).number 0)
    where
      go : (r : Reading) (t : Bool) → (cond t (kernel_report (kernel_words_of k) r.launch v d) (report (code_line r.number) v d)).lines ≡ (cond t (kernel_report (kernel_words_of k) r.launch zeros d) (report (code_line r.number) zeros d)).lines
      go r true = kernel_lines (kernel_words_of k) r.launch _ _ refl refl
      go r false = refl
