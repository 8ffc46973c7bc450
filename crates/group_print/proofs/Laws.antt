-- The printout of a group by cases, in the order in which the files are tested.
use Prim.Native.Nat.{ℕ, ◌+◌, ◌*◌, ◌/◌, ◌%◌, ◌≤◌, ◌<◌}
use mathlib.Core.Path.{◌≡◌, refl, sym, ap, ◌∙◌}
use mathlib.Core.Bool.{Bool, true, false, not, cond}
use mathlib.Core.List.{List, [], ◌∷◌}
use native.Mathlib.Omega.{arith}
use lib.Dec.{eqb, leb}
use lib.ListN.{length, take, replicate, length-replicate}
use lib.Seq.{length-sets, length-take-le}
use borrow.Author.Tests.{eqb-true, ne_eqb, le-leb, lt-leb, leb-true}
use Rattle.io.specs.Counts.{IsPrefixLen}
use Rattle.answer.specs.Rows.{◌⇒◌, first}
use Rattle.answer.proofs.Rows.{every_at}
use Rattle.memory.specs.Memories.{Contents, contents}
use Rattle.card.specs.Card.{card_size}
use Rattle.group_words.specs.StateWords.{group_words}
use Rattle.group_launch.specs.GroupLaunchCall.{cards_in, none_is, GroupLaunchCalled, group_launch_called, cards_launch_of, group_launch_number, group_launch_call_of}
use Rattle.group_state.specs.GroupState.{GroupCalled, group_run_call_of}
use Rattle.launch_files.specs.LaunchFiles.{kernel_words_of, kernel_bytes, data_bytes}
use Rattle.text.specs.Puts.{Puts}
use Rattle.lines.specs.Lines.{code_line}
use Rattle.lines.specs.GroupLines.{group_room_needed}
use Rattle.group_print.specs.GroupPrint.{budget, ran_lines, launched_lines, group_files_ok, cards_code, group_print_of}

pub prefix_long : (m n : ℕ) → m ≤ n → m ≡ length (take m (replicate {A = ℕ} n 0))
prefix_long m n h = sym (length-take-le m (replicate {A = ℕ} n 0) (omega (arith, length-replicate {A = ℕ} n 0, h)))

-- a text at a buffer's start counts the buffer's first bytes
pub counted : {o w p : List ℕ} {r : ℕ} → Puts o 0 w p r → r ≤ group_room_needed → group_room_needed ≤ length o → IsPrefixLen r p
counted {o} {w} {p} {r} s a b =
    let n : length p ≡ length o = ap length s.text ∙ length-sets o 0 w in
    (omega arith, sym (length-take-le r p (omega arith)))

-- ---- the launch

module _ (n : ℕ) (cs k v : List ℕ) (c : Contents) (s : List ℕ) (o : GroupLaunchCalled) (e : o ≡ group_launch_call_of cs k v c s) where
  pub launch_refused : (o.number ≡ 0 → ⊥) → launched_lines n cs k v c s ≡ code_line o.number
  unfolding launched_lines
  launch_refused h = rw (← e, ne_eqb o.number 0 h)

  pub launch_ran : o.number ≡ 0 → (r : GroupCalled) → r ≡ group_run_call_of o.state k budget o.vector c (0 ∷ 0 ∷ []) → launched_lines n cs k v c s ≡ ran_lines n r
  unfolding launched_lines
  launch_ran h r f = rw (← e, h, f)

-- ---- the code where a file is over its limit

module _ (cs k v : List ℕ) (c : Contents) (s : List ℕ) where
  number_is : (group_launch_call_of cs k v c s).number ≡ group_launch_number cs k v c s
  unfolding group_launch_call_of
  number_is = go _ _ _ _ _ _ refl
    where
      go : (r : ℕ) (t : Bool) (a b d f : List ℕ) → eqb r 0 ≡ t → (cond t (group_launch_called 0 a b) (group_launch_called r d f)).number ≡ r
      go r true a b d f p = sym (eqb-true r 0 p)
      go r false a b d f p = refl

  no_state : length s ≡ 2 → group_launch_number cs k v c s ≡ cards_code cs
  unfolding group_launch_number cards_code
  no_state h = go (eqb (length cs % card_size) 0) (none_is 13 (cards_in cs) cs) (none_is 1 (cards_in cs) cs) _ (cards_launch_of cs k v c).code (ne_eqb (length s) (group_words (cards_in cs)) (λ e. omega (arith, h, e)))
    where
      go : (a b d f : Bool) (o : ℕ) → f ≡ false
          → first (13 ⇒ not a ∷ 13 ⇒ not b ∷ 1 ⇒ not d ∷ 1 ⇒ not f ∷ o ⇒ not (eqb o 0) ∷ []) ≡ first (13 ⇒ not a ∷ 13 ⇒ not b ∷ 1 ⇒ true ∷ [])
      go false b d f o e = refl
      go true false d f o e = refl
      go true true false f o e = refl
      go true true true f o e = rw e

  pub cards_code_lem : (o : GroupLaunchCalled) → o ≡ group_launch_call_of cs k v c s → length s ≡ 2 → o.number ≡ cards_code cs
  cards_code_lem o e h = ap (λ (x : GroupLaunchCalled). x.number) e ∙ number_is ∙ no_state h

-- ---- the files

module _ (cs k d l : List ℕ) where
  pub too_many : 1600 < length cs → group_print_of cs k d l ≡ code_line 1
  unfolding group_print_of
  too_many h = rw (lt-leb (length cs) 1600 h)

  pub too_large : length cs ≤ 1600 → group_files_ok k d l ≡ false → group_print_of cs k d l ≡ code_line (cards_code cs)
  unfolding group_print_of
  too_large h e = rw (le-leb (length cs) 1600 h, e)

  pub files_taken : length cs ≤ 1600 → group_files_ok k d l ≡ true
      → group_print_of cs k d l ≡ launched_lines (length cs / 50) cs (kernel_words_of k) (take (length cs / 50 * 8192) (replicate 262144 0)) (contents d l) (take (1 + length cs / 50 * 241) (replicate 7713 0))
  unfolding group_print_of
  files_taken h e = rw (le-leb (length cs) 1600 h, e)

  pub kernel_fits : group_files_ok k d l ≡ true → length k ≤ kernel_bytes
  unfolding group_files_ok
  kernel_fits e =
      let sizes : List Bool = eqb (length k % 4) 0 ∷ leb (length k) kernel_bytes ∷ leb (length d) data_bytes ∷ leb (length l) data_bytes ∷ [] in
      leb-true _ _ (every_at sizes e 1)
