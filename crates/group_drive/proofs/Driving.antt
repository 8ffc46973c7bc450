-- A run of a group's steps, turn by turn.
use Prim.Native.Nat.{ℕ, ◌+◌, ◌-◌, ◌≤◌, ◌<◌}
use mathlib.Core.Path.{◌≡◌, refl, sym, ap, ◌∙◌}
use mathlib.Core.List.{List}
use native.Mathlib.Omega.{arith}
use lib.ListN.{length}
use borrow.Author.Tests.{ne_eqb}
use Rattle.memory.specs.Memories.{Region, Contents, bytes_at}
use Rattle.group.specs.Group.{next_of}
use Rattle.group.specs.GroupCalls.{GroupOutcome, group_outcome, group_step_of, group_ran, group_steps_of}
use Rattle.group.proofs.GroupCases.{group_steps_end, group_steps_on, group_steps_stop}
use Rattle.layout.specs.declared.WarpWords.{WarpWords}
use Rattle.group_words.specs.Row.{group_in, Ready, FixedKept}
use Rattle.group_drive.specs.GroupDrives.{turn_after, Turns, GroupDrives}

-- u of b steps are taken, from the words a to the words e; the turn is at
pub record Going (k : List ℕ) (t b : ℕ) (a : List WarpWords) (v : List ℕ) (d : Contents) (e : List WarpWords) (f : List ℕ) (g : Contents) (at u : ℕ) : Type 0 where
  pub few : u ≤ b
  pub here : at < length a
  pub count : length e ≡ length a
  pub fixed : FixedKept a e
  pub ready : Ready k at e f g
  pub words : length f ≡ length v
  pub size : (r : Region) → length (bytes_at r g) ≡ length (bytes_at r d)
  pub goes : group_steps_of k b 0 (group_in t a v d) ≡ group_steps_of k (b - u) u (group_in at e f g)

module _ (k : List ℕ) (t b : ℕ) (a : List WarpWords) (v : List ℕ) (d : Contents) where
  pub going_start : t < length a → Ready k t a v d → Going k t b a v d a v d t 0
  going_start h r = let z : b - 0 ≡ b = omega arith in record { few = omega arith; here = h; count = refl; fixed = λ i. refl; ready = r; words = refl; size = λ q. refl; goes = rw z }

  module _ (e : List WarpWords) (f : List ℕ) (g : Contents) (at u : ℕ) (o : Going k t b a v d e f g at u) where
    pub drives_end : b ≤ u → GroupDrives k t b 0 0 b at a v d e f g
    drives_end l =
        let q : u ≡ b = omega (arith, o.few) in
        record {
          warps = o.ready.warps;
          here = o.here;
          count = o.count;
          fixed = o.fixed;
          words = o.words;
          size = o.size;
          drives = ap (λ (n : ℕ). group_ran n (group_outcome 0 0 (group_in at e f g))) (sym q) ∙ sym (o.goes ∙ group_steps_end k b u (group_in at e f g) l);
        }

    module _ (l : u < b) (c i : ℕ) (e' : List WarpWords) (f' : List ℕ) (g' : Contents) (q : Turns k at c i e f g e' f' g') where
      step_is : (group_step_of k (group_in at e f g)).code ≡ c
      step_is = ap (λ (o : GroupOutcome). o.code) (sym q.goes)

      pub turn_lengths : (length f' ≡ length v) × ((r : Region) → length (bytes_at r g') ≡ length (bytes_at r d))
      turn_lengths = (q.words ∙ o.words, λ r. q.size r ∙ o.size r)

      pub going_on : c ≡ 0 → (at' : ℕ) → at' ≡ next_of (length e') i → at' < length e' → Going k t b a v d e' f' g' at' (u + 1)
      going_on z at' p h =
          record {
            few = omega arith;
            here = rw (q.count, o.count) at h;
            count = q.count ∙ o.count;
            fixed = λ j. q.fixed j ∙ o.fixed j;
            ready = rw (← turned) q.ready;
            words = turn_lengths.0;
            size = turn_lengths.1;
            goes = o.goes ∙ group_steps_on k b u (group_in at e f g) l (step_is ∙ z) ∙ ap (group_steps_of k (b - (u + 1)) (u + 1)) left;
          }
        where
          turned : turn_after (length e) at c i ≡ at'
          turned = rw z (ap (λ (m : ℕ). next_of m i) (sym q.count) ∙ sym p)

          left : (group_step_of k (group_in at e f g)).left ≡ group_in at' e' f' g'
          left = ap (λ (o : GroupOutcome). o.left) (sym q.goes) ∙ ap (λ (m : ℕ). group_in m e' f' g') turned

      pub drives_stop : (c ≡ 0 → ⊥) → GroupDrives k t b c i u at a v d e' f' g'
      drives_stop z =
          record {
            warps = q.ready.warps;
            here = o.here;
            count = q.count ∙ o.count;
            fixed = λ j. q.fixed j ∙ o.fixed j;
            words = turn_lengths.0;
            size = turn_lengths.1;
            drives = ap (group_ran u) stopped ∙ sym (o.goes ∙ group_steps_stop k b u (group_in at e f g) l (λ y. z (sym step_is ∙ y)));
          }
        where
          stopped : group_outcome c i (group_in at e' f' g') ≡ group_step_of k (group_in at e f g)
          stopped = rw (ne_eqb c 0 z) at q.goes
