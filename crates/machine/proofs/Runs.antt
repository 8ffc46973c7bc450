-- From a run of the words to a run of the warp.
use Prim.Native.Nat.{ℕ, ◌≤◌}
use mathlib.Core.Path.{◌≡◌, sym, ap, ◌∙◌}
use mathlib.Core.Bool.{true}
use mathlib.Core.List.{List}
use lib.ListN.{length}
use Rattle.warp.specs.declared.Warp.{Warp}
use Rattle.warp.specs.Warp.{split_count}
use Rattle.memory.specs.Memories.{alone}
use Rattle.memory.proofs.Laws.{alone_still}
use Rattle.layout.specs.declared.WarpWords.{WarpWords}
use Rattle.layout.specs.Parts.{parts_of, warp_from, sound_from}
use Rattle.layout.proofs.Words.{apart, apart_sound}
use Rattle.definition.specs.State.{State, state, Outcome, outcome}
use Rattle.definition.specs.Step.{step_of}
use Rattle.definition.specs.Calls.{Ran, ran, run_of}
use Rattle.definition.proofs.Tests.{step_kept}
use Rattle.definition.proofs.Calls.{run_one}
use Rattle.handlers.specs.Handles.{Lists, lists, lent_warp}
use Rattle.drive.specs.Drives.{RunsWords}
use Rattle.drive.proofs.Runs.{run_sound}

-- the warp taken apart
module _ (w : Warp) (long : length w.splits ≡ split_count) (deep : w.depth ≤ split_count) (p : WarpWords) (ep : p ≡ parts_of w) where
  stands : warp_from p ≡ w
  stands = rw ep (apart w long)

  sound : sound_from p ≡ true
  sound = rw ep (apart_sound w long deep)

  pub run_goes : (k : List ℕ) (n c t : ℕ) (v d : List ℕ) (u : Warp) (b : Lists) → RunsWords k n c t (lists p.fixed p.moving p.scalars p.splits v (alone d)) b → u ≡ lent_warp b
      → ran t (outcome c (state u b.vector (alone b.bytes.data_bytes))) ≡ run_of k n (state w v (alone d))
  run_goes k n c t v d u b q e =
      rw (e, alone_still b.bytes d q.size) (q.runs ∙ run_sound k n (lists p.fixed p.moving p.scalars p.splits v (alone d)) sound ∙ ap (λ (y : Warp). run_of k n (state y v (alone d))) stands)

-- a run of one step is a step
pub one_step : (k : List ℕ) (m : State) (t : ℕ) (o : Outcome) → ran t o ≡ run_of k 1 m → o ≡ step_of k m
one_step k m t o e = ap (λ (r : Ran). r.ends) e ∙ run_one k m

-- and where it is refused, what was handed in stays
pub refused_one : (k : List ℕ) (m : State) (t c : ℕ) (u : State) → ran t (outcome c u) ≡ run_of k 1 m → (c ≡ 0 → ⊥) → outcome c (state m.warp u.vector u.bytes) ≡ step_of k m
refused_one k m t c u e z =
    let s : outcome c u ≡ step_of k m = one_step k m t (outcome c u) e in
    let same : u ≡ m = ap (λ (o : Outcome). o.left) (s ∙ step_kept k m (λ y. z (ap (λ (o : Outcome). o.code) s ∙ y))) in
    ap (λ (x : State). outcome c (state x.warp u.vector u.bytes)) (sym same) ∙ s
