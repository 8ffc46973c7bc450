-- A taken step of a warp keeps its group fit: neither 1 nor 2 refuses what it leaves.
use Prim.Native.Nat.{ℕ, zero, suc, ◌<◌}
use mathlib.Core.Path.{◌≡◌, refl, sym, ap, ◌∙◌}
use mathlib.Core.Bool.{true, false}
use mathlib.Core.List.{List, [], ◌∷◌, map}
use native.Mathlib.Nat.{le_of_suc-le-suc}
use native.Mathlib.Omega.{arith}
use lib.Dec.{ltb}
use lib.ListN.{length, get_or, set, length-set}
use lib.Seq.{get_or-set_same, get_or-set_other}
use borrow.Author.Tests.{ltb-false}
use Rattle.memory.specs.Memories.{Region, bytes_at}
use Rattle.warp.specs.declared.Fixed.{Fixed}
use Rattle.warp.specs.declared.Warp.{Warp}
use Rattle.warp.specs.Facts.{Formed}
use Rattle.warp.specs.Warp.{split_count, zero_warp}
use Rattle.warp.proofs.Formed.{formed, well, formed_stop, stopped_none, waiting_free}
use Rattle.definition.specs.State.{State}
use Rattle.definition.specs.Step.{step_of}
use Rattle.definition.proofs.Sizes.{sizes_kept}
use Rattle.definition.proofs.Sound.{step_sound}
use Rattle.definition.proofs.Used.{step_within}
use Rattle.group.specs.Group.{Group, count_of, warp_at, fixeds_of, file_start, file_at, state_at, some_runs, all_ended, freed, settled, gone_on}
use Rattle.group.specs.GroupRefuse.{fixed_at, goes_on_of}
use Rattle.group.proofs.GroupLaws.{by_test, by_equal, fixed_at_lem, length_file_kept, length_file, file_inside, length_put, next_below, freed_runs, freed_waits, length_settled, settled_at, settled_goes, settled_fixed}
use Rattle.group.proofs.GroupFacts.{GroupFit, goes_on}

-- every warp has all its split records
abbrev pub AllSplits : Group → Type 0
AllSplits m = (j : ℕ) → j < count_of m → length (warp_at j m).splits ≡ split_count

-- ---- a release

pub freed_formed : (w : Warp) → Formed w → Formed (freed w)
freed_formed w f =
    by_test w.waiting
    (λ b. rw (freed_waits w b)
    (formed_stop w f false false refl (let z : ltb 0 w.depth ≡ false = stopped_none w.ended w.waiting (ltb 0 w.depth) f.quiet b in omega (arith, ltb-false 0 w.depth z)) (waiting_free w f b)))
    (λ b. rw (freed_runs w b) f)

-- ---- what the launch fixed

set_fixed : (ws : List Warp) (i : ℕ) (w : Warp) → i < length ws → w.fixed ≡ (get_or ws i zero_warp).fixed → map (λ (u : Warp). u.fixed) (set ws i w) ≡ map (λ (u : Warp). u.fixed) ws
set_fixed [] i w h e = refl
set_fixed (u ∷ us) zero w h e = rw e
set_fixed (u ∷ us) (suc i) w h e = ap (λ (fs : List Fixed). u.fixed ∷ fs) (set_fixed us i w (le_of_suc-le-suc h) e)

-- ---- a taken step of warp i

module _ (k : List ℕ) (m : Group) (f : GroupFit k m) (long : AllSplits m) (i : ℕ) (h : i < count_of m) (z : (step_of k (state_at i m)).code ≡ 0) where
  abbrev S : State
  S = (step_of k (state_at i m)).left

  abbrev Stepped : List Warp
  Stepped = set m.warps i S.warp

  abbrev N : Group
  N = gone_on i S m

  warp_count : length Stepped ≡ count_of m
  warp_count = length-set m.warps i S.warp

  pub kept_count : count_of N ≡ count_of m
  unfolding gone_on
  kept_count = length_settled Stepped ∙ warp_count

  fixed_is : S.warp.fixed ≡ (warp_at i m).fixed
  fixed_is = (step_within k (state_at i m)).fixed

  pub kept_fixeds : fixeds_of N ≡ fixeds_of m
  unfolding gone_on
  kept_fixeds = settled_fixed Stepped ∙ set_fixed m.warps i S.warp h fixed_is

  kept_words : length N.vector ≡ length m.vector
  unfolding gone_on
  kept_words =
      let b = file_inside (count_of m) i m.vector f.files h in
      length_put i m.vector b S.vector ((step_within k (state_at i m)).words ∙ length_file i m.vector b)

  kept_size : (r : Region) → length (bytes_at r N.bytes) ≡ length (bytes_at r m.bytes)
  unfolding gone_on
  kept_size r = (step_within k (state_at i m)).size r

  -- warp j before the release: the stepped one, or as it was
  stepped_formed : (j : ℕ) → j < count_of m → Formed (get_or Stepped j zero_warp)
  stepped_formed j b =
      by_equal j i
      (λ e. rw (e, get_or-set_same m.warps i S.warp zero_warp h) (step_sound k (state_at i m) z (long i h)).formed)
      (λ e. rw (get_or-set_other m.warps i j S.warp zero_warp e) (formed (warp_at j m) (long j b) (f.each j b)))

  pub kept_formed : (j : ℕ) → j < count_of m → Formed (warp_at j N)
  unfolding gone_on
  kept_formed j b =
      rw (settled_at Stepped j (omega (arith, warp_count)))
      (by_test (some_runs Stepped) (λ e. rw e (stepped_formed j b)) (λ e. rw e (freed_formed (get_or Stepped j zero_warp) (stepped_formed j b))))

  kept_fixed : (j : ℕ) → j < count_of m → (warp_at j N).fixed ≡ (warp_at j m).fixed
  kept_fixed j b = sym (fixed_at_lem N j (omega (arith, kept_count))) ∙ ap (λ (fs : List Fixed). fixed_at fs j) kept_fixeds ∙ fixed_at_lem m j b

  goes : goes_on_of N ≡ true
  unfolding gone_on
  goes =
      by_test (all_ended (settled Stepped))
      (λ e. rw e)
      (λ e. goes_on N (rw kept_count (next_below (count_of m) i (omega (arith, h)))) (settled_goes Stepped e))

  pub fit_kept : GroupFit k N
  fit_kept =
      record {
        some = omega (arith, f.some, kept_count);
        most = omega (arith, f.most, kept_count);
        files = kept_words ∙ f.files ∙ ap file_start (sym kept_count);
        sizes = λ j b.
            let c : j < count_of m = omega (arith, kept_count) in
            rw (kept_fixed j c) (sizes_kept (warp_at j m).fixed k (file_at j m.vector) m.bytes (file_at j N.vector) N.bytes (length_file_kept j m.vector N.vector kept_words) kept_size ∙ f.sizes j c);
        each = λ j b. well (warp_at j N) (kept_formed j (omega (arith, kept_count)));
        placed = rw kept_fixeds f.placed;
        goes = goes;
      }

  pub splits_kept : AllSplits N
  splits_kept j b = (kept_formed j (omega (arith, kept_count))).long
