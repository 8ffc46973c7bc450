-- Demand 3 for a group, the lanes: a step of a group is a single warp's, and no other warp's vector file has to do with it.
use Prim.Native.Nat.{ℕ, ◌+◌, ◌≤◌, ◌<◌}
use mathlib.Core.Path.{◌≡◌, refl, sym, ◌∙◌, ap}
use mathlib.Core.Bool.{false}
use mathlib.Core.List.{List}
use lib.ListN.{length, get_or}
use Rattle.lanes.specs.declared.Lane.{Lane}
use Rattle.lanes.specs.Lanes.{file_words, lanes_max}
use Rattle.lanes.proofs.Laws.{below_same}
use Rattle.memory.specs.Memories.{Contents, bytes_at}
use Rattle.warp.specs.declared.Fixed.{Fixed}
use Rattle.definition.specs.State.{Outcome, outcome}
use Rattle.definition.specs.Refuse.{runs_ok_of}
use Rattle.definition.specs.Step.{step_of}
use Rattle.promises.specs.Lanes.{is_active, SameLane, Agree, all_but}
use Rattle.promises.proofs.Lanes.{kept, unwritten, unfelt}
use Rattle.group.specs.Group.{Group, group, count_of, fixeds_of, file_start, file_at, with_file_at, state_at, pick_of, gone_on}
use Rattle.group.specs.GroupRefuse.{fixed_at, sizes_ok_of, formed_of}
use Rattle.group.specs.GroupCalls.{GroupOutcome, group_outcome, group_step_of}
use Rattle.group.proofs.GroupLaws.{by_equal, file_inside, file_put, file_other, length_put, length_file_kept, gone_on_lem}
use Rattle.group.proofs.GroupCases.{Ready, picked_step, by_group_step, group_step_size, group_step_malformed, group_step_ended, group_step_taken, group_step_refused}
use Rattle.group_promises.specs.Steps.{Leads}
use Rattle.group_promises.specs.Lanes.{ButLane, GroupAlike, GroupLaneKept, GroupUnwritten, GroupUnfelt}
use Rattle.group_promises.proofs.Steps.{picked_one, ready_fit, ready_pick, ready_picked, own_words, leads}

-- ---- kept

lane_kept : (k : List ℕ) (m n : Group) (i j : ℕ) (l : Lane) → Leads k m j n → l.0 < lanes_max → is_active (state_at i m) l ≡ false → SameLane l (file_at i n.vector) (file_at i m.vector)
lane_kept k m n i j l g b o =
    by_equal i j (λ e r. rw (e, g.file, ← ap (λ (p : Outcome). p.left.vector) g.taken) (rw e at (kept k (state_at i m) l b o r))) (λ e r. rw (g.files i e))

pub group_lane_kept : GroupLaneKept
group_lane_kept k m i l b o =
    by_group_step k m (λ (p : GroupOutcome). SameLane l (file_at i p.left.vector) (file_at i m.vector)) (λ a r. refl) (λ a c r. refl) (λ a c e r. refl)
    (λ a z. lane_kept k m _ i (pick_of m) l (leads k m (ready_fit k m a) (pick_of m) (ready_pick k m a).below (picked_step k m).left (ap (λ (c : ℕ). outcome c (picked_step k m).left) z)) b o)
    (λ a z r. refl)

-- ---- writes no byte

pub group_unwritten : GroupUnwritten
group_unwritten k m i a r j t l =
    by_group_step k m (λ (p : GroupOutcome). get_or (bytes_at r p.left.bytes) j 0 ≡ get_or (bytes_at r m.bytes) j 0) (λ x. refl) (λ x y. refl) (λ x y z. refl) taken (λ x z. refl)
  where
    taken : Ready k m → (picked_step k m).code ≡ 0 → get_or (bytes_at r (gone_on (pick_of m) (picked_step k m).left m).bytes) j 0 ≡ get_or (bytes_at r m.bytes) j 0
    taken x z = rw (gone_on_lem (pick_of m) (picked_step k m).left m, ← picked_one m i (pick_of m) a (ready_picked k m x)) ((unwritten k (state_at i m) r).1 j l t)

-- ---- influences nothing

-- the sizes of vector files are their lengths
same_runs : (f : Fixed) (k v u : List ℕ) (c : Contents) → length u ≡ length v → runs_ok_of f k u c ≡ runs_ok_of f k v c
unfolding runs_ok_of
same_runs f k v u c e = rw e

same_sizes : (k : List ℕ) (fs : List Fixed) (v u : List ℕ) (c : Contents) → length u ≡ length v → sizes_ok_of k fs u c ≡ sizes_ok_of k fs v c
unfolding sizes_ok_of
same_sizes k fs v u c e =
    rw (e, below_same (length fs) (λ i. runs_ok_of (fixed_at fs i) k (file_at i u) c) (λ i. runs_ok_of (fixed_at fs i) k (file_at i v) c) (λ i h. same_runs (fixed_at fs i) k _ _ c (length_file_kept i v u e)))

-- the steps of warp j in two groups that differ in lane h of warp i alone
record Twins (i j : ℕ) (h : Lane) (o p : Outcome) : Type 0 where
  code : o.code ≡ p.code
  warp : o.left.warp ≡ p.left.warp
  bytes : o.left.bytes ≡ p.left.bytes
  own : j ≡ i → Agree (all_but h) o.left.vector p.left.vector
  other : (j ≡ i → ⊥) → o.left.vector ≡ p.left.vector

-- their vector files with warp j's new ones
put_but : (n i j : ℕ) (h : Lane) (v u f g : List ℕ) → j < n → length v ≡ file_start n → length f ≡ file_words → length g ≡ file_words → ButLane i h v u → (j ≡ i → Agree (all_but h) f g)
    → ((j ≡ i → ⊥) → f ≡ g) → ButLane i h (with_file_at j f v) (with_file_at j g u)
put_but n i j h v u f g l e lf lg b own other =
    record {
      words = length_put j v a f lf ∙ b.words ∙ sym (length_put j u c g lg);
      own = by_equal j i (λ z. rw (← z, file_put j v a f lf, file_put j u c g lg) (own z)) (λ z. let y : i ≡ j → ⊥ = λ q. z (sym q) in rw (file_other j v a f lf i y, file_other j u c g lg i y) b.own);
      others = λ x o. by_equal x j (λ z. rw (z, file_put j v a f lf, file_put j u c g lg) (other (λ q. o (z ∙ q)))) (λ z. rw (file_other j v a f lf x z, file_other j u c g lg x z) (b.others x o));
    }
  where
    a : file_start j + file_words ≤ length v
    a = file_inside n j v e l

    c : file_start j + file_words ≤ length u
    c = file_inside n j u (sym b.words ∙ e) l

module _ (k : List ℕ) (m : Group) (u : List ℕ) (i : ℕ) (h : Lane) (o : is_active (state_at i m) h ≡ false) (b : ButLane i h m.vector u) where
  abbrev twin : Group
  twin = group m.turn m.warps u m.bytes

  twin_sizes : sizes_ok_of k (fixeds_of twin) u m.bytes ≡ sizes_ok_of k (fixeds_of m) m.vector m.bytes
  twin_sizes = same_sizes k (fixeds_of m) m.vector u m.bytes (sym b.words)

  twin_formed : formed_of twin ≡ formed_of m
  unfolding formed_of
  twin_formed = refl

  twins : (j : ℕ) → Twins i j h (step_of k (state_at j m)) (step_of k (state_at j twin))
  twins j =
      by_equal j i
      (λ e. let a = unfelt k (state_at i m) (file_at i u) h o b.own in rw e (record { code = a.code; warp = a.warp; bytes = a.bytes; own = λ z. a.vector; other = λ z. absurd (z refl) }))
      (λ e. rw (b.others j e) (record { code = refl; warp = refl; bytes = refl; own = λ z. absurd (e z); other = λ z. refl }))

  as_handed : (c j : ℕ) → GroupAlike i h (group_outcome c j m) (group_outcome c j twin)
  as_handed c j = record { code = refl; stopped = refl; turn = refl; warps = refl; bytes = refl; vector = b }

  module _ (r : Ready k m) where
    abbrev p : ℕ
    p = pick_of m

    ready_twin : Ready k twin
    ready_twin = record { sizes = twin_sizes ∙ r.sizes; formed = twin_formed ∙ r.formed; going = r.going }

    taken : (picked_step k m).code ≡ 0 → GroupAlike i h (group_outcome 0 0 (gone_on p (picked_step k m).left m)) (group_step_of k twin)
    taken z =
        let t : Twins i p h (picked_step k m) (picked_step k twin) = twins p in
        let y : (picked_step k twin).code ≡ 0 = sym t.code ∙ z in
        let l = (ready_pick k m r).below in
        rw (group_step_taken k twin ready_twin.sizes ready_twin.formed ready_twin.going y, gone_on_lem p (picked_step k m).left m, gone_on_lem p (picked_step k twin).left twin, t.warp, t.bytes)
        (record {
          code = refl;
          stopped = refl;
          turn = refl;
          warps = refl;
          bytes = refl;
          vector =
              put_but (count_of m) i p h m.vector u (picked_step k m).left.vector (picked_step k twin).left.vector l (ready_fit k m r).files
              (own_words k m (ready_fit k m r) p l (picked_step k m).left (ap (λ (c : ℕ). outcome c (picked_step k m).left) z))
              (own_words k twin (ready_fit k twin ready_twin) p l (picked_step k twin).left (ap (λ (c : ℕ). outcome c (picked_step k twin).left) y))
              b t.own t.other;
        })

    refused : ((picked_step k m).code ≡ 0 → ⊥) → GroupAlike i h (group_outcome (picked_step k m).code p m) (group_step_of k twin)
    refused z =
        let t : Twins i p h (picked_step k m) (picked_step k twin) = twins p in
        rw (group_step_refused k twin ready_twin.sizes ready_twin.formed ready_twin.going (λ q. z (t.code ∙ q)), t.code) (as_handed (picked_step k twin).code p)

pub group_unfelt : GroupUnfelt
group_unfelt k m u i h o b =
    by_group_step k m (λ x. GroupAlike i h x (group_step_of k (twin k m u i h o b)))
    (λ a. rw (group_step_size k (twin k m u i h o b) (twin_sizes k m u i h o b ∙ a)) (as_handed k m u i h o b 1 0))
    (λ a c. rw (group_step_malformed k (twin k m u i h o b) (twin_sizes k m u i h o b ∙ a) (twin_formed k m u i h o b ∙ c)) (as_handed k m u i h o b 2 0))
    (λ a c e. rw (group_step_ended k (twin k m u i h o b) (twin_sizes k m u i h o b ∙ a) (twin_formed k m u i h o b ∙ c) e) (as_handed k m u i h o b 3 0))
    (taken k m u i h o b) (refused k m u i h o b)
