-- Over a group's step each of its warps goes on as a single warp does, and what 1 and 2 test stays so.
use Prim.Native.Nat.{ℕ, ◌≤◌, ◌<◌}
use mathlib.Core.Path.{◌≡◌, refl, sym, ◌∙◌, ap}
use mathlib.Core.Bool.{true, false}
use mathlib.Core.List.{List}
use native.Mathlib.Omega.{arith}
use lib.ListN.{length, set}
use lib.Seq.{map-set_same}
use Rattle.memory.specs.Memories.{Region, bytes_at}
use Rattle.warp.specs.declared.Launch.{Launch}
use Rattle.warp.specs.declared.Warp.{Warp}
use Rattle.warp.specs.Warp.{zero_warp, with_stop}
use Rattle.definition.specs.State.{State, state, Outcome}
use Rattle.definition.specs.Step.{step_of}
use Rattle.definition.proofs.Calls.{release_waits}
use Rattle.definition.proofs.Used.{step_within}
use Rattle.promises.specs.Reached as single
use Rattle.promises.specs.Reached.{GoesOn, releases, Reached, goes}
use Rattle.promises.proofs.Reached.{Fit, goes_fit}
use Rattle.group.specs.Group.{Group, count_of, fixeds_of, state_at, all_ended, pick_of, settled}
use Rattle.group.specs.GroupRefuse.{goes_on_of}
use Rattle.group.specs.GroupCalls.{group_outcome, group_step_of}
use Rattle.group.proofs.GroupLaws.{by_test, by_equal, next_below, settled_goes, settled_fixed, gone_on_lem, length_file_kept}
use Rattle.group.proofs.GroupFacts.{GroupFit, goes_on}
use Rattle.group.proofs.GroupCases.{Taken, group_taken}
use Rattle.group_promises.specs.Steps.{Kept, same, released, Leads, Stepped}
use Rattle.group_promises.specs.Reached.{GroupGoesOn, steps, changes}
use Rattle.group_promises.specs.Runs.{AllSplits}
use Rattle.group_promises.proofs.Steps.{group_step_is}

-- a move of a single warp, after which the group may release it
pub data Hop (k : List ℕ) (s : State) : State → Type 0 where
  hop : {t : State} {u : Warp} → GoesOn k s t → Kept t.warp u → Hop k s (state u t.vector t.bytes)

abbrev pub let_go : State → State
let_go s = state (with_stop false false s.warp) s.vector s.bytes

-- what a release keeps is kept where the group keeps a warp or releases it
pub kept_on : (k : List ℕ) (P : State → Type 0) → ((s : State) → GoesOn k s (let_go s) → P s → P (let_go s)) → (s : State) (u : Warp) → Fit k s → Kept s.warp u → P s
    → P (state u s.vector s.bytes)
kept_on k P on s u f (same e) p = rw e p
kept_on k P on s u f (released b e) p = rw e (on s (releases (release_waits s.warp f.formed b)) p)

pub hop_fit : (k : List ℕ) (s t : State) → Fit k s → Hop k s t → Fit k t
hop_fit k s t f (hop {t = v} {u = u} g x) = let a : Fit k v = goes_fit k s v f g in kept_on k (Fit k) (λ m b c. goes_fit k m _ c b) v u a x a

pub hop_reached : (k : List ℕ) (l : Launch) (s t : State) → Fit k s → Reached k l s → Hop k s t → Reached k l t
hop_reached k l s t f r (hop {t = v} {u = u} g x) = kept_on k (Reached k l) (λ m b c. goes c b) v u (goes_fit k s v f g) x (goes r g)

-- ---- the warps over a group's step

module _ (k : List ℕ) (m n : Group) (i : ℕ) (l : Leads k m i n) where
  -- the memories keep their sizes
  pub sizes_stay : (r : Region) → length (bytes_at r n.bytes) ≡ length (bytes_at r m.bytes)
  sizes_stay r = rw l.bytes (ap (λ (o : Outcome). length (bytes_at r o.left.bytes)) (sym l.taken) ∙ (step_within k (state_at i m)).size r)

  pub warp_hop : (j : ℕ) → j < count_of m → Hop k (state_at j m) (state_at j n)
  warp_hop j h = by_equal j i own other
    where
      own : j ≡ i → Hop k (state_at j m) (state_at j n)
      own e = rw (e, l.file, l.bytes) (hop (single.steps l.taken) l.own)

      other : (j ≡ i → ⊥) → Hop k (state_at j m) (state_at j n)
      other o = hop (single.changes (ap length (l.files j o)) sizes_stay) (l.others j h o)

-- ---- what 1 and 2 test

-- what the launches fixed stays
pub fixeds_kept : (k : List ℕ) (m n : Group) → group_step_of k m ≡ group_outcome 0 0 n → fixeds_of n ≡ fixeds_of m
fixeds_kept k m n e =
    let t : Taken k m n = group_taken k m n e in
    let w : Warp = (step_of k (state_at (pick_of m) m)).left.warp in
    rw (t.left, gone_on_lem (pick_of m) (step_of k (state_at (pick_of m) m)).left m)
    (settled_fixed (set m.warps (pick_of m) w) ∙ map-set_same (λ (w : Warp). w.fixed) m.warps (pick_of m) w zero_warp (step_within k (state_at (pick_of m) m)).fixed)

-- a settled group goes on
goes_kept : (k : List ℕ) (m n : Group) → 1 ≤ count_of m → group_step_of k m ≡ group_outcome 0 0 n → count_of n ≡ count_of m → goes_on_of n ≡ true
goes_kept k m n o e c =
    let t : Taken k m n = group_taken k m n e in
    let w : Warp = (step_of k (state_at (pick_of m) m)).left.warp in
    let q = t.left ∙ gone_on_lem (pick_of m) (step_of k (state_at (pick_of m) m)).left m in
    let ws : n.warps ≡ settled (set m.warps (pick_of m) w) = ap (λ (g : Group). g.warps) q in
    let b : n.turn < count_of n = rw (ap (λ (g : Group). g.turn) q, c) (next_below (count_of m) (pick_of m) o) in
    by_test (all_ended n.warps) (λ z. rw z) (λ z. goes_on n b (rw ws (settled_goes (set m.warps (pick_of m) w) (rw ws at z))))

-- from m to n: the group's shape stays, and each warp makes its hop
pub record Onward (k : List ℕ) (m n : Group) : Type 0 where
  pub count : count_of n ≡ count_of m
  pub words : length n.vector ≡ length m.vector
  pub fixeds : fixeds_of n ≡ fixeds_of m
  pub goes : goes_on_of n ≡ true
  pub hops : (j : ℕ) → j < count_of m → Hop k (state_at j m) (state_at j n)

pub onward : (k : List ℕ) (m n : Group) → GroupFit k m → GroupGoesOn k m n → Onward k m n
onward k m n g (steps e) =
    let s : Stepped k m n = group_step_is k m n e in
    let l = s.leads in
    record { count = l.count; words = l.words; fixeds = fixeds_kept k m n e; goes = goes_kept k m n g.some e l.count; hops = warp_hop k m n s.which l }
onward k m n g (changes {v = v} p q) =
    record { count = refl; words = p; fixeds = refl; goes = g.goes; hops = λ j h. hop (single.changes (length_file_kept j m.vector v p) q) (same refl) }

-- what passes 1 and 2, with the split records that a warp has
pub record Fits (k : List ℕ) (m : Group) : Type 0 where
  pub fit : GroupFit k m
  pub splits : AllSplits m

pub warp_fit : (k : List ℕ) (m : Group) → Fits k m → (i : ℕ) → i < count_of m → Fit k (state_at i m)
warp_fit k m f i h = record { formed = f.fit.each i h; splits = f.splits i h; runs = f.fit.sizes i h }

pub onward_fits : (k : List ℕ) (m n : Group) → Fits k m → Onward k m n → Fits k n
onward_fits k m n f o =
    let g : GroupFit k m = f.fit in
    record {
      fit =
          record {
            some = omega (arith, o.count, g.some);
            most = omega (arith, o.count, g.most);
            files = omega (arith, o.count, o.words, g.files);
            sizes = λ j h. (each j h).runs;
            each = λ j h. (each j h).formed;
            placed = rw o.fixeds g.placed;
            goes = o.goes;
          };
      splits = λ j h. (each j h).splits;
    }
  where
    each : (j : ℕ) → j < count_of n → Fit k (state_at j n)
    each j h =
        let b : j < count_of m = omega (arith, o.count) in
        hop_fit k (state_at j m) (state_at j n) (warp_fit k m f j b) (o.hops j b)

pub goes_fits : (k : List ℕ) (m n : Group) → Fits k m → GroupGoesOn k m n → Fits k n
goes_fits k m n f e = onward_fits k m n f (onward k m n f.fit e)
