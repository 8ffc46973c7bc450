-- The facts that the tests of a group stand for.
use Prim.Native.Nat.{ℕ, ◌≤◌, ◌<◌}
use mathlib.Core.Path.{◌≡◌, refl, sym, ◌∙◌, ap}
use mathlib.Core.Bool.{Bool, true, false, not, ◌&&◌, ◌||◌, true≢false}
use mathlib.Core.List.{List, [], ◌∷◌}
use native.Mathlib.Omega.{arith}
use lib.Dec.{eqb, leb, ltb}
use lib.ListN.{length, get_or, drop, length-map}
use borrow.Author.Tests.{eqb-true, eq-eqb, leb-true, le-leb, ltb-true, lt-ltb}
use Rattle.answer.specs.Rows.{between}
use Rattle.answer.proofs.Rows.{both, every_at}
use Rattle.memory.specs.Memories.{Contents}
use Rattle.warp.specs.declared.Fixed.{Fixed}
use Rattle.warp.specs.declared.Warp.{Warp}
use Rattle.isa.specs.Prefix.{pending}
use Rattle.warp.specs.Warp.{split_count, aligned}
use Rattle.warp.specs.WellFormed.{fixed_ok_of, chain_of, all_zero, prefix_ok_of, well_formed_of}
use Rattle.definition.specs.Refuse.{runs_ok_of}
use Rattle.group.specs.Group.{Group, count_of, warp_at, fixeds_of, file_start, file_at, some_runs, all_ended}
use Rattle.group.specs.Places.{InPlace}
use Rattle.lanes.specs.Lanes.{all_below}
use Rattle.lanes.proofs.Laws.{below_at, below_all}
use Rattle.group.specs.GroupRefuse.{warps_limit, fixed_at, sizes_ok_of, in_place_of, placed_of, goes_on_of, formed_of}
use Rattle.group.proofs.GroupLaws.{by_test, fixed_at_lem}

-- the tests of a well-formed warp
abbrev well_tests : Warp → List Bool
well_tests w =
    fixed_ok_of w.fixed ∷ aligned w.pc ∷ eqb (get_or w.x 0 0) 0 ∷ leb w.depth split_count ∷ all_zero (drop w.depth w.splits) ∷ not (w.ended && w.waiting)
    ∷ chain_of w.fixed.launchMask w.splits w.depth w.mask ∷ not ((w.ended || w.waiting) && ltb 0 w.depth) ∷ prefix_ok_of w.prefix
    ∷ not ((w.ended || w.waiting) && pending w.prefix) ∷ []

-- ---- 1: sizes

pub record GroupSizes (k : List ℕ) (fs : List Fixed) (v : List ℕ) (c : Contents) : Type 0 where
  pub some : 1 ≤ length fs
  pub most : length fs ≤ warps_limit
  pub files : length v ≡ file_start (length fs)
  pub own : (i : ℕ) → i < length fs → runs_ok_of (fixed_at fs i) k (file_at i v) c ≡ true

module _ (k : List ℕ) (fs : List Fixed) (v : List ℕ) (c : Contents) where
  pub group_sizes : sizes_ok_of k fs v c ≡ true → GroupSizes k fs v c
  unfolding sizes_ok_of
  group_sizes e =
      let own : ℕ → Bool = λ i. runs_ok_of (fixed_at fs i) k (file_at i v) c in
      let p = every_at (between 1 (length fs) warps_limit ∷ eqb (length v) (file_start (length fs)) ∷ all_below (length fs) own ∷ []) e in
      let q = both (leb 1 (length fs)) (leb (length fs) warps_limit) (p 0) in
      record { some = leb-true _ _ q.0; most = leb-true _ _ q.1; files = eqb-true _ _ (p 1); own = below_at (length fs) own (p 2) }

  pub sizes_group : GroupSizes k fs v c → sizes_ok_of k fs v c ≡ true
  unfolding sizes_ok_of
  sizes_group g = rw (le-leb _ _ g.some, le-leb _ _ g.most, eq-eqb _ _ g.files, below_all (length fs) (λ i. runs_ok_of (fixed_at fs i) k (file_at i v) c) g.own)

-- ---- 2: well formed

-- a waiting warp has not ended
pub waits_lasts : (w : Warp) → well_formed_of w ≡ true → w.waiting ≡ true → w.ended ≡ false
unfolding well_formed_of
waits_lasts w e b = go w.ended w.waiting (every_at (well_tests w) e 5) b
  where
    go : (a b : Bool) → not (a && b) ≡ true → b ≡ true → a ≡ false
    go true true n z = absurd (true≢false (sym n))
    go true false n z = absurd (true≢false (sym z))
    go false b n z = refl

pub record GroupFormed (m : Group) : Type 0 where
  pub each : (i : ℕ) → i < count_of m → well_formed_of (warp_at i m) ≡ true
  pub placed : placed_of (fixeds_of m) ≡ true
  pub goes : goes_on_of m ≡ true

module _ (m : Group) where
  pub group_formed : formed_of m ≡ true → GroupFormed m
  unfolding formed_of
  group_formed e =
      let p = every_at (all_below (count_of m) (λ i. well_formed_of (warp_at i m)) ∷ placed_of (fixeds_of m) ∷ goes_on_of m ∷ []) e in
      record { each = below_at (count_of m) (λ i. well_formed_of (warp_at i m)) (p 0); placed = p 1; goes = p 2 }

  pub formed_group : GroupFormed m → formed_of m ≡ true
  unfolding formed_of
  formed_group g = rw (below_all (count_of m) (λ i. well_formed_of (warp_at i m)) g.each, g.placed, g.goes)

  -- where not all have ended, the turn names a warp and some warp runs
  pub going : goes_on_of m ≡ true → all_ended m.warps ≡ false → (m.turn < count_of m) × (some_runs m.warps ≡ true)
  going e n = let q = both (ltb m.turn (count_of m)) (some_runs m.warps) (rw n at e) in (ltb-true _ _ q.0, q.1)

  pub goes_on : m.turn < count_of m → some_runs m.warps ≡ true → goes_on_of m ≡ true
  goes_on t r = by_test (all_ended m.warps) (λ e. rw e) (λ e. rw (e, lt-ltb _ _ t, r))

pub in_place : (n : ℕ) (z : Fixed) (i : ℕ) (f : Fixed) → in_place_of n z i f ≡ true → InPlace n z i f
in_place n z i f e =
    let p =
    every_at
    (eqb f.wid i ∷ eqb f.numw n ∷ eqb f.numt z.numt ∷ eqb f.codeBase z.codeBase ∷ eqb f.dataBase z.dataBase ∷ eqb f.lds z.lds ∷ [])
    e in
    record {
      wid = eqb-true _ _ (p 0);
      numw = eqb-true _ _ (p 1);
      numt = eqb-true _ _ (p 2);
      codeBase = eqb-true _ _ (p 3);
      dataBase = eqb-true _ _ (p 4);
      lds = eqb-true _ _ (p 5);
    }

pub place_in : (n : ℕ) (z : Fixed) (i : ℕ) (f : Fixed) → InPlace n z i f → in_place_of n z i f ≡ true
place_in n z i f p =
    rw (eq-eqb _ _ p.wid, eq-eqb _ _ p.numw, eq-eqb _ _ p.numt, eq-eqb _ _ p.codeBase, eq-eqb _ _ p.dataBase, eq-eqb _ _ p.lds)

pub placed_at : (fs : List Fixed) → placed_of fs ≡ true → (i : ℕ) → i < length fs → InPlace (length fs) (fixed_at fs 0) i (fixed_at fs i)
unfolding placed_of
placed_at fs e i h = in_place (length fs) (fixed_at fs 0) i (fixed_at fs i) (below_at (length fs) (λ j. in_place_of (length fs) (fixed_at fs 0) j (fixed_at fs j)) e i h)

pub all_placed : (fs : List Fixed) → ((i : ℕ) → i < length fs → InPlace (length fs) (fixed_at fs 0) i (fixed_at fs i)) → placed_of fs ≡ true
unfolding placed_of
all_placed fs g =
    below_all (length fs) (λ j. in_place_of (length fs) (fixed_at fs 0) j (fixed_at fs j)) (λ i h. place_in (length fs) (fixed_at fs 0) i (fixed_at fs i) (g i h))

-- ---- a group that passes 1 and 2, warp by warp

pub record GroupFit (k : List ℕ) (m : Group) : Type 0 where
  pub some : 1 ≤ count_of m
  pub most : count_of m ≤ warps_limit
  pub files : length m.vector ≡ file_start (count_of m)
  pub sizes : (i : ℕ) → i < count_of m → runs_ok_of (warp_at i m).fixed k (file_at i m.vector) m.bytes ≡ true
  pub each : (i : ℕ) → i < count_of m → well_formed_of (warp_at i m) ≡ true
  pub placed : placed_of (fixeds_of m) ≡ true
  pub goes : goes_on_of m ≡ true

-- as many values of the launch as warps
pub count_fixeds : (m : Group) → length (fixeds_of m) ≡ count_of m
count_fixeds m = length-map m.warps (λ (w : Warp). w.fixed)

module _ (k : List ℕ) (m : Group) where
  pub group_fit : sizes_ok_of k (fixeds_of m) m.vector m.bytes ≡ true → formed_of m ≡ true → GroupFit k m
  group_fit a b =
      let s = group_sizes k (fixeds_of m) m.vector m.bytes a in
      let f = group_formed m b in
      let n : length (fixeds_of m) ≡ count_of m = count_fixeds m in
      record {
        some = omega arith;
        most = omega arith;
        files = s.files ∙ ap file_start n;
        sizes = λ i h. rw (fixed_at_lem m i h) at (s.own i (omega arith));
        each = f.each;
        placed = f.placed;
        goes = f.goes;
      }

  pub fit_sizes : GroupFit k m → sizes_ok_of k (fixeds_of m) m.vector m.bytes ≡ true
  fit_sizes g =
      let n : length (fixeds_of m) ≡ count_of m = count_fixeds m in
      sizes_group k (fixeds_of m) m.vector m.bytes
      (record { some = omega (arith, g.some); most = omega (arith, g.most); files = g.files ∙ ap file_start (sym n); own = λ i h. let l : i < count_of m = omega arith in rw (fixed_at_lem m i l) (g.sizes i l) })

  pub fit_formed : GroupFit k m → formed_of m ≡ true
  fit_formed g = formed_group m (record { each = g.each; placed = g.placed; goes = g.goes })

  -- warp i has WID i
  pub fit_place : GroupFit k m → (i : ℕ) → i < count_of m → InPlace (count_of m) (warp_at 0 m).fixed i (warp_at i m).fixed
  fit_place g i h =
      let n : length (fixeds_of m) ≡ count_of m = count_fixeds m in
      rw (n, fixed_at_lem m i h, fixed_at_lem m 0 (omega arith)) at (placed_at (fixeds_of m) g.placed i (omega arith))
